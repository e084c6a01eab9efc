-- Pinned by demand_1 (proofs/Demand.antt): a reader may skip this file. Rule 14 of document 01 as a check over the five sections, of a file or not: "The check also takes every two leaves, upper U and lower L,
-- that fit .. The first digit of U, plus L's weight, minus β times U's weight, must be in the alphabet."
use Rattle.std.specs.Prelude.{Bool, true, false, List, ℕ, ℤ, ltb, get_or}
use Rattle.layout_rules.specs.Section.{Section}
use Rattle.lists.specs.Scan.{first_failing}
use Rattle.faults.specs.declared.Refusal.{Refusal}
use Rattle.faults.specs.Check.{judge}
use Rattle.ring.specs.Element.{minus}
use Rattle.ring.specs.Degree.{part_count}
use Rattle.ring.specs.Padded.{padded_times}
use Rattle.digit_rules.specs.Record.{record_at, element_count}
use Rattle.digit_rules.specs.Digits.{index_in}
use Rattle.numeration.specs.PairTests.{pair_passes, upper_passes}
use Rattle.leaf_rules.specs.Leaf.{leaf_count, code_of}
use Rattle.leaf_rules.specs.Given.{word_given, weight_given}
use Rattle.reader_rules.specs.Table.{system}
use Rattle.table_rules.specs.declared.Pair.{Pair}

-- an element is in the alphabet
unfoldable pub in_alphabet : Section → List ℤ → Bool
in_alphabet alphabet x = ltb (index_in alphabet (element_count alphabet) x) (element_count alphabet)

-- what an upper leaf gives to the digits of its pairs: its first digit minus the base times its weight
abbrev pub upper_part : List (List ℤ) → Section → Section → List ℕ → ℕ → List ℤ
upper_part matrix inputs leaves words u =
    minus (record_at inputs (get_or (word_given leaves words u) 0 0)) (padded_times (part_count leaves.degree) matrix (weight_given leaves u))

module _ (base alphabet inputs leaves : Section) (words : List ℕ) where
  -- a pair that doesn't fit, or gives an alphabet digit
  abbrev pub passes : ℕ → ℕ → Bool
  passes u l = pair_passes (system base) (record_at inputs) (code_of leaves words) (in_alphabet alphabet) u l

  -- the lowest lower leaf that fails with u, or the leaf count
  unfoldable pub bad_lower : ℕ → ℕ
  bad_lower u = first_failing (passes u) 0 (leaf_count leaves)

  -- the lowest upper leaf that fails, or the leaf count
  unfoldable pub bad_upper : ℕ
  bad_upper = first_failing (upper_passes (system base) (record_at inputs) (code_of leaves words) (in_alphabet alphabet)) 0 (leaf_count leaves)

  -- 14: two fitting leaves give no alphabet digit (lowest U)
  unfoldable pub pair_check : Refusal
  pair_check = judge 14 (λ k. k) (upper_passes (system base) (record_at inputs) (code_of leaves words) (in_alphabet alphabet)) (leaf_count leaves)

  -- the failing pair that the stage names: the lowest upper leaf and its lowest lower leaf; the leaf count twice where none fails
  unfoldable pub bad_pair : Pair
  bad_pair =
      elim (ltb bad_upper (leaf_count leaves)) [
        | true ↦ record { upper = bad_upper; lower = bad_lower bad_upper }
        | false ↦ record { upper = leaf_count leaves; lower = leaf_count leaves }
      ]
