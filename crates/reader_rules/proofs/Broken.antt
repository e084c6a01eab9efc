-- Demand 1 for the reader: it finds the first broken rule of 1 to 13, as the plain statements have it, and nothing else.
use mathlib.Core.Path.{◌≡◌}
use mathlib.Core.List.{List, [], ◌∷◌}
use mathlib.Core.Logic.{⊎_elim}
use Prim.Native.Nat.{ℕ, ◌<◌, ◌≤◌}
use native.Mathlib.Omega.{arith}
use Rattle.faults.specs.Outcome.{Group, author, refused}
use Rattle.faults.specs.Rule.{AllKept, FirstBroken}
use Rattle.faults.specs.Exact.{Exact}
use Rattle.faults.proofs.Rule.{Decided, exact, then_decided}
use Rattle.faults.proofs.Numbers.{number_of}
use Rattle.calls.specs.Answers.{stage, Answers}
use Rattle.calls.proofs.Answers.{stage_answers}
use Rattle.layout_rules.proofs.Passed.{whole_records}
use Rattle.layout_rules.proofs.Broken.{layout_decided}
use Rattle.digit_rules.specs.Record.{element_count}
use Rattle.digit_rules.proofs.Broken.{digits_decided}
use Rattle.prefix_rules.proofs.Broken.{leaves_decided}
use Rattle.reader_rules.specs.Table.{base_part, alphabet_part, input_part, leaf_part, word_part}
use Rattle.reader_rules.specs.TableFacts.{table_facts}
use Rattle.reader_rules.specs.Check.{layout_check, digit_check_of, leaf_check_of, table_check, read_outcome}
use Rattle.reader_rules.specs.Broken.{layout_rules, table_rules}
use Rattle.reader_rules.proofs.Kept.{no_number, layout_kept}

-- a file that passes rules 1 to 4 has an input digit
pub some_input : (file : List ℕ) → (layout_check file).number ≡ 0 → 0 < element_count (input_part file)
some_input file h = let kept = layout_kept file h in (whole_records file kept.0 kept.1 2 (omega arith)).least

-- Rules 1 to 4
pub layout_found : (file : List ℕ) → Decided (layout_rules file) (layout_check file)
unfolding layout_check
layout_found file = layout_decided file

pub table_decided : (file : List ℕ) → Decided (table_rules file) (table_check file)
unfolding table_check digit_check_of leaf_check_of
table_decided file =
    then_decided _ _ _ _ (layout_found file)
    (λ kept. then_decided _ _ _ _ (digits_decided (base_part file) (alphabet_part file) (input_part file))
    (λ _. leaves_decided (leaf_part file) (word_part file) (element_count (input_part file)) (input kept)))
  where
    input : AllKept (layout_rules file) → 0 < element_count (input_part file)
    input kept = some_input file (no_number _ ((exact _ _ (layout_found file)).passed.1 kept))

-- Rules 1 to 13, in their order
pub table_exact : (file : List ℕ) → Exact (table_rules file) (table_check file)
table_exact file = exact _ _ (table_decided file)

-- Demand 1 for the reader's outcome, for every list of bytes
pub reader_exact : (file : List ℕ) → Answers (stage author (table_rules file) ∷ []) (table_facts file) (read_outcome file)
unfolding read_outcome
reader_exact file = stage_answers author (table_rules file) (table_check file) (table_facts file) (table_decided file)

-- The reader refuses in the author's name only, and with 1 to 13
pub reader_numbers : (file : List ℕ) (whose : Group) (n p : ℕ) → read_outcome file ≡ refused whose n p → (whose ≡ author) × (1 ≤ n) × (n ≤ 13)
reader_numbers file whose n p e = (own.0, some, number_of (λ n. n ≤ 13) (table_rules file) (omega arith) n p own.1)
  where
    some : 0 < n
    some = (reader_exact file).some_number whose n p e

    own : (whose ≡ author) × FirstBroken (table_rules file) n p
    own = ⊎_elim (λ f. f) (λ f. absurd f.1) (((reader_exact file).first whose n p some).0 e)
