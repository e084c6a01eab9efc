-- What the failing pair is that rule 14 names, in plain words: the lowest upper leaf that fails, and the lowest leaf that fails with it.
use mathlib.Core.Path.{sym, subst}
use mathlib.Core.Bool.{Bool}
use mathlib.Core.List.{List}
use Prim.Native.Nat.{ℕ, ◌<◌}
use native.Mathlib.Omega.{arith}
use native.Mathlib.Decide.{dec_lt}
use lib.IntN.{ℤ}
use Rattle.layout_rules.specs.Section.{Section}
use Rattle.lists.proofs.Scan.{scan_passed, scan_failed, every_sound}
use Rattle.lists.proofs.Test.{clash}
use Rattle.digit_rules.specs.Record.{record_at}
use Rattle.digit_rules.specs.Broken.{Listed}
use Rattle.numeration.specs.Pairs.{Fits, pair_digit}
use Rattle.numeration.specs.PairTests.{upper_passes}
use Rattle.leaf_rules.specs.Leaf.{leaf_count, code_of}
use Rattle.reader_rules.specs.Table.{system}
use Rattle.table_rules.specs.declared.Pair.{Pair}
use Rattle.table_rules.specs.Pairs.{in_alphabet, passes, bad_lower, bad_upper, bad_pair}
use Rattle.table_rules.proofs.Bad.{upper_passes_lem, upper_is, picked}
use Rattle.table_rules.proofs.Demand.{pair_fails, pair_passes_lem}

module _ (base alphabet inputs leaves : Section) (words : List ℕ) where
  abbrev digit : ℕ → ℕ → List ℤ
  digit u l = pair_digit (system base) (record_at inputs) (code_of leaves words) u l

  pub record FirstFailing (p : Pair) : Type 0 where
    pub upper_there : p.upper < leaf_count leaves
    pub lower_there : p.lower < leaf_count leaves
    pub fit : Fits (code_of leaves words) p.upper p.lower
    pub not_listed : ¬ (Listed alphabet (digit p.upper p.lower))
    pub uppers_pass : (u l : ℕ) → u < p.upper → l < leaf_count leaves → Fits (code_of leaves words) u l → Listed alphabet (digit u l)
    pub lowers_pass : (l : ℕ) → l < p.lower → Fits (code_of leaves words) p.upper l → Listed alphabet (digit p.upper l)

  abbrev upper : ℕ → Bool
  upper v = upper_passes (system base) (record_at inputs) (code_of leaves words) (in_alphabet alphabet) v

  abbrev u : ℕ
  u = bad_upper base alphabet inputs leaves words

  abbrev l : ℕ
  l = bad_lower base alphabet inputs leaves words u

  -- the upper leaf fails, so a lower one is found
  lower_found : u < leaf_count leaves → l < leaf_count leaves
  unfolding bad_upper
  lower_found h =
      elim (dec_lt l (leaf_count leaves)) [
        | yes k ↦ k
        | no k ↦ absurd (clash (upper_passes_lem base alphabet inputs leaves words u (omega arith)) (scan_failed upper 0 (leaf_count leaves) (omega arith)))
      ]

  first_failing : u < leaf_count leaves → FirstFailing (record { upper = u; lower = l })
  unfolding bad_upper bad_lower upper_passes
  first_failing h =
      let found = lower_found h in
      let fails = pair_fails base alphabet inputs leaves words u l (scan_failed (passes base alphabet inputs leaves words u) 0 (leaf_count leaves) (omega arith)) in
      record {
        upper_there = h;
        lower_there = found;
        fit = fails.0;
        not_listed = fails.1;
        uppers_pass = λ v k low there. pair_passes_lem base alphabet inputs leaves words v k (every_sound _ 0 (leaf_count leaves) (scan_passed upper 0 (leaf_count leaves) v (omega arith) low) k (omega arith) (omega arith));
        lowers_pass = λ k low. pair_passes_lem base alphabet inputs leaves words u k (scan_passed _ 0 (leaf_count leaves) k (omega arith) low);
      }

  pub failing_first : (bad_pair base alphabet inputs leaves words).upper < leaf_count leaves → FirstFailing (bad_pair base alphabet inputs leaves words)
  failing_first h =
      let there : u < leaf_count leaves = subst (λ (n : ℕ). n < leaf_count leaves) (upper_is base alphabet inputs leaves words) h in
      subst FirstFailing (sym (picked base alphabet inputs leaves words there)) (first_failing there)
