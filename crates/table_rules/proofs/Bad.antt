-- The failing pair that rule 14 names.
use mathlib.Core.Path.{◌≡◌, sym, ap, ◌∙◌}
use mathlib.Core.Bool.{Bool, true, false}
use mathlib.Core.List.{List}
use Prim.Native.Nat.{ℕ, ◌+◌, ◌<◌, ◌≤◌}
use native.Mathlib.Omega.{arith}
use native.Mathlib.Decide.{dec_lt}
use native.Mathlib.Nat.{le_antisymm}
use lib.Dec.{ltb}
use borrow.Author.Tests.{lt-ltb, le-ltb}
use Rattle.layout_rules.specs.Section.{Section}
use Rattle.lists.proofs.Scan.{scan_all, scan_unique, scan_high, every_below, every_reached}
use Rattle.digit_rules.specs.Record.{record_at}
use Rattle.numeration.specs.PairTests.{upper_passes}
use Rattle.leaf_rules.specs.Leaf.{leaf_count, code_of}
use Rattle.faults.specs.Check.{refusal, none}
use Rattle.faults.proofs.Check.{judge_broken, judge_kept}
use Rattle.table_rules.specs.declared.Pair.{Pair}
use Rattle.table_rules.specs.Pairs.{in_alphabet, bad_lower, bad_upper, bad_pair, pair_check}
use Rattle.reader_rules.specs.Table.{base_part, alphabet_part, input_part, leaf_part, word_part, system}
use Rattle.table_rules.specs.Check.{pair_check_of, bad_pair_of}

module _ (base alphabet inputs leaves : Section) (words : List ℕ) where
  abbrev N : ℕ
  N = leaf_count leaves

  abbrev upper : ℕ → Bool
  upper u = upper_passes (system base) (record_at inputs) (code_of leaves words) (in_alphabet alphabet) u

  abbrev lower : ℕ → ℕ
  lower u = bad_lower base alphabet inputs leaves words u

  abbrev pub UppersPass : ℕ → Type 0
  UppersPass u = (j : ℕ) → j < u → upper j ≡ true

  -- an upper leaf fails exactly where a lower one is found
  pub upper_fails : (u : ℕ) → lower u < N → upper u ≡ false
  unfolding upper_passes bad_lower
  upper_fails u h = every_below _ N h

  pub upper_passes_lem : (u : ℕ) → N ≤ lower u → upper u ≡ true
  unfolding upper_passes bad_lower
  upper_passes_lem u h = every_reached _ N h

  abbrev bad : ℕ
  bad = bad_upper base alphabet inputs leaves words

  pub picked : bad < N → bad_pair base alphabet inputs leaves words ≡ record { upper = bad; lower = lower bad }
  unfolding bad_pair
  picked h = rw (lt-ltb bad N h, bad_pair)

  not_picked : N ≤ bad → bad_pair base alphabet inputs leaves words ≡ record { upper = N; lower = N }
  unfolding bad_pair
  not_picked h = rw (le-ltb bad N h, bad_pair)

  pub pair_found : (u l : ℕ) → u < N → l ≡ lower u → l < N → UppersPass u → record { upper = u; lower = l } ≡ bad_pair base alphabet inputs leaves words
  unfolding bad_upper
  pair_found u l h e fails passed =
      let at : u ≡ bad = sym (scan_unique upper 0 N u (omega arith) (omega arith) (λ j z lt. passed j lt) (upper_fails u (omega arith))) in
      (λ i. record { upper = at i; lower = (e ∙ ap lower at) i }) ∙ sym (picked (omega arith))

  pub pair_none : (u : ℕ) → N ≤ u → UppersPass u → record { upper = N; lower = N } ≡ bad_pair base alphabet inputs leaves words
  unfolding bad_upper
  pair_none u h passed =
      let at : bad ≡ 0 + N = scan_all upper 0 N (λ j z lt. passed j (omega arith)) in
      sym (not_picked (omega arith))

  pub upper_is : (bad_pair base alphabet inputs leaves words).upper ≡ bad
  unfolding bad_upper
  upper_is =
      elim (dec_lt bad N) [
        | yes h ↦ ap (λ (p : Pair). p.upper) (picked h)
        | no h ↦ ap (λ (p : Pair). p.upper) (not_picked (omega arith)) ∙ le_antisymm (omega arith) (omega (arith, scan_high upper 0 N))
      ]

  pairs_broken : (p : Pair) → p ≡ bad_pair base alphabet inputs leaves words → p.upper < N → refusal 14 p.upper ≡ pair_check base alphabet inputs leaves words
  unfolding pair_check bad_upper
  pairs_broken p e h =
      let at = ap (λ (q : Pair). q.upper) e ∙ upper_is in
      sym (judge_broken 14 (λ k. k) upper N p.upper at h)

  pairs_kept : (p : Pair) → p ≡ bad_pair base alphabet inputs leaves words → N ≤ p.upper → none ≡ pair_check base alphabet inputs leaves words
  unfolding pair_check bad_upper
  pairs_kept p e h =
      let at = ap (λ (q : Pair). q.upper) e ∙ upper_is in
      sym (judge_kept 14 (λ k. k) upper N p.upper at h)

-- ---- of a file

pub file_broken : (file : List ℕ) (p : Pair) → p ≡ bad_pair_of file → p.upper < leaf_count (leaf_part file) → refusal 14 p.upper ≡ pair_check_of file
unfolding pair_check_of
file_broken file = pairs_broken (base_part file) (alphabet_part file) (input_part file) (leaf_part file) (word_part file)

pub file_kept : (file : List ℕ) (p : Pair) → p ≡ bad_pair_of file → leaf_count (leaf_part file) ≤ p.upper → none ≡ pair_check_of file
unfolding pair_check_of
file_kept file = pairs_kept (base_part file) (alphabet_part file) (input_part file) (leaf_part file) (word_part file)
