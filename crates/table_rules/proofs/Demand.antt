-- Demand 1 for the check, rules 1 to 14; and demand 2: the check accepts a file exactly when it is well formed and every finite
-- row of its input digits is converted into alphabet digits.
use mathlib.Core.Path.{◌≡◌, refl, sym, ap, subst, ◌∙◌}
use mathlib.Core.Bool.{Bool, true, false}
use mathlib.Core.Logic.{◌↔◌}
use mathlib.Core.List.{List, [], ◌∷◌}
use Prim.Native.Nat.{ℕ, ◌≤◌}
use native.Mathlib.Omega.{arith}
use lib.IntN.{ℤ}
use borrow.Author.Tests.{ltb-true, lt-ltb}
use Rattle.layout_rules.specs.Section.{Section}
use Rattle.lists.proofs.Scan.{every_sound, every_fails}
use Rattle.lists.proofs.Test.{clash}
use Rattle.faults.specs.Check.{◌then◌}
use Rattle.faults.specs.Rule.{rule}
use Rattle.faults.specs.Outcome.{Group, facts, refused, author}
use Rattle.faults.specs.Unless.{unless}
use Rattle.faults.specs.declared.Refusal.{Refusal}
use Rattle.faults.proofs.Rule.{Decided, exact, then_decided, places_decided}
use Rattle.faults.proofs.Check.{then_kept, then_next, judge_passed}
use Rattle.faults.proofs.Unless.{unless_none, unless_then, accepted_nothing}
use Rattle.calls.specs.Answers.{Answers}
use Rattle.calls.proofs.Answers.{stage_answers}
use Rattle.calls.proofs.Numbers.{fault_number}
use Rattle.digit_rules.specs.Record.{record_at, element_count}
use Rattle.digit_rules.specs.Digits.{index_in}
use Rattle.digit_rules.specs.Broken.{Listed}
use Rattle.digit_rules.proofs.Index.{index_is, index_first}
use Rattle.numeration.specs.Pairs.{Fits, pair_digit}
use Rattle.numeration.specs.Laws.{PairsConvert}
use Rattle.numeration.specs.PairTests.{fits, pair_passes, upper_passes}
use Rattle.numeration.proofs.Agreement.{agree_sound, agree_complete}
use Rattle.numeration.proofs.Pairs.{pairs_rows}
use Rattle.leaf_rules.specs.Leaf.{leaf_count, code_of}
use Rattle.reader_rules.specs.Table.{base_part, alphabet_part, input_part, leaf_part, word_part, system}
use Rattle.reader_rules.specs.Check.{table_check}
use Rattle.reader_rules.specs.Formed.{WellFormed}
use Rattle.reader_rules.proofs.Broken.{table_decided}
use Rattle.reader_rules.proofs.Formed.{well_formed}
use Rattle.reader_rules.proofs.Ready.{ready_passed}
use Rattle.table_rules.specs.Pairs.{in_alphabet, pair_check}
use Rattle.table_rules.specs.Check.{pair_check_of, check_facts, check_outcome}
use Rattle.table_rules.specs.Broken.{Broken14, check_rules, check_stages, RowsConverted}

-- the alphabet's test says what it tests
pub listed_test : (alphabet : Section) (x : List ℤ) → (in_alphabet alphabet x ≡ true) ↔ Listed alphabet x
unfolding in_alphabet
listed_test alphabet x = (
  λ t. let h = ltb-true _ _ t in (index_in alphabet (element_count alphabet) x, h, index_is alphabet (element_count alphabet) x h),
  λ w. lt-ltb (index_in alphabet (element_count alphabet) x) (element_count alphabet) (omega (arith, index_first alphabet (element_count alphabet) x w.0 w.2, w.1)),
)

module _ (base alphabet inputs leaves : Section) (words : List ℕ) where
  abbrev passes : ℕ → ℕ → Bool
  passes u l = pair_passes (system base) (record_at inputs) (code_of leaves words) (in_alphabet alphabet) u l

  abbrev digit : ℕ → ℕ → List ℤ
  digit u l = pair_digit (system base) (record_at inputs) (code_of leaves words) u l

  -- a pair fails exactly where it fits and its digit isn't in the alphabet
  judged : (u l : ℕ) → fits (code_of leaves words) u l ≡ true → passes u l ≡ in_alphabet alphabet (digit u l)
  unfolding pair_passes
  judged u l e = rw (e, pair_passes)

  let_through : (u l : ℕ) → fits (code_of leaves words) u l ≡ false → passes u l ≡ true
  unfolding pair_passes
  let_through u l e = rw (e, pair_passes)

  pub pair_fails : (u l : ℕ) → passes u l ≡ false → Fits (code_of leaves words) u l × ¬ (Listed alphabet (digit u l))
  unfolding fits
  pair_fails u l e = go (fits (code_of leaves words) u l) refl
    where
      go : (b : Bool) → fits (code_of leaves words) u l ≡ b → Fits (code_of leaves words) u l × ¬ (Listed alphabet (digit u l))
      go true t = (agree_sound _ _ _ t, λ w. clash ((listed_test alphabet (digit u l)).1 w) (sym (judged u l t) ∙ e))
      go false t = clash (let_through u l t) e

  pub pair_passes_lem : (u l : ℕ) → passes u l ≡ true → Fits (code_of leaves words) u l → Listed alphabet (digit u l)
  unfolding fits
  pair_passes_lem u l e fit = (listed_test alphabet (digit u l)).0 (sym (judged u l (agree_complete _ _ _ fit)) ∙ e)

  pub pairs_decided : Decided (rule 14 (Broken14 base alphabet inputs leaves words) ∷ []) (pair_check base alphabet inputs leaves words)
  unfolding pair_check upper_passes
  pairs_decided =
      places_decided (rule 14 (Broken14 base alphabet inputs leaves words)) (upper_passes (system base) (record_at inputs) (code_of leaves words) (in_alphabet alphabet)) (leaf_count leaves) (omega arith)
      (λ p b. (b.0, λ t. b.1.3 (pair_passes_lem p b.1.0 (every_sound _ 0 (leaf_count leaves) t b.1.0 (omega arith) (omega (arith, b.1.1))) b.1.2)))
      (λ p h t. let w = every_fails _ 0 (leaf_count leaves) t in let e = pair_fails p w.0 w.3 in (h, (w.0, omega (arith, w.2), e.0, e.1)))

  -- rule 14 finds nothing exactly where every fitting pair gives an alphabet digit
  pub pairs_convert : ((pair_check base alphabet inputs leaves words).number ≡ 0) ↔ PairsConvert (system base) (record_at inputs) (code_of leaves words) (Listed alphabet)
  unfolding pair_check upper_passes
  pairs_convert = (to, from)
    where
      to : (pair_check base alphabet inputs leaves words).number ≡ 0 → PairsConvert (system base) (record_at inputs) (code_of leaves words) (Listed alphabet)
      to z u l hu hl fit =
          pair_passes_lem u l (every_sound _ 0 (leaf_count leaves) (judge_passed 14 (λ k. k) (upper_passes (system base) (record_at inputs) (code_of leaves words) (in_alphabet alphabet)) (leaf_count leaves) (omega arith) z u hu) l (omega arith) (omega arith)) fit

      from : PairsConvert (system base) (record_at inputs) (code_of leaves words) (Listed alphabet) → (pair_check base alphabet inputs leaves words).number ≡ 0
      from all =
          ap (λ (r : Refusal). r.number) ((exact _ _ pairs_decided).passed.1 (λ p b. b.1.3 (all p b.1.0 b.0 b.1.1 b.1.2), tt))

-- ---- the file

-- rules 1 to 14 as one check
whole : (file : List ℕ) → check_outcome file ≡ unless author (table_check file then pair_check_of file) (facts (check_facts file))
unfolding check_outcome
whole file = unless_then author (table_check file) (pair_check_of file) (facts (check_facts file))

check_decided : (file : List ℕ) → Decided (check_rules file) (table_check file then pair_check_of file)
unfolding pair_check_of
check_decided file =
    then_decided _ _ _ _ (table_decided file) (λ _. pairs_decided (base_part file) (alphabet_part file) (input_part file) (leaf_part file) (word_part file))

-- Demand 1. For every list of bytes the check refuses with N at P exactly when rule N of 1 to 14 is broken at P, at no earlier
-- place, and no rule before N is broken; else it accepts, with depth, leaf count and alphabet size.
pub demand_1 : (file : List ℕ) → Answers (check_stages file) (check_facts file) (check_outcome file)
demand_1 file =
    subst (Answers (check_stages file) (check_facts file)) (sym (whole file)) (stage_answers author (check_rules file) (table_check file then pair_check_of file) (check_facts file) (check_decided file))

-- 42 of document 02 is subtraction's alone
pub never_42 : (file : List ℕ) (g : Group) (p : ℕ) → check_outcome file ≡ refused g 42 p → ⊥
never_42 file g p e =
    omega (arith, fault_number (λ n. n ≤ 14) (check_stages file) (omega arith) g 42 p (((demand_1 file).first g 42 p (omega arith)).0 e))

-- Demand 2. For every list of bytes the outcome is accepted exactly when the file is well formed and every finite row of its input
-- digits is converted into alphabet digits at every place.
pub demand_2 : (file : List ℕ) → (check_outcome file ≡ facts (check_facts file)) ↔ (WellFormed file × RowsConverted file)
unfolding pair_check_of
demand_2 file = (to, from)
  where
    rows : (table_check file).number ≡ 0 → PairsConvert (system (base_part file)) (record_at (input_part file)) (code_of (leaf_part file) (word_part file)) (Listed (alphabet_part file)) ↔ RowsConverted file
    rows h =
        pairs_rows (system (base_part file)) (record_at (input_part file)) (code_of (leaf_part file) (word_part file)) (element_count (input_part file)) (ready_passed file h).code (Listed (alphabet_part file))

    pairs : ((pair_check_of file).number ≡ 0) ↔ PairsConvert (system (base_part file)) (record_at (input_part file)) (code_of (leaf_part file) (word_part file)) (Listed (alphabet_part file))
    pairs = pairs_convert (base_part file) (alphabet_part file) (input_part file) (leaf_part file) (word_part file)

    to : check_outcome file ≡ facts (check_facts file) → WellFormed file × RowsConverted file
    to e =
        let kept = then_kept (table_check file) (pair_check_of file) (accepted_nothing author (table_check file then pair_check_of file) (check_facts file) (sym (whole file) ∙ e)) in
        ((well_formed file).1 kept.0, (rows kept.0).0 (pairs.0 kept.1))

    from : WellFormed file × RowsConverted file → check_outcome file ≡ facts (check_facts file)
    from w =
        let table = (well_formed file).0 w.0 in
        let pair = pairs.1 ((rows table).1 w.1) in
        whole file ∙ unless_none author (table_check file then pair_check_of file) (facts (check_facts file)) (ap (λ (r : Refusal). r.number) (then_next (table_check file) (pair_check_of file) table) ∙ pair)
