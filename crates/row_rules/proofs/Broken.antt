-- Demand 1 for rules 20 to 26: each stage finds the first broken rule, as the plain statements have it, and nothing else.
use mathlib.Core.Path.{◌≡◌, sym}
use mathlib.Core.Bool.{false}
use mathlib.Core.List.{List, [], ◌∷◌}
use mathlib.Core.Logic.{◌⊎◌, inl, inr, ⊎_elim}
use Prim.Native.Nat.{ℕ, ◌+◌, ◌<◌, ◌≤◌}
use native.Mathlib.Omega.{arith}
use lib.ListN.{length, get_or}
use lib.Dec.{leb, ltb}
use borrow.Author.Tests.{ltb-true, ltb-false, leb-true, leb-false, eqb-false}
use Rattle.lists.proofs.Test.{not_both}
use Rattle.faults.specs.Check.{none}
use Rattle.faults.specs.Rule.{rule}
use Rattle.faults.specs.Exact.{Exact}
use Rattle.faults.proofs.Rule.{Decided, exact, places_decided, once_decided, then_decided}
use Rattle.row_rules.specs.Check.{judge_one, lengths_allowed, index_allowed, index_check, room_allowed, row_check, digits_check, one_row_check, edit_check}
use Rattle.row_rules.specs.Broken.{Broken20, NoIndex, row_rules, digits_rules, one_row_rules, edit_rules}
use Rattle.row_rules.specs.Fit.{EditFits}
use Rattle.row_rules.specs.Rows.{RowFits, RowsFit}
use Rattle.row_rules.proofs.Fit.{lengths_say}

-- rule 20
Unequal : ℕ → ℕ → Type 0
Unequal n m = (256 < n) ⊎ (256 < m) ⊎ ¬ (n ≡ m)

lengths_fail : (n m : ℕ) → lengths_allowed n m ≡ false → Unequal n m
unfolding lengths_allowed Unequal
lengths_fail n m t = ⊎_elim (λ a. inl (leb-false _ _ a)) (λ b. inr (inr (λ e. eqb-false _ _ b (sym e)))) (not_both _ _ t)

lengths_agree : (n m : ℕ) → (n ≤ 256) × (m ≡ n) → Unequal n m → ⊥
unfolding Unequal
lengths_agree n m l (inl h) = omega arith
lengths_agree n m l (inr (inl h)) = omega arith
lengths_agree n m l (inr (inr h)) = h (sym l.1)

length_decided : (first second : List ℕ) → Decided (rule 20 (Broken20 first second) ∷ []) (judge_one 20 (lengths_allowed (length first) (length second)))
unfolding Unequal
length_decided first second =
    once_decided 20 (Unequal (length first) (length second)) _ (omega arith) (λ t. lengths_agree _ _ (lengths_say _ _ t)) (lengths_fail _ _)

-- a number at most, or below, another
at_most : (number n m : ℕ) → 0 < number → Decided (rule number (λ p. (p ≡ 0) × (m < n)) ∷ []) (judge_one number (leb n m))
at_most number n m some = once_decided number (m < n) (leb n m) some (λ t b. omega (arith, leb-true n m t)) (leb-false n m)

below : (number n m : ℕ) → 0 < number → Decided (rule number (λ p. (p ≡ 0) × ¬ (n < m)) ∷ []) (judge_one number (ltb n m))
below number n m some = once_decided number (¬ (n < m)) (ltb n m) some (λ t b. b (ltb-true n m t)) (λ t h. omega (arith, ltb-false n m t))

-- rules 21 and 22
indexes_decided : (number digits : ℕ) (row : List ℕ) → 0 < number → Decided (rule number (NoIndex digits row) ∷ []) (index_check number digits row)
unfolding index_check index_allowed
indexes_decided number digits row some =
    places_decided (rule number (NoIndex digits row)) (index_allowed digits row) (length row) some
    (λ p b. (b.0, λ t. b.1 (ltb-true _ _ t)))
    (λ p l t. (l, λ h. omega (arith, ltb-false (get_or row p 0) digits t)))

pub rows_decided : (first second : List ℕ) (sum digits depth : ℕ) → Decided (row_rules first second sum digits depth) (row_check first second sum digits depth)
unfolding row_check room_allowed
rows_decided first second sum digits depth =
    then_decided _ _ _ _ (length_decided first second)
    (λ _. then_decided _ _ _ _ (indexes_decided 21 digits first (omega arith))
    (λ _. then_decided _ _ _ _ (indexes_decided 22 digits second (omega arith))
    (λ _. at_most 23 (length first + depth) sum (omega arith))))

-- Rules 20 to 23: two rows and the sum buffer
pub rows_exact : (first second : List ℕ) (sum digits depth : ℕ) → Exact (row_rules first second sum digits depth) (row_check first second sum digits depth)
rows_exact first second sum digits depth = exact _ _ (rows_decided first second sum digits depth)

-- Rule 20: a number of digits
pub digits_decided : (n : ℕ) → Decided (digits_rules n) (digits_check n)
digits_decided n = at_most 20 n 256 (omega arith)

pub one_row_decided : (row : List ℕ) (digits : ℕ) → Decided (one_row_rules row digits) (one_row_check row digits)
unfolding one_row_check
one_row_decided row digits = then_decided _ _ _ _ (digits_decided (length row)) (λ _. indexes_decided 21 digits row (omega arith))

-- Rules 20 and 21: the one row of a value call
pub one_row_exact : (row : List ℕ) (digits : ℕ) → Exact (one_row_rules row digits) (one_row_check row digits)
one_row_exact row digits = exact _ _ (one_row_decided row digits)

pub edit_decided : (row place digit n digits : ℕ) → Decided (edit_rules row place digit n digits) (edit_check row place digit n digits)
unfolding edit_check
edit_decided row place digit n digits =
    then_decided _ _ _ _ (at_most 24 row 1 (omega arith))
    (λ _. then_decided _ _ _ _ (below 25 place n (omega arith)) (λ _. below 26 digit digits (omega arith)))

-- Rules 24 to 26: what an editor asks for
pub edit_exact : (row place digit n digits : ℕ) → Exact (edit_rules row place digit n digits) (edit_check row place digit n digits)
edit_exact row place digit n digits = exact _ _ (edit_decided row place digit n digits)

-- so nothing is found exactly in rows and edits that fit
pub rows_pass : (first second : List ℕ) (sum digits depth : ℕ) → RowsFit first second sum digits depth → row_check first second sum digits depth ≡ none
unfolding Unequal
rows_pass first second sum digits depth fit =
    (rows_exact first second sum digits depth).passed.1
    (λ p b. lengths_agree _ _ (fit.short, fit.same_length) b.1, (λ p b. b.1 (fit.first_indexes p b.0), (λ p b. b.1 (fit.second_indexes p b.0), (λ p b. omega (arith, b.1, fit.room), tt))))

pub digits_pass : (n : ℕ) → n ≤ 256 → digits_check n ≡ none
digits_pass n short = (exact _ _ (digits_decided n)).passed.1 (λ p b. omega (arith, b.1), tt)

pub row_passes : (row : List ℕ) (digits : ℕ) → RowFits row digits → one_row_check row digits ≡ none
row_passes row digits fit =
    (one_row_exact row digits).passed.1 (λ p b. omega (arith, b.1, fit.short), (λ p b. b.1 (fit.indexes p b.0), tt))

pub edit_passes : (row place digit n digits : ℕ) → EditFits row place digit n digits → edit_check row place digit n digits ≡ none
edit_passes row place digit n digits fit =
    (edit_exact row place digit n digits).passed.1
    (λ p b. omega (arith, b.1, fit.known_row), (λ p b. b.1 fit.in_row, (λ p b. b.1 fit.index, tt)))
