-- Laws of `judge`, `_then_` and `in_turn`, for the proofs of the functions that run them.
use mathlib.Core.Path.{◌≡◌, refl, sym, ap, ◌∙◌}
use mathlib.Core.Bool.{Bool, true, false}
use Prim.Native.Nat.{ℕ, zero, suc, ◌+◌, ◌-◌, ◌<◌, ◌≤◌}
use native.Mathlib.Decide.{dec_lt, ℕ_discrete}
use native.Mathlib.Nat.{le_antisymm, sub-eq-zero_of_le}
use native.Mathlib.Numerals.{add-one}
use native.Mathlib.Omega.{arith}
use borrow.Author.Tests.{lt-ltb, le-ltb, eq-eqb, ne_eqb}
use Rattle.lists.specs.Scan.{first_failing}
use Rattle.lists.proofs.Scan.{left, scan_step, scan_hit, scan_end, scan_here, scan_out, scan_passed}
use Rattle.faults.specs.declared.Refusal.{Refusal}
use Rattle.faults.specs.Check.{refusal, none, judge, ◌then◌, in_turn}

-- the answer of a rule from the first failing place, as a scan hands it over
pub judge_broken : (number : ℕ) (at : ℕ → ℕ) (test : ℕ → Bool) (n i : ℕ) → i ≡ first_failing test 0 n → i < n → judge number at test n ≡ refusal number (at i)
unfolding judge
judge_broken number at test n i e h = rw (lt-ltb _ _ (rw e at h), judge, ← e)

pub judge_kept : (number : ℕ) (at : ℕ → ℕ) (test : ℕ → Bool) (n i : ℕ) → i ≡ first_failing test 0 n → n ≤ i → judge number at test n ≡ none
unfolding judge
judge_kept number at test n i e h = rw (le-ltb _ _ (rw e at h), judge)

-- the same for a loop that answers by itself, at the i-th thing, when all before it are allowed
pub judge_here : (number : ℕ) (at : ℕ → ℕ) (test : ℕ → Bool) (n i : ℕ) → first_failing test i (n - i) ≡ first_failing test 0 n → i < n → test i ≡ false → refusal number (at i) ≡ judge number at test n
judge_here number at test n i same h fails = sym (judge_broken number at test n i (sym (scan_here test i n h fails) ∙ same) h)

pub judge_out : (number : ℕ) (at : ℕ → ℕ) (test : ℕ → Bool) (n i : ℕ) → first_failing test i (n - i) ≡ first_failing test 0 n → n ≤ i → none ≡ judge number at test n
judge_out number at test n i same h = sym (judge_kept number at test n i (sym (scan_out test i n h) ∙ same) h)

-- a rule that judges one thing
pub once_broken : (number : ℕ) (at : ℕ → ℕ) (allowed : Bool) → allowed ≡ false → judge number at (λ _. allowed) 1 ≡ refusal number (at 0)
once_broken number at allowed e = judge_broken number at (λ _. allowed) 1 0 (sym (scan_hit _ 0 0 e)) (omega arith)

pub once_kept : (number : ℕ) (at : ℕ → ℕ) (allowed : Bool) → allowed ≡ true → judge number at (λ _. allowed) 1 ≡ none
once_kept number at allowed e = judge_kept number at (λ _. allowed) 1 1 (sym (scan_step _ 0 0 e ∙ scan_end _ 1)) (omega arith)

pub then_found : (a b : Refusal) → (a.number ≡ 0 → ⊥) → (a then b) ≡ a
unfolding ◌then◌
then_found a b h = rw (ne_eqb _ _ h, ◌then◌)

pub then_next : (a b : Refusal) → a.number ≡ 0 → (a then b) ≡ b
unfolding ◌then◌
then_next a b h = rw (eq-eqb _ _ h, ◌then◌)

-- the checks before the i-th found nothing: a loop's turn, its hit and its end
pub turn_next : (check : ℕ → Refusal) (i n : ℕ) → (check i).number ≡ 0 → in_turn check i (suc n) ≡ in_turn check (suc i) n
unfolding in_turn
turn_next check i n h = then_next (check i) _ h

pub turn_found : (check : ℕ → Refusal) (i n : ℕ) → ((check i).number ≡ 0 → ⊥) → in_turn check i (suc n) ≡ check i
unfolding in_turn
turn_found check i n h = then_found (check i) _ h

pub turn_end : (check : ℕ → Refusal) (i : ℕ) → in_turn check i 0 ≡ none
unfolding in_turn
turn_end check i = refl

-- for a loop that counts i up to n, and has run the i-th check
pub turn_on : (check : ℕ → Refusal) (i n : ℕ) (found : Refusal) → found ≡ check i → i < n → found.number ≡ 0 → in_turn check i (n - i) ≡ in_turn check (i + 1) (n - (i + 1))
turn_on check i n found e h z = rw (left i n h, turn_next check i (n - (i + 1)) (rw e at z), add-one i)

pub turn_here : (check : ℕ → Refusal) (i n : ℕ) (found : Refusal) → found ≡ check i → i < n → (found.number ≡ 0 → ⊥) → in_turn check i (n - i) ≡ found
turn_here check i n found e h z = rw (left i n h, turn_found check i (n - (i + 1)) (rw e at z), e)

pub turn_out : (check : ℕ → Refusal) (i n : ℕ) → n ≤ i → in_turn check i (n - i) ≡ none
turn_out check i n h = rw (sub-eq-zero_of_le h) (turn_end check i)

-- what number 0 says: both checks found nothing, and everything that a rule judges is allowed
pub then_kept : (a b : Refusal) → (a then b).number ≡ 0 → (a.number ≡ 0) × (b.number ≡ 0)
then_kept a b h =
    elim (ℕ_discrete a.number 0) [
      | yes e ↦ (e, ap (λ (r : Refusal). r.number) (sym (then_next a b e)) ∙ h)
      | no e ↦ absurd (e (ap (λ (r : Refusal). r.number) (sym (then_found a b e)) ∙ h))
    ]

pub turn_kept : (check : ℕ → Refusal) (i n : ℕ) → (in_turn check i n).number ≡ 0 → (k : ℕ) → i ≤ k → k < i + n → (check k).number ≡ 0
unfolding in_turn
turn_kept check i zero h k low l = absurd (none_left low l)
  where
    none_left : i ≤ k → k < i + 0 → ⊥
    none_left low l = omega arith
turn_kept check i (suc n) h k low l =
    let b : ((check i).number ≡ 0) × ((in_turn check (suc i) n).number ≡ 0) = then_kept _ _ h in
    elim (dec_lt i k) [
      | yes m ↦ turn_kept check (suc i) n b.1 k m (omega arith)
      | no m ↦ rw (le_antisymm {n = k} {m = i} (omega arith) low) b.0
    ]

pub judge_passed : (number : ℕ) (at : ℕ → ℕ) (test : ℕ → Bool) (n : ℕ) → 0 < number → (judge number at test n).number ≡ 0 → (k : ℕ) → k < n → test k ≡ true
judge_passed number at test n some h k l =
    elim (dec_lt (first_failing test 0 n) n) [
      | yes f ↦ absurd (not_zero (ap (λ (r : Refusal). r.number) (sym (judge_broken number at test n _ refl f)) ∙ h))
      | no f ↦ scan_passed test 0 n k (omega arith) (omega arith)
    ]
  where
    not_zero : number ≡ 0 → ⊥
    not_zero e = omega arith
