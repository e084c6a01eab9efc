-- Laws of `passed`, for the proofs of functions that run checks one after another with `?`.
use mathlib.Core.Path.{◌≡◌, refl, sym, ap, ◌∙◌}
use mathlib.Core.Bool.{Bool, true, false}
use Prim.Native.Nat.{ℕ, ◌+◌, ◌-◌, ◌<◌, ◌≤◌}
use native.Mathlib.Decide.{ℕ_discrete}
use native.Mathlib.Omega.{arith}
use borrow.Author.Tests.{eq-eqb, ne_eqb}
use Rattle.std.proofs.Common.{Result, Ok, Err}
use Rattle.std.specs.Result.{is_err, IsErrAnd}
use Rattle.std.proofs.lemmas.Result.{err_from_is_err_and}
use Rattle.lists.specs.Scan.{first_failing}
use Rattle.faults.specs.declared.Refusal.{Refusal}
use Rattle.faults.specs.Check.{refusal, none, judge, ◌then◌, in_turn}
use Rattle.faults.specs.Passed.{passed}
use Rattle.lists.proofs.Test.{clash}
use Rattle.faults.proofs.Check.{then_found, then_next, judge_broken, judge_kept, once_broken, once_kept, turn_on, turn_here, turn_out}

pub passed_kept : (found : Refusal) → found.number ≡ 0 → passed found ≡ Ok tt
unfolding passed
passed_kept found h = rw (eq-eqb _ _ h, passed)

pub passed_broken : (found : Refusal) → (found.number ≡ 0 → ⊥) → passed found ≡ Err found
unfolding passed
passed_broken found h = rw (ne_eqb _ _ h, passed)

-- a rule's own answers: its number isn't 0
pub passed_refusal : (n p : ℕ) → 0 < n → passed (refusal n p) ≡ Err (refusal n p)
passed_refusal n p some = passed_broken (refusal n p) (λ e. absurd (not_zero e))
  where
    not_zero : n ≡ 0 → ⊥
    not_zero e = omega arith

abbrev error_or : Refusal → Result Unit Refusal → Refusal
error_or d r = elim r [ Ok u ↦ d | Err e ↦ e ]

-- what the two results say of the check
pub ok_kept : (found : Refusal) {u : Unit} → passed found ≡ Ok u → found.number ≡ 0
ok_kept found h =
    elim (ℕ_discrete found.number 0) [
      | yes e ↦ e
      | no e ↦ clash refl (ap is_err (sym (passed_broken found e) ∙ h))
    ]

pub err_found : (found e : Refusal) → passed found ≡ Err e → (e ≡ found) × (found.number ≡ 0 → ⊥)
err_found found e h =
    elim (ℕ_discrete found.number 0) [
      | yes k ↦ clash refl (ap is_err (sym h ∙ passed_kept found k))
      | no k ↦ (ap (error_or found) (sym h ∙ passed_broken found k), k)
    ]

-- a function's own answers, from what its check finds
pub err_of : {n p : ℕ} {found : Refusal} → 0 < n → refusal n p ≡ found → Err (refusal n p) ≡ passed found
err_of {n} {p} some e = sym (passed_refusal n p some) ∙ ap passed e

pub ok_of : {found : Refusal} → none ≡ found → Ok tt ≡ passed found
ok_of e = sym (passed_kept none refl) ∙ ap passed e

-- one check, and the next where it found nothing: what `?` goes on with, and what it ends with
pub passed_next : (a b : Refusal) {u : Unit} → Ok u ≡ passed a → passed b ≡ passed (a then b)
passed_next a b h = sym (ap passed (then_next a b (ok_kept a (sym h))))

pub passed_first : (a b : Refusal) {r : Result Unit Refusal} {e : Refusal} → IsErrAnd r (λ x. x ≡ e) → Err e ≡ passed a → r ≡ passed (a then b)
passed_first a b {r} {e} ends h =
    let p = err_from_is_err_and r ends in
    rw (p.1, p.2) (h ∙ sym (ap passed (then_found a b (err_found a e (sym h)).1)))

-- a rule that judges n things, for a function that looks for the first that isn't allowed
pub judge_found : (number : ℕ) (at : ℕ → ℕ) (test : ℕ → Bool) (n i : ℕ) → 0 < number → i ≡ first_failing test 0 n → i < n → Err (refusal number (at i)) ≡ passed (judge number at test n)
judge_found number at test n i some e h = err_of some (sym (judge_broken number at test n i e h))

pub judge_nothing : (number : ℕ) (at : ℕ → ℕ) (test : ℕ → Bool) (n i : ℕ) → i ≡ first_failing test 0 n → n ≤ i → Ok tt ≡ passed (judge number at test n)
judge_nothing number at test n i e h = ok_of (sym (judge_kept number at test n i e h))

-- a rule that judges one thing
pub once_found : (number : ℕ) (at : ℕ → ℕ) (allowed : Bool) → 0 < number → allowed ≡ false → Err (refusal number (at 0)) ≡ passed (judge number at (λ _. allowed) 1)
once_found number at allowed some e = err_of some (sym (once_broken number at allowed e))

pub once_passed : (number : ℕ) (at : ℕ → ℕ) (allowed : Bool) → allowed ≡ true → Ok tt ≡ passed (judge number at (λ _. allowed) 1)
once_passed number at allowed e = ok_of (sym (once_kept number at allowed e))

-- checks in turn, the i-th of which has been run
pub turn_passed : (check : ℕ → Refusal) (i n : ℕ) {u : Unit} → i < n → Ok u ≡ passed (check i) → in_turn check i (n - i) ≡ in_turn check (i + 1) (n - (i + 1))
turn_passed check i n h e = turn_on check i n (check i) refl h (ok_kept (check i) (sym e))

pub turn_broken : (check : ℕ → Refusal) (i n : ℕ) {r : Result Unit Refusal} {e : Refusal} → i < n → IsErrAnd r (λ x. x ≡ e) → Err e ≡ passed (check i) → r ≡ passed (in_turn check i (n - i))
turn_broken check i n {r} {e} h ends broken =
    let p = err_from_is_err_and r ends in
    rw (p.1, p.2) (broken ∙ ap passed (sym (turn_here check i n (check i) refl h (err_found (check i) e (sym broken)).1)))

pub turns_passed : (check : ℕ → Refusal) (i n : ℕ) → n ≤ i → Ok tt ≡ passed (in_turn check i (n - i))
turns_passed check i n h = ok_of (sym (turn_out check i n h))
