-- The slot's place is far inside 64 bits; below 0 the slot is 0, else the remainder.
use Rattle.slots.proofs.Slot.{slot_below, slot_above}
use Rattle.slots.specs.Slot.{slot_place}
use Rattle.ring.proofs.Parts.{entry, constant}
use Rattle.integers.proofs.Sign.{not_below_zero}
use Rattle.integers.proofs.Machine.{Term, ◌⊕◌, ◌⊗◌, computed_fits, stored_is, plain_bound}
use mir.Syntax.{w64}
use lib.Signed.{lt_z}
use lib.IntN.{pos, nat_abs}
use native.Mathlib.Omega.{arith}
use Prim.Native.Nat.{ℕ, ◌%◌, ◌^◌}
use mathlib.Core.Path.{refl, sym, ap, ◌∙◌}
use Rattle.slots.proofs.slot_of.Goals as goal

pub overflow_mul-place : goal.overflow_mul-place
overflow_mul-place c =
    let times : ℕ → ℕ → Term = λ n k. constant n ⊗ entry (2 ^ 56) c.args.x c.requires k in
    computed_fits w64 (times 16 1) refl

pub overflow_add-place : goal.overflow_add-place
overflow_add-place c =
    let times : ℕ → ℕ → Term = λ n k. constant n ⊗ entry (2 ^ 56) c.args.x c.requires k in
    let two : Term = entry (2 ^ 56) c.args.x c.requires 0 ⊕ times 16 1 in
    computed_fits w64 (two) refl

pub overflow_mul-place-2 : goal.overflow_mul-place-2
overflow_mul-place-2 c =
    let times : ℕ → ℕ → Term = λ n k. constant n ⊗ entry (2 ^ 56) c.args.x c.requires k in
    computed_fits w64 (times 4 2) refl

pub overflow_add-place-2 : goal.overflow_add-place-2
overflow_add-place-2 c =
    let times : ℕ → ℕ → Term = λ n k. constant n ⊗ entry (2 ^ 56) c.args.x c.requires k in
    let two : Term = entry (2 ^ 56) c.args.x c.requires 0 ⊕ times 16 1 in
    let three : Term = two ⊕ times 4 2 in
    computed_fits w64 (three) refl

pub overflow_mul-place-3 : goal.overflow_mul-place-3
overflow_mul-place-3 c =
    let times : ℕ → ℕ → Term = λ n k. constant n ⊗ entry (2 ^ 56) c.args.x c.requires k in
    computed_fits w64 (times 64 3) refl

pub overflow_add-place-3 : goal.overflow_add-place-3
overflow_add-place-3 c =
    let times : ℕ → ℕ → Term = λ n k. constant n ⊗ entry (2 ^ 56) c.args.x c.requires k in
    let two : Term = entry (2 ^ 56) c.args.x c.requires 0 ⊕ times 16 1 in
    let three : Term = two ⊕ times 4 2 in
    let four : Term = three ⊕ times 64 3 in
    computed_fits w64 (four) refl

pub overflow_add-place-4 : goal.overflow_add-place-4
overflow_add-place-4 c =
    let times : ℕ → ℕ → Term = λ n k. constant n ⊗ entry (2 ^ 56) c.args.x c.requires k in
    let two : Term = entry (2 ^ 56) c.args.x c.requires 0 ⊕ times 16 1 in
    let three : Term = two ⊕ times 4 2 in
    let four : Term = three ⊕ times 64 3 in
    let place : Term = four ⊕ constant 32768 in
    computed_fits w64 (place) refl

pub returns-then-place-lt0 : goal.returns-then-place-lt0
returns-then-place-lt0 c =
    let times : ℕ → ℕ → Term = λ n k. constant n ⊗ entry (2 ^ 56) c.args.x c.requires k in
    let two : Term = entry (2 ^ 56) c.args.x c.requires 0 ⊕ times 16 1 in
    let three : Term = two ⊕ times 4 2 in
    let four : Term = three ⊕ times 64 3 in
    let place : Term = four ⊕ constant 32768 in
    let s = c in record { slot = slot_below s.args.x (ap (λ z. lt_z z (pos 0)) (sym (stored_is w64 (place) refl)) ∙ c.if-place-lt0.true); within = omega arith }

pub overflow_cast-result : goal.overflow_cast-result
overflow_cast-result c =
    let times : ℕ → ℕ → Term = λ n k. constant n ⊗ entry (2 ^ 56) c.args.x c.requires k in
    let two : Term = entry (2 ^ 56) c.args.x c.requires 0 ⊕ times 16 1 in
    let three : Term = two ⊕ times 4 2 in
    let four : Term = three ⊕ times 64 3 in
    let place : Term = four ⊕ constant 32768 in
    let s = c in
    rw (stored_is w64 (place) refl) (not_below_zero (slot_place s.args.x) (ap (λ z. lt_z z (pos 0)) (sym (stored_is w64 (place) refl)) ∙ c.if-place-lt0.false), record { fits = omega (arith, plain_bound (place)) })

pub returns : goal.returns
returns c =
    let times : ℕ → ℕ → Term = λ n k. constant n ⊗ entry (2 ^ 56) c.args.x c.requires k in
    let two : Term = entry (2 ^ 56) c.args.x c.requires 0 ⊕ times 16 1 in
    let three : Term = two ⊕ times 4 2 in
    let four : Term = three ⊕ times 64 3 in
    let place : Term = four ⊕ constant 32768 in
    let s = c in
    record { slot = ap (λ z. nat_abs z % 256) (stored_is w64 (place) refl) ∙ slot_above s.args.x (ap (λ z. lt_z z (pos 0)) (sym (stored_is w64 (place) refl)) ∙ c.if-place-lt0.false); within = omega arith }
