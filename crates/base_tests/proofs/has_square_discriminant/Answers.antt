-- The discriminant is at most 4,352 in size.
use mathlib.Core.Path.{◌≡◌, refl, sym, ap, ◌∙◌}
use mathlib.Core.Bool.{true, false}
use lib.IntN.{ℤ, pos, negsuc}
use native.Mathlib.Omega.{arith}
use lib.Signed.{pos-nat_abs, lt_z, le_z}
use borrow.Author.Tests.{le-ltb, le-leb}
use Rattle.lists.proofs.Test.{clash}
use mir.Syntax.{w64}
use Rattle.integers.proofs.Machine.{Term, ◌⊕◌, ◌⊗◌, stored, computed_fits, stored_is, stored_bound}
use Rattle.integers.proofs.Sign.{not_below_zero}
use Rattle.ring.specs.Base.{discriminant}
use Rattle.ring.specs.Tests.{perfect_square}
use Rattle.ring.proofs.Base.{square_below_zero}
use Rattle.ring.proofs.Parts.{constant, number}
use Rattle.base_tests.proofs.has_square_discriminant.Goals as goal

-- the test against zero, as the laws have it
not_negative : (z : ℤ) → le_z (pos 0) z ≡ true → lt_z z (pos 0) ≡ false
not_negative (pos n) h = le-ltb n 0 (omega arith)
not_negative (negsuc n) h = cc

negative : (z : ℤ) → le_z (pos 0) z ≡ false → lt_z z (pos 0) ≡ true
negative (pos n) h = clash (le-leb 0 n (omega arith)) h
negative (negsuc n) h = refl

pub overflow_mul-d : goal.overflow_mul-d
overflow_mul-d c = computed_fits w64 (number c.args.s c.requires.0 ⊗ number c.args.s c.requires.0) refl

pub overflow_mul-d-2 : goal.overflow_mul-d-2
overflow_mul-d-2 c = computed_fits w64 (constant 4 ⊗ number c.args.t c.requires.1) refl

pub overflow_add-d : goal.overflow_add-d
overflow_add-d c =
    let d : Term = number c.args.s c.requires.0 ⊗ number c.args.s c.requires.0 ⊕ constant 4 ⊗ number c.args.t c.requires.1 in
    computed_fits w64 (d) refl

pub returns-else-d-ge0 : goal.returns-else-d-ge0
unfolding discriminant
returns-else-d-ge0 c =
    let d : Term = number c.args.s c.requires.0 ⊗ number c.args.s c.requires.0 ⊕ constant 4 ⊗ number c.args.t c.requires.1 in
    c.if-d-ge0.false ∙ sym (ap perfect_square (sym (stored_is w64 (d) refl)) ∙ square_below_zero (stored w64 (d)) (negative (stored w64 (d)) c.if-d-ge0.false))

pub overflow_cast-d : goal.overflow_cast-d
overflow_cast-d c =
    let d : Term = number c.args.s c.requires.0 ⊗ number c.args.s c.requires.0 ⊕ constant 4 ⊗ number c.args.t c.requires.1 in
    (not_below_zero (stored w64 (d)) (not_negative (stored w64 (d)) c.if-d-ge0.true), record { fits = omega (arith, stored_bound w64 (d) refl) })

pub is_square-requires : goal.is_square-requires
is_square-requires c =
    let d : Term = number c.args.s c.requires.0 ⊗ number c.args.s c.requires.0 ⊕ constant 4 ⊗ number c.args.t c.requires.1 in
    omega (arith, stored_bound w64 (d) refl)

pub returns-then-d-ge0 : goal.returns-then-d-ge0
unfolding discriminant
returns-then-d-ge0 c =
    let d : Term = number c.args.s c.requires.0 ⊗ number c.args.s c.requires.0 ⊕ constant 4 ⊗ number c.args.t c.requires.1 in
    c.is_square.ensures ∙ ap perfect_square (pos-nat_abs (stored w64 (d)) (not_below_zero (stored w64 (d)) (not_negative (stored w64 (d)) c.if-d-ge0.true)) ∙ stored_is w64 (d) refl)
