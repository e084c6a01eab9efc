-- One product more, at most 2 ^ 53 in size.
use mathlib.Core.Path.{◌≡◌, refl, sym, ap, ◌∙◌}
use mathlib.Core.List.{List}
use Prim.Native.Nat.{ℕ, ◌+◌, ◌*◌, ◌^◌, ◌≤◌}
use native.Mathlib.Omega.{arith}
use native.Mathlib.Numerals.{add-one}
use lib.ListN.{take}
use lib.IntN.{ℤ, nat_abs, ◌+ℤ◌, ◌*ℤ◌}
use mir.Syntax.{w64}
use mir.Val.{SFits, to_z, of_z}
use mir.ValLaws.{to_z-of_z}
use Rattle.integers.proofs.Machine.{Term, ◌⊗◌, stored, computed_fits, stored_is, plain_bound}
use Rattle.integers.proofs.Size.{nat_abs-+, small_fits}
use Rattle.ring.specs.Element.{part}
use Rattle.ring.specs.Matrix.{dot}
use Rattle.ring.specs.Tests.{Within}
use Rattle.ring.proofs.Parts.{entry}
use Rattle.ring.proofs.Matrix.{dot_next}
use Rattle.elements.proofs.dot.Goals as goal

module _ (row x : List ℤ) (of_row : Within (2 ^ 21) row) (of_x : Within (2 ^ 32) x) (k : ℕ) where
  abbrev more : Term
  more = entry (2 ^ 21) row of_row k ⊗ entry (2 ^ 32) x of_x k

  module _ (all : ℤ) (room : nat_abs all ≤ 3 * 2 ^ 53) where
    next_is : all +ℤ stored w64 more ≡ all +ℤ part row k *ℤ part x k
    next_is = ap (λ z. all +ℤ z) (stored_is w64 more refl)

    next_size : nat_abs (all +ℤ part row k *ℤ part x k) ≤ nat_abs all + 2 ^ 53
    next_size =
        let one : nat_abs (part row k *ℤ part x k) ≤ 2 ^ 53 = plain_bound more in
        omega (arith, nat_abs-+ all (part row k *ℤ part x k))

    sum_fits : SFits w64 (all +ℤ stored w64 more)
    sum_fits = rw next_is (small_fits w64 (all +ℤ part row k *ℤ part x k) (omega (arith, next_size)))

    sum_is : to_z w64 (of_z w64 (all +ℤ stored w64 more)) ≡ all +ℤ part row k *ℤ part x k
    sum_is = to_z-of_z w64 _ sum_fits ∙ next_is

    sum_kept : (all ≡ dot (take k row) x) × (nat_abs all ≤ k * 2 ^ 53) → (to_z w64 (of_z w64 (all +ℤ stored w64 more)) ≡ dot (take (k + 1) row) x) × (nat_abs (to_z w64 (of_z w64 (all +ℤ stored w64 more))) ≤ (k + 1) * 2 ^ 53)
    sum_kept so_far =
        (sum_is ∙ ap (λ z. z +ℤ part row k *ℤ part x k) so_far.0 ∙ sym (dot_next k row x) ∙ ap (λ (n : ℕ). dot (take n row) x) (sym (add-one k)), rw sum_is (omega (arith, next_size, so_far.1)))

pub loop-k-init : goal.loop-k-init
unfolding dot
loop-k-init g c = (refl, omega arith)

pub overflow_mul-all : goal.overflow_mul-all
overflow_mul-all g c = computed_fits w64 (more c.args.row c.args.x c.requires.1 c.requires.2 c.loop-k.k) refl

pub overflow_add-all : goal.overflow_add-all
overflow_add-all g c = sum_fits c.args.row c.args.x c.requires.1 c.requires.2 c.loop-k.k _ (omega (arith, c.loop-k.invariant.1))

pub loop-k-preserved : goal.loop-k-preserved
loop-k-preserved g c = sum_kept c.args.row c.args.x c.requires.1 c.requires.2 c.loop-k.k _ (omega (arith, c.loop-k.invariant.1)) c.loop-k.invariant
