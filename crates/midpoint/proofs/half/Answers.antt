-- Both quarters and their sum fit into 64 bits.
use mathlib.Core.Path.{◌≡◌, refl, ap₂, ◌∙◌}
use mathlib.Core.Bool.{true}
use Prim.Native.Nat.{ℕ, ◌^◌, ◌≤◌}
use native.Mathlib.Omega.{arith}
use native.Mathlib.Nat.{le_refl, le_trans}
use lib.IntN.{ℤ, pos, negsuc, nat_abs, ◌+ℤ◌}
use lib.Signed.{shr_z}
use mir.Syntax.{w64}
use Rattle.integers.proofs.Machine.{Term, leaf, ◌⊕◌, bound, fitting, computed_fits, stored, stored_is, stored_bound}
use Rattle.midpoint.specs.Halved.{halved}
use Rattle.midpoint.proofs.half.Goals as goal

nat_abs_shr : (z : ℤ) → nat_abs (shr_z z 4) ≤ nat_abs z
nat_abs_shr (pos n) = omega arith
nat_abs_shr (negsuc n) = omega arith

pub overflow_add-result : goal.overflow_add-result
overflow_add-result c =
    let more : ℕ → Term = λ k. leaf c.args.sum (2 ^ 32) c.requires ⊕ leaf (pos k) k (le_refl k) in
    computed_fits w64 (more 1) refl

pub overflow_add-result-2 : goal.overflow_add-result-2
overflow_add-result-2 c =
    let more : ℕ → Term = λ k. leaf c.args.sum (2 ^ 32) c.requires ⊕ leaf (pos k) k (le_refl k) in
    computed_fits w64 (more 2) refl

pub overflow_add-result-3 : goal.overflow_add-result-3
overflow_add-result-3 c =
    let more : ℕ → Term = λ k. leaf c.args.sum (2 ^ 32) c.requires ⊕ leaf (pos k) k (le_refl k) in
    let quarter : (k : ℕ) → fitting w64 (more k) ≡ true → Term = λ k f. leaf (shr_z (stored w64 (more k)) 4) (bound (more k)) (le_trans (nat_abs_shr (stored w64 (more k))) (stored_bound w64 (more k) f)) in
    let quarters : Term = quarter 1 refl ⊕ quarter 2 refl in
    computed_fits w64 (quarters) refl

pub returns : goal.returns
unfolding halved
returns c =
    let more : ℕ → Term = λ k. leaf c.args.sum (2 ^ 32) c.requires ⊕ leaf (pos k) k (le_refl k) in
    let quarter : (k : ℕ) → fitting w64 (more k) ≡ true → Term = λ k f. leaf (shr_z (stored w64 (more k)) 4) (bound (more k)) (le_trans (nat_abs_shr (stored w64 (more k))) (stored_bound w64 (more k) f)) in
    let quarters : Term = quarter 1 refl ⊕ quarter 2 refl in
    stored_is w64 (quarters) refl ∙ ap₂ (λ p q. shr_z p 4 +ℤ shr_z q 4) (stored_is w64 (more 1) refl) (stored_is w64 (more 2) refl)
