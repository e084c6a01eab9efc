use mathlib.Core.Path.{◌≡◌, ap, subst}
use mathlib.Core.Bool.{true}
use Prim.Native.Nat.{ℕ, ◌*◌, ◌<◌, ◌≤◌, ◌^◌}
use native.Mathlib.Omega.{arith}
use native.Mathlib.Nat.{mul-le-mul, le_trans, le_antisymm}
use native.Mathlib.Decide.{dec_lt}
use borrow.Author.Count.{below_more}
use borrow.Author.Tests.{eq-eqb, eqb-true}
use lib.Dec.{eqb}
use lib.IntN.{pos, nat_abs}
use mir.Syntax.{w64}
use mir.Val.{Fits}
use Rattle.lists.proofs.Test.{same_outcome}
use Rattle.ring.specs.Base.{Square}
use Rattle.ring.specs.Tests.{perfect_square}
use Rattle.ring.proofs.Base.{self_square, square_test}
use Rattle.base_tests.proofs.is_square.Goals as goal

square_fits : (n root : ℕ) → n ≤ 2 ^ 31 → root ≤ n → Fits w64 (root * root)
square_fits n root h k =
    let m : root * root ≤ 2 ^ 31 * 2 ^ 31 = mul-le-mul (le_trans k h) (le_trans k h) in
    record { fits = omega arith }

-- the first number whose square is not below n decides
decides : (n root : ℕ) → ((k : ℕ) → k < root → k * k < n) → n ≤ root * root → eqb (root * root) n ≡ perfect_square (pos n)
unfolding Square
decides n root below over =
    same_outcome (eqb (root * root) n) (perfect_square (pos n)) (λ h. (square_test (pos n)).1 (root, ap pos (eqb-true (root * root) n h))) from
  where
    not-below : (k : ℕ) → k * k ≡ n → k * k < n → ⊥
    not-below k e h = omega arith

    equal : (k : ℕ) → k * k ≡ n → root * root ≡ n
    equal k e =
        elim (dec_lt k root) [
          | yes l ↦ absurd (not-below k e (below k l))
          | no m ↦ le_antisymm (subst (λ (j : ℕ). root * root ≤ j) e (mul-le-mul (omega arith) (omega arith))) over
        ]

    from : perfect_square (pos n) ≡ true → eqb (root * root) n ≡ true
    from h = let q = (square_test (pos n)).0 h in eq-eqb (root * root) n (equal q.0 (ap nat_abs q.1))

pub overflow_mul-root : goal.overflow_mul-root
overflow_mul-root c = square_fits c.args.n c.loop-root.root c.requires c.loop-root.invariant.0

pub loop-root-smaller : goal.loop-root-smaller
loop-root-smaller c = omega (arith, self_square c.loop-root.root)

pub loop-root-preserved : goal.loop-root-preserved
loop-root-preserved c = (omega (arith, self_square c.loop-root.root), below_more _ _ c.loop-root.invariant.1 c.loop-root-test.true)

pub overflow_mul-result : goal.overflow_mul-result
overflow_mul-result c = square_fits c.args.n c.loop-root.root c.requires c.loop-root.invariant.0

pub returns : goal.returns
returns c = decides c.args.n c.loop-root.root c.loop-root.invariant.1 c.loop-root-test.false
