use Rattle.lists.specs.Scan.{first_failing}
use Rattle.lists.specs.Found.{below}
use Rattle.lists.proofs.Scan.{scan_on}
use Rattle.lists.proofs.Found.{found_here, found_out}
use native.Mathlib.Nat.{sub-zero}
use native.Mathlib.Omega.{arith}
use mathlib.Core.Path.{◌≡◌, sym, ap, ◌∙◌}
use mathlib.Core.Bool.{Bool}
use Prim.Native.Nat.{ℕ}
use Rattle.digit_check.proofs.first_unlisted.Goals as goal

-- the same count, as it was read
counted : (test : ℕ → Bool) {n m : ℕ} → n ≡ m → below n (first_failing test 0 n) ≡ below m (first_failing test 0 m)
counted test e = ap (λ n. below n (first_failing test 0 n)) e

pub loop-i-init : goal.loop-i-init
loop-i-init c = simp sub-zero

pub pairs_listed-requires : goal.pairs_listed-requires
pairs_listed-requires c = omega (arith, c.record_count-n.ensures)

pub returns-then-not-pairs_listed : goal.returns-then-not-pairs_listed
returns-then-not-pairs_listed c = found_here _ _ _ c.loop-i.invariant c.loop-i-test.true (sym c.pairs_listed.ensures ∙ c.if-not-pairs_listed.true) ∙ counted _ c.record_count-n.ensures

pub loop-i-preserved : goal.loop-i-preserved
loop-i-preserved c = sym (scan_on _ _ _ c.loop-i-test.true (sym c.pairs_listed.ensures ∙ c.if-not-pairs_listed.false)) ∙ c.loop-i.invariant

pub returns : goal.returns
returns c = found_out _ _ _ c.loop-i.invariant c.loop-i-test.false ∙ counted _ c.record_count-n.ensures
