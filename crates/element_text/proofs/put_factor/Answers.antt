-- A 1 is left out before ω.
use mathlib.Core.Path.{◌≡◌, sym, ap}
use mathlib.Core.List.{append-nil}
use mathlib.Core.Logic.{◌⊎◌, inl, inr}
use Prim.Native.Nat.{ℕ}
use native.Mathlib.Omega.{arith}
use lib.ListN.{length}
use borrow.Author.Tests.{lt-ltb, le-ltb}
use Rattle.std.proofs.Common.{rules}
use Rattle.listing_rules.proofs.Element.{factor_none, factor_other, factor_whole}
use Rattle.listing_rules.specs.Element.{factor_text}
use Rattle.text_rules.specs.Decimal.{decimal}
use Rattle.element_text.proofs.put_factor.Goals as goal

-- the number is written where it isn't 1 or no ω stands behind it
full : (n k : ℕ) → (n ≡ 1 → ⊥) ⊎ (n ≡ 1) × (k ≡ 0) → factor_text n k ≡ decimal n
full n k (inl other) = factor_other n k other
full n k (inr p) = factor_whole n k p.0 (le-ltb _ _ (omega (arith, p.1)))

pub decimal-requires : goal.decimal-requires
decimal-requires g c = (search rules, omega (arith, c.requires, ap length (full c.args.n c.args.k c.then-n-ne1.either)))

pub returns-then-n-ne1 : goal.returns-then-n-ne1
returns-then-n-ne1 g c = rw (full c.args.n c.args.k c.then-n-ne1.either) c.decimal.ensures

pub returns-else-k-eq0 : goal.returns-else-k-eq0
returns-else-k-eq0 g c = rw (factor_none c.args.n c.args.k c.if-n-ne1.false (lt-ltb _ _ (omega (arith, c.if-k-eq0.false)))) (sym (append-nil c.args.text.now))
