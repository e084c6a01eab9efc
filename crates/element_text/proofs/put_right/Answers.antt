-- The spaces, and the text behind them.
use mathlib.Core.Path.{◌≡◌, refl}
use mathlib.Core.List.{append_assoc}
use Prim.Native.Nat.{◌-◌}
use native.Mathlib.Omega.{arith}
use lib.ListN.{length, length-append, length-replicate}
use Rattle.std.proofs.Common.{rules}
use Rattle.listing_rules.specs.Element.{right}
use Rattle.listing_rules.proofs.Element.{right_length}
use Rattle.element_text.proofs.put_right.Goals as goal

pub fill-requires : goal.fill-requires
fill-requires g c = (search rules, omega (arith, c.requires, c.saturating_sub.ensures, right_length c.args.width c.args.bytes.now))

pub put-requires : goal.put-requires
put-requires g c = (search rules, simp (c.fill.ensures, length-append, length-replicate) (omega (arith, c.requires, c.saturating_sub.ensures, right_length c.args.width c.args.bytes.now)))

pub returns : goal.returns
unfolding right
returns g c =
    let spaces : c.saturating_sub.result ≡ c.args.width - length c.args.bytes.now = omega (arith, c.saturating_sub.ensures) in
    simp (c.put.ensures, c.fill.ensures, spaces, append_assoc) refl
