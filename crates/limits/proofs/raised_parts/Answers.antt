-- Each of the parts by the degree.
use mathlib.Core.Path.{◌≡◌, subst}
use mathlib.Core.List.{List}
use Prim.Native.Nat.{ℕ, ◌+◌, ◌*◌, ◌<◌, ◌≤◌}
use native.Mathlib.Nat.{add-zero}
use native.Mathlib.Omega.{arith}
use lib.IntN.{nat_abs}
use lib.ListN.{length}
use Rattle.lists.proofs.Each.{each}
use Rattle.ring.specs.declared.Degree.{Degree}
use Rattle.ring.specs.declared.Degree.TheVariants.{Two, Three, Four}
use Rattle.ring.specs.Degree.{part_count}
use Rattle.layout_rules.specs.Number.{signed_at}
use Rattle.layout_rules.specs.Section.{element_size}
use Rattle.limits.proofs.raised_parts.Goals as goal

-- an element has two parts at least
two_parts : (d : Degree) → 4 ≤ element_size d
two_parts Two = omega arith
two_parts Three = omega arith
two_parts Four = omega arith

-- the room of an element of the degree that was told
room : (d e : Degree) (at n : ℕ) → d ≡ e → at + element_size d ≤ n → at + element_size e ≤ n
room d e at n told h = subst (λ (f : Degree). at + element_size f ≤ n) told h

-- the first two parts, and as many behind them as the degree has
module _ (bytes : List ℕ) (at limit : ℕ) where
  abbrev Inside : ℕ → Type 0
  Inside k = nat_abs (signed_at bytes (at + 2 * k)) ≤ limit

  first : nat_abs (signed_at bytes at) ≤ limit → Inside 0
  first h = rw (add-zero at) h

  told-parts : (d e : Degree) → d ≡ e → ((k : ℕ) → k < part_count e → Inside k) → (k : ℕ) → k < part_count d → Inside k
  told-parts d e told all k h = all k (subst (λ (f : Degree). k < part_count f) told h)

pub raised-requires : goal.raised-requires
raised-requires c = (omega (arith, c.requires.0, two_parts c.args.degree), c.requires.1)

pub overflow_add-at : goal.overflow_add-at
overflow_add-at c = omega (arith, c.requires.0, two_parts c.args.degree)

pub raised-requires-2 : goal.raised-requires-2
raised-requires-2 c = (omega (arith, c.requires.0, two_parts c.args.degree), c.requires.1)

pub raised-requires-in-Three : goal.raised-requires-in-Three
raised-requires-in-Three c = let s = c in (omega (arith, room _ Three s.args.at (length s.args.bytes.now) c.in-Three.is s.requires.0), s.requires.1)

pub raised-requires-in-Four : goal.raised-requires-in-Four
raised-requires-in-Four c = let s = c in (omega (arith, room _ Four s.args.at (length s.args.bytes.now) c.in-Four.is s.requires.0), s.requires.1)

pub raised-requires-in-Four-2 : goal.raised-requires-in-Four-2
raised-requires-in-Four-2 c = let s = c in (omega (arith, room _ Four s.args.at (length s.args.bytes.now) c.in-Four.is s.requires.0), s.requires.1)

pub returns-in-Two : goal.returns-in-Two
returns-in-Two c =
    let s = c in
    let a = s.args in
    λ low. told-parts a.bytes.now a.at a.limit a.degree Two c.in-Two.is (each (Inside a.bytes.now a.at a.limit) 2 ((tt, first a.bytes.now a.at a.limit (c.raised.ensures (omega (arith, low, c.at_least-two.ensures.one, c.at_least-two.ensures.other)))), c.raised-2.ensures (omega (arith, low, c.at_least-two.ensures.one, c.at_least-two.ensures.other))))

pub returns-in-Three : goal.returns-in-Three
returns-in-Three c =
    let s = c in
    let a = s.args in
    λ low. told-parts a.bytes.now a.at a.limit a.degree Three c.in-Three.is (each (Inside a.bytes.now a.at a.limit) 3 (((tt, first a.bytes.now a.at a.limit (c.raised.ensures (omega (arith, low, c.at_least.ensures.one, c.at_least.ensures.other, c.at_least-two.ensures.one, c.at_least-two.ensures.other)))), c.raised-2.ensures (omega (arith, low, c.at_least.ensures.one, c.at_least.ensures.other, c.at_least-two.ensures.one, c.at_least-two.ensures.other))), c.raised-in-Three.ensures (omega (arith, low, c.at_least.ensures.one, c.at_least.ensures.other, c.at_least-two.ensures.one, c.at_least-two.ensures.other))))

pub returns-in-Four : goal.returns-in-Four
returns-in-Four c =
    let s = c in
    let a = s.args in
    λ low. told-parts a.bytes.now a.at a.limit a.degree Four c.in-Four.is (each (Inside a.bytes.now a.at a.limit) 4 ((((tt, first a.bytes.now a.at a.limit (c.raised.ensures (omega (arith, low, c.at_least-in-Four-2.ensures.one, c.at_least-in-Four-2.ensures.other, c.at_least-in-Four.ensures.one, c.at_least-in-Four.ensures.other, c.at_least-two.ensures.one, c.at_least-two.ensures.other)))), c.raised-2.ensures (omega (arith, low, c.at_least-in-Four-2.ensures.one, c.at_least-in-Four-2.ensures.other, c.at_least-in-Four.ensures.one, c.at_least-in-Four.ensures.other, c.at_least-two.ensures.one, c.at_least-two.ensures.other))), c.raised-in-Four.ensures (omega (arith, low, c.at_least-in-Four-2.ensures.one, c.at_least-in-Four-2.ensures.other, c.at_least-in-Four.ensures.one, c.at_least-in-Four.ensures.other, c.at_least-two.ensures.one, c.at_least-two.ensures.other))), c.raised-in-Four-2.ensures (omega (arith, low, c.at_least-in-Four-2.ensures.one, c.at_least-in-Four-2.ensures.other, c.at_least-in-Four.ensures.one, c.at_least-in-Four.ensures.other, c.at_least-two.ensures.one, c.at_least-two.ensures.other))))
