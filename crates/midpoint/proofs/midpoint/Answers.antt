-- The four halves, part by part.
use mathlib.Core.Path.{◌≡◌, refl, ap₂, ◌∙◌}
use lib.IntN.{ℤ, ◌+ℤ◌}
use mir.Syntax.{w32}
use mir.Val.{SFits, to_z, of_z}
use mir.ValLaws.{to_z-of_z}
use Rattle.lists.proofs.Cons.{cons≡}
use Rattle.ring.specs.Element.{plus}
use Rattle.midpoint.specs.Halved.{halved}
use Rattle.midpoint.specs.Midpoint.{midpoint_of}
use borrow.Author.Rules.{rules}
use Rattle.midpoint.proofs.midpoint.Goals as goal

-- a part, with all three numbers as they are read back from their bits
read_back : (r p q : ℤ) → SFits w32 r → SFits w32 p → SFits w32 q → r ≡ halved (to_z w32 (of_z w32 p) +ℤ to_z w32 (of_z w32 q)) → to_z w32 (of_z w32 r) ≡ halved (p +ℤ q)
read_back r p q f g h e = to_z-of_z w32 r f ∙ e ∙ ap₂ (λ a b. halved (a +ℤ b)) (to_z-of_z w32 p g) (to_z-of_z w32 q h)

pub returns : goal.returns
unfolding midpoint_of plus
returns c =
    let s = c in
    let x = s.args.x in
    let y = s.args.y in
    cons≡ (read_back c.half_sum.result x.a y.a (search rules) (search rules) (search rules) c.half_sum.ensures) (cons≡ (read_back c.half_sum-2.result x.b y.b (search rules) (search rules) (search rules) c.half_sum-2.ensures) (cons≡ (read_back c.half_sum-3.result x.c y.c (search rules) (search rules) (search rules) c.half_sum-3.ensures) (cons≡ (read_back c.half_sum-4.result x.d y.d (search rules) (search rules) (search rules) c.half_sum-4.ensures) refl)))
