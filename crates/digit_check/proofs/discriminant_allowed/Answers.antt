-- By the degree.
use mathlib.Core.Path.{◌≡◌, refl, sym, subst}
use mathlib.Core.Bool.{Bool, true}
use mathlib.Core.List.{List}
use mathlib.Core.Logic.{inl, inr}
use Prim.Native.Nat.{ℕ}
use Rattle.ring.specs.declared.Degree.{Degree}
use Rattle.ring.specs.declared.Degree.TheVariants.{Two, Three, Four}
use Rattle.layout_rules.specs.Section.{of_degree}
use Rattle.digit_rules.specs.Digits.{BasePart, discriminant_allowed}
use Rattle.digit_check.proofs.discriminant_allowed.Goals as goal

told : (d e : Degree) (bytes : List ℕ) (r : Bool) → d ≡ e → r ≡ discriminant_allowed (of_degree e bytes) → r ≡ discriminant_allowed (of_degree d bytes)
told d e bytes r is = subst (λ (f : Degree). r ≡ discriminant_allowed (of_degree f bytes)) (sym is)

pub is_square_free-requires : goal.is_square_free-requires
is_square_free-requires c = let s = c in subst (λ (d : Degree). BasePart (of_degree d s.args.base.now)) c.in-Two.is s.requires

pub returns-in-Two : goal.returns-in-Two
unfolding discriminant_allowed
returns-in-Two c = told _ Two _ _ c.in-Two.is c.is_square_free.ensures

pub returns-in-Three : goal.returns-in-Three
unfolding discriminant_allowed
returns-in-Three c =
    elim c.in-Three.is [ inl is ↦ told _ Three c.args.base.now true is refl | inr is ↦ told _ Four c.args.base.now true is refl ]
