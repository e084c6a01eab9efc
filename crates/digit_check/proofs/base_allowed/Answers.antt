-- By the degree.
use mathlib.Core.Path.{◌≡◌, sym, subst}
use mathlib.Core.Bool.{Bool}
use mathlib.Core.List.{List}
use mathlib.Core.Logic.{inl, inr}
use Prim.Native.Nat.{ℕ}
use lib.Dec.{ltb}
use lib.IntN.{nat_abs}
use Rattle.ring.specs.declared.Degree.{Degree}
use Rattle.ring.specs.declared.Degree.TheVariants.{Three, Four}
use Rattle.ring.specs.Degree.{part_count}
use Rattle.ring.specs.Determinant.{determinant}
use Rattle.ring.specs.Product.{matrix_of}
use Rattle.layout_rules.specs.Section.{of_degree}
use Rattle.digit_rules.specs.Base.{omega_of, beta_of}
use Rattle.digit_rules.specs.Digits.{BasePart, base_allowed}
use Rattle.digit_check.proofs.base_allowed.Goals as goal

-- what is allowed at the degree that was told, by the determinant above degree two
module _ (bytes : List ℕ) (r : Bool) where
  abbrev Large : Degree → Type 0
  Large d = r ≡ ltb 1 (nat_abs (determinant (part_count d) (matrix_of (omega_of (of_degree d bytes)) (beta_of (of_degree d bytes)))))

  abbrev Allowed : Degree → Type 0
  Allowed d = r ≡ base_allowed (of_degree d bytes)

  large : (d e : Degree) → d ≡ e → (Large e → Allowed e) → Large d → Allowed d
  large d e is allowed h = subst Allowed (sym is) (allowed (subst Large is h))

pub is_expanding-requires : goal.is_expanding-requires
is_expanding-requires c = let s = c in subst (λ (d : Degree). BasePart (of_degree d s.args.base.now)) c.in-Two.is s.requires

pub returns-in-Two : goal.returns-in-Two
unfolding base_allowed
returns-in-Two c = let a = c.args in subst (Allowed a.base.now c.is_expanding.result) (sym c.in-Two.is) c.is_expanding.ensures

pub returns-in-Three : goal.returns-in-Three
unfolding base_allowed
returns-in-Three c =
    let a = c.args in
    let r = c.has_large_determinant.result in
    elim c.in-Three.is [
      | inl is ↦ large a.base.now r a.degree Three is (λ h. h) c.has_large_determinant.ensures
      | inr is ↦ large a.base.now r a.degree Four is (λ h. h) c.has_large_determinant.ensures
    ]
