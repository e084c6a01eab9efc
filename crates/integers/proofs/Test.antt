-- The test of equality decides it.
use mathlib.Core.Path.{◌≡◌, refl, ap}
use mathlib.Core.Bool.{true}
use lib.IntN.{ℤ, pos, negsuc}
use borrow.Author.Tests.{eq-eqb, eqb-true}
use Rattle.integers.specs.Test.{eq_z}

pub eq_z_refl : (a : ℤ) → eq_z a a ≡ true
eq_z_refl (pos a) = eq-eqb a a refl
eq_z_refl (negsuc a) = eq-eqb a a refl

pub eq_z→≡ : (a b : ℤ) → eq_z a b ≡ true → a ≡ b
eq_z→≡ (pos a) (pos b) h = ap pos (eqb-true a b h)
eq_z→≡ (pos a) (negsuc b) h = cc
eq_z→≡ (negsuc a) (pos b) h = cc
eq_z→≡ (negsuc a) (negsuc b) h = ap negsuc (eqb-true a b h)
