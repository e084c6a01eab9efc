-- Pinned by proofs/Test.antt: a reader may skip this file. Equality of integers as a test that computes.
use Rattle.std.specs.Prelude.{Bool, false, ℤ, pos, negsuc, eqb}

abbrev pub eq_z : ℤ → ℤ → Bool
eq_z (pos a) (pos b) = eqb a b
eq_z (pos a) (negsuc b) = false
eq_z (negsuc a) (pos b) = false
eq_z (negsuc a) (negsuc b) = eqb a b
