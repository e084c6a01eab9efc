-- The operation of a call, part by part: the sum of the parts, and the first element's part minus the second's; on zero, and on negatives.
use mathlib.Core.Path.{◌≡◌, refl}
use mathlib.Core.List.{List}
use Prim.Native.Nat.{ℕ, zero, suc}
use lib.IntN.{ℤ, ◌+ℤ◌, ◌-ℤ◌}
use Rattle.lists.proofs.Cons.{cons≡}
use Rattle.ring.specs.declared.Operation.{Operation}
use Rattle.ring.specs.declared.Operation.TheVariants.{Plus, Minus}
use Rattle.ring.specs.Element.{part, zeros, plus, negative, minus}
use Rattle.ring.specs.Operation.{combine}
use Rattle.ring.proofs.Element.{part_plus, part_minus, negative_sum, negative_difference}

pub part_sum : (x y : List ℤ) (k : ℕ) → part (combine Plus x y) k ≡ part x k +ℤ part y k
part_sum x y k = part_plus x y k

pub part_difference : (x y : List ℤ) (k : ℕ) → part (combine Minus x y) k ≡ part x k -ℤ part y k
part_difference x y k = part_minus x y k

pub combine_zeros : (op : Operation) (d : ℕ) → combine op (zeros d) (zeros d) ≡ zeros d
unfolding plus negative minus
combine_zeros Plus zero = refl
combine_zeros Plus (suc d) = cons≡ refl (combine_zeros Plus d)
combine_zeros Minus zero = refl
combine_zeros Minus (suc d) = cons≡ refl (combine_zeros Minus d)

pub combine_negative : (op : Operation) (x y : List ℤ) → combine op (negative x) (negative y) ≡ negative (combine op x y)
combine_negative Plus x y = negative_sum x y
combine_negative Minus x y = negative_difference x y
