-- The operation of a call on two elements: addition's, and subtraction's of document 02, job 2.
use Rattle.std.specs.Prelude.{List, ℤ}
use Rattle.ring.specs.declared.Operation.{Operation}
use Rattle.ring.specs.declared.Operation.TheVariants.{Plus, Minus}
use Rattle.ring.specs.Element.{plus, minus}

-- the sum, and the first minus the second
abbrev pub combine : Operation → List ℤ → List ℤ → List ℤ
combine Plus x y = plus x y
combine Minus x y = minus x y
