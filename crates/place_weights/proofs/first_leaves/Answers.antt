-- The inputs are fewer than the entries.
use native.Mathlib.Omega.{arith}
use Rattle.place_weights.proofs.first_leaves.Goals as goal

pub overflow_cast-digit : goal.overflow_cast-digit
overflow_cast-digit c = omega (arith, c.if-inputs-gt255.false)

pub bounds-starts-digit : goal.bounds-starts-digit
bounds-starts-digit c = omega (arith, c.if-inputs-gt255.false)

pub bounds-starts-inputs : goal.bounds-starts-inputs
bounds-starts-inputs c = omega (arith, c.if-inputs-gt255.false)
