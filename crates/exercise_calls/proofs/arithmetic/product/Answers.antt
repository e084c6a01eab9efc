-- The base's matrix is small enough to multiply by.
use Rattle.std.proofs.Common.{◌^◌, lit≤}
use Rattle.ring.proofs.Element.{within_le}
use Rattle.exercise_calls.proofs.arithmetic.product.Goals as goal

pub times_base-requires : goal.times_base-requires
times_base-requires c = (c.base_matrix.ensures.within, within_le 64 (2 ^ 32) _ (lit≤ tt) c.requires.1)
