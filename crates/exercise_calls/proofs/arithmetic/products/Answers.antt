-- The numbers are small.
use Rattle.std.proofs.Common.{lit≤}
use Rattle.ring.proofs.Parts.{within_four}
use Rattle.exercise_calls.proofs.arithmetic.products.Goals as goal

pub product-requires : goal.product-requires
product-requires g c =
    (record { of_omega = within_four 64 _ _ _ _ (lit≤ tt) (lit≤ tt) (lit≤ tt) (lit≤ tt); of_beta = within_four 64 _ _ _ _ (lit≤ tt) (lit≤ tt) (lit≤ tt) (lit≤ tt) }, within_four 64 _ _ _ _ (lit≤ tt) (lit≤ tt) (lit≤ tt) (lit≤ tt))

pub product-requires-2 : goal.product-requires-2
product-requires-2 g c =
    (record { of_omega = within_four 64 _ _ _ _ (lit≤ tt) (lit≤ tt) (lit≤ tt) (lit≤ tt); of_beta = within_four 64 _ _ _ _ (lit≤ tt) (lit≤ tt) (lit≤ tt) (lit≤ tt) }, within_four 64 _ _ _ _ (lit≤ tt) (lit≤ tt) (lit≤ tt) (lit≤ tt))
