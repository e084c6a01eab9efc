-- The entries passed are powers of the base.
use Rattle.word_numbers.proofs.Filled.{Filled}
use Rattle.word_numbers.proofs.powers.Given as goal

abbrev pub invariant-loop-n : goal.invariant-loop-n
invariant-loop-n l = Filled l.base l.n l.all
