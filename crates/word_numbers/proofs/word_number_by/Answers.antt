-- The mask takes what stands behind the word out; where there are few bytes they are multiplied.
use native.Mathlib.Nat.{one-le-pow}
use Prim.Native.Nat.{◌-◌}
use native.Mathlib.Omega.{arith}
use Rattle.word_numbers.proofs.Shift.{few_room, few_times, eight_masked}
use Rattle.word_numbers.proofs.word_number_by.Goals as goal

pub overflow_mul-result : goal.overflow_mul-result
overflow_mul-result c = omega (arith, few_room c.args.words.now c.args.start c.args.length c.requires.0 (λ i. omega (arith, c.type_inv.words i)) c.few.result c.args.unit c.few.ensures c.requires.2)

pub returns-then-words-start-lt-LONGEST : goal.returns-then-words-start-lt-LONGEST
returns-then-words-start-lt-LONGEST c = few_times c.args.words.now c.args.start c.args.length c.few.result c.args.unit c.few.ensures c.requires.2

pub overflow_sub-result : goal.overflow_sub-result
overflow_sub-result c = omega (arith, c.requires.2, one-le-pow (8 - c.args.length) 256 (omega arith))

pub returns-else-words-start-lt-LONGEST : goal.returns-else-words-start-lt-LONGEST
returns-else-words-start-lt-LONGEST c = eight_masked c.args.words.now c.args.start c.args.length c.requires.0 (λ i. omega (arith, c.type_inv.words i)) c.eight.result c.args.unit c.eight.ensures.number c.requires.2
