-- The shift puts zeros behind the word, and takes what is in front of it out.
use mathlib.Core.Path.{ap, ◌∙◌}
use Prim.Native.Nat.{ℕ, ◌*◌, ◌-◌, ◌^◌, ◌%◌}
use native.Mathlib.Omega.{arith}
use Rattle.word_numbers.proofs.Shift.{few_shifted, eight_shifted}
use Rattle.word_numbers.proofs.word_number.Goals as goal

pub returns-then-end-lt-LONGEST : goal.returns-then-end-lt-LONGEST
returns-then-end-lt-LONGEST c = ap (λ (x : ℕ). (x * 2 ^ (8 * (8 - c.args.length))) % 2 ^ 64) c.few.ensures ∙ few_shifted c.args.words.now c.args.start c.args.length c.requires.1 (λ i. omega (arith, c.type_inv.words i))

pub returns-else-end-lt-LONGEST : goal.returns-else-end-lt-LONGEST
returns-else-end-lt-LONGEST c = ap (λ (x : ℕ). (x * 2 ^ (8 * (8 - c.args.length))) % 2 ^ 64) c.eight.ensures.number ∙ eight_shifted c.args.words.now c.args.start c.args.length c.requires.1 (λ i. omega (arith, c.type_inv.words i)) (omega arith)
