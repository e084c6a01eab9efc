use Rattle.mirror_rules.proofs.Put.{start_small}
use Rattle.mirror_rules.specs.Half.{word_digit, word_number}
use Rattle.word_numbers.proofs.Shift.{more_bytes, few_small, more_small}
use Rattle.radix.proofs.Order.{number_zero}
use Rattle.radix.specs.Number.{number}
use native.Mathlib.Omega.{arith}
use native.Mathlib.Nat.{pow-zero}
use Prim.Native.Nat.{ℕ, ◌+◌, ◌*◌}
use mathlib.Core.Path.{sym, ap, ◌∙◌}
use Rattle.mirror.proofs.number.Goals as goal

pub loop-i-init : goal.loop-i-init
loop-i-init c = (sym (number_zero 256 _), omega (arith, pow-zero 256))

pub overflow_mul-all : goal.overflow_mul-all
overflow_mul-all c = omega (arith, few_small c.loop-i.i c.loop-i.all (omega arith) c.loop-i.invariant.1)

pub overflow_mul-width : goal.overflow_mul-width
overflow_mul-width c = omega (arith, start_small c.args.shape.width c.args.k c.requires.1 c.requires.2)

pub overflow_add-width : goal.overflow_add-width
overflow_add-width c = omega (arith, start_small c.args.shape.width c.args.k c.requires.1 c.requires.2)

pub overflow_add-all : goal.overflow_add-all
overflow_add-all c = omega (arith, few_small c.loop-i.i c.loop-i.all (omega arith) c.loop-i.invariant.1, c.digit.ensures.within)

pub loop-i-preserved : goal.loop-i-preserved
loop-i-preserved c = (ap (λ (x : ℕ). c.loop-i.all * 256 + x) c.digit.ensures.digit ∙ more_bytes (λ n. word_digit c.args.shape.positive c.args.words.now c.args.mirrored (c.args.shape.width * c.args.k + n)) c.loop-i.i c.loop-i.all c.loop-i.invariant.0, more_small c.loop-i.i c.loop-i.all c.digit.result c.loop-i.invariant.1 c.digit.ensures.within)

pub returns : goal.returns
unfolding word_number
returns c = c.loop-i.invariant.0 ∙ ap (number 256 (λ n. word_digit c.args.shape.positive c.args.words.now c.args.mirrored (c.args.shape.width * c.args.k + n))) (omega arith)
