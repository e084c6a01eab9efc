use Rattle.mirror_rules.proofs.Put.{word_none, word_next, start_small}
use Rattle.mirror_rules.specs.Half.{put_word}
use lib.ListN.{set}
use native.Mathlib.Omega.{arith}
use Prim.Native.Nat.{◌+◌}
use mathlib.Core.Path.{sym, ap, ◌∙◌}
use Rattle.mirror.proofs.put_word.Goals as goal

pub loop-i-init : goal.loop-i-init
loop-i-init c = sym (word_none c.args.shape.positive c.args.shape.width c.args.words.now c.args.mirrored c.args.k c.args.out.now c.args.at)

pub overflow_mul-width : goal.overflow_mul-width
overflow_mul-width c = omega (arith, start_small c.args.shape.width c.args.k c.requires.2 c.requires.3)

pub overflow_add-width : goal.overflow_add-width
overflow_add-width c = omega (arith, start_small c.args.shape.width c.args.k c.requires.2 c.requires.3)

pub loop-i-preserved : goal.loop-i-preserved
loop-i-preserved c = c.store.ensures ∙ (λ j. set (c.loop-i.invariant j) (c.args.at + c.loop-i.i) (c.digit.ensures.digit j)) ∙ sym (word_next c.args.shape.positive c.args.shape.width c.args.words.now c.args.mirrored c.args.k c.args.out.now c.args.at c.loop-i.i)

pub returns : goal.returns
returns c = c.loop-i.invariant ∙ ap (put_word c.args.shape.positive c.args.shape.width c.args.words.now c.args.mirrored c.args.k c.args.out.now c.args.at) (omega arith)
