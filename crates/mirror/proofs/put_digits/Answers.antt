use Rattle.mirror_rules.proofs.Put.{digits_none, digits_next}
use Rattle.mirror_rules.specs.Half.{put_digit, put_digits}
use native.Mathlib.Omega.{arith}
use Prim.Native.Nat.{ℕ}
use mathlib.Core.List.{List}
use mathlib.Core.Path.{sym, ap, ◌∙◌}
use Rattle.mirror.proofs.put_digits.Goals as goal

pub loop-k-init : goal.loop-k-init
loop-k-init c = sym (digits_none c.args.half.now c.args.out.now c.args.at)

pub loop-k-preserved : goal.loop-k-preserved
loop-k-preserved c = c.put_digit.ensures ∙ ap (λ (s : List ℕ). put_digit c.args.half.now c.args.at s c.loop-k.k) c.loop-k.invariant ∙ sym (digits_next c.args.half.now c.args.out.now c.args.at c.loop-k.k)

pub returns : goal.returns
returns c = c.loop-k.invariant ∙ ap (put_digits c.args.half.now c.args.at c.args.out.now) (omega arith)
