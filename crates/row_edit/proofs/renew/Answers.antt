use Rattle.edit_rules.proofs.Written.{next_written, all_written, count_more, count_on, count_start, count_end}
use Rattle.edit_rules.specs.Count.{differing}
use Rattle.lists.proofs.Overwrite.{overwrite_none}
use lib.ListN.{length}
use native.Mathlib.Omega.{arith}
use Prim.Native.Nat.{ℕ, ◌+◌, ◌-◌, ◌<◌, ◌≤◌}
use mathlib.Core.Path.{sym, ap, ◌∙◌}
use Rattle.row_edit.proofs.renew.Goals.{then-part-k, else-part-k}
use Rattle.row_edit.proofs.renew.Goals as goal

pub loop-k-init : goal.loop-k-init
loop-k-init c = (sym (overwrite_none c.args.part.now 0), omega arith, count_start c.args.part.now c.args.digits.now c.requires)

pub loop-k-preserved : goal.loop-k-preserved
loop-k-preserved c =
    let part = c.args.part.now in
    let digits = c.args.digits.now in
    let same = c.requires in
    let l = c.loop-k in
    let came = c.if-part-k.branch in
    let h : l.k < length part = omega arith in
    let rest : ℕ → ℕ = λ n. n + differing part digits (l.k + 1) (length part - (l.k + 1)) in (
      next_written part digits same l.part l.k l.invariant.0 h,
      elim came [ then-part-k w ↦ omega (arith, w.count-is, l.invariant.1) | else-part-k w ↦ omega (arith, w.count-is, l.invariant.1) ],
      elim came [ then-part-k w ↦ ap rest w.count-is ∙ count_more part digits same l.part l.k l.invariant.0 l.count l.invariant.2 h w.if-part-k.true | else-part-k w ↦ ap rest w.count-is ∙ count_on part digits same l.part l.k l.invariant.0 l.count l.invariant.2 h w.if-part-k.false ],
    )

pub returns : goal.returns
returns c =
    let part = c.args.part.now in
    let digits = c.args.digits.now in
    let l = c.loop-k in
    let h : length part ≤ l.k = omega arith in
    record { count = count_end part digits c.requires l.count l.k l.invariant.2 h; part = all_written part digits c.requires l.part l.k l.invariant.0 (omega arith) h }
