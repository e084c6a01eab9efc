use Prim.Native.Nat.{◌*◌, ◌+◌, ℕ}
use Rattle.radix.proofs.Order.{number_zero}
use Rattle.word_numbers.proofs.Shift.{from, more_bytes, few_small, more_small}
use native.Mathlib.Omega.{arith}
use mathlib.Core.Path.{sym, ap, ◌∙◌}
use Rattle.word_numbers.proofs.few.Goals as goal

pub loop-i-init : goal.loop-i-init
loop-i-init c = (sym (number_zero 256 _), omega arith)

pub overflow_mul-all : goal.overflow_mul-all
overflow_mul-all c = omega (arith, few_small c.loop-i.i c.loop-i.all (omega arith) c.loop-i.invariant.1)

pub overflow_add-all : goal.overflow_add-all
overflow_add-all c = omega (arith, few_small c.loop-i.i c.loop-i.all (omega arith) c.loop-i.invariant.1, c.type_inv.bytes (c.args.at + c.loop-i.i))

pub loop-i-preserved : goal.loop-i-preserved
loop-i-preserved c =
    let a = c.args in
    let loop = c.loop-i in (
      ap (λ (x : ℕ). loop.all * 256 + x) c.from.ensures ∙ more_bytes (from a.bytes.now a.at) loop.i loop.all loop.invariant.0,
      more_small loop.i loop.all c.from.result loop.invariant.1 (omega (arith, c.type_inv.bytes (a.at + loop.i))),
    )
