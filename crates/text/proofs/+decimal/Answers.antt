-- By induction on the number: the digits in front are found by the same function, and one more is put behind them.
use mathlib.Core.Path.{◌≡◌, ap}
use Prim.Native.Nat.{◌/◌, ◌%◌}
use native.Mathlib.Omega.{arith}
use lib.ListN.{length}
use Rattle.text_rules.proofs.Decimal.{decimal_one, decimal_more, decimal_short}
use Rattle.text.proofs.+decimal.Goals.{then-n-lt10, else-n-lt10}
use Rattle.text.proofs.+decimal.Goals as goal

pub push-requires : goal.push-requires
push-requires t c = (
  omega arith,
  elim c.if-n-lt10.branch [
    | then-n-lt10 w ↦ omega (arith, ap length w.text-is, ap length w.new-text.ensures)
    | else-n-lt10 w ↦ omega (arith, ap length w.text-is, ap length w.decimal-text.ensures, decimal_short 18 (c.args.n / 10) (omega (arith, c.ranges.n.fits)))
  ],
)

pub returns : goal.returns
returns t c =
    elim c.if-n-lt10.branch [
      | then-n-lt10 w ↦
          let same : c.args.n % 10 ≡ c.args.n = omega (arith, w.if-n-lt10.true) in
          cc (c.push.ensures, w.text-is, w.new-text.ensures, decimal_one c.args.n w.if-n-lt10.true, same)
      | else-n-lt10 w ↦ cc (c.push.ensures, w.text-is, w.decimal-text.ensures, decimal_more c.args.n w.if-n-lt10.false)
    ]
