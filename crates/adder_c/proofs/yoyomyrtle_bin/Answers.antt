-- BIN, where it has room.
use Rattle.carried.specs.Tables.{bin_file}
use Rattle.answer_rules.proofs.Answer.{no_copy, copy}
use Rattle.adder_c.proofs.yoyomyrtle_bin.Goals as goal

pub returns-then-out-lt187 : goal.returns-then-out-lt187
returns-then-out-lt187 c =
    let made = no_copy 187 c.args.out.now bin_file c.if-out-lt187.true in
    record { outcome = made.0; bytes = made.1 }

pub returns : goal.returns
returns c =
    let made = copy 187 c.args.out.now bin_file _ _ c.if-out-lt187.false c.bin.ensures c.put.ensures.written in
    record { outcome = made.0; bytes = made.1 }
