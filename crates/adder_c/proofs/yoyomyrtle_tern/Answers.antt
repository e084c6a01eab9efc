-- TERN, where it has room.
use Rattle.carried.specs.Tables.{tern_file}
use Rattle.answer_rules.proofs.Answer.{no_copy, copy}
use Rattle.adder_c.proofs.yoyomyrtle_tern.Goals as goal

pub returns-then-out-lt165 : goal.returns-then-out-lt165
returns-then-out-lt165 c =
    let made = no_copy 165 c.args.out.now tern_file c.if-out-lt165.true in
    record { outcome = made.0; bytes = made.1 }

pub returns : goal.returns
returns c =
    let made = copy 165 c.args.out.now tern_file _ _ c.if-out-lt165.false c.tern.ensures c.put.ensures.written in
    record { outcome = made.0; bytes = made.1 }
