-- The reader found facts, so that the directory is right and the sections can be handed on.
use Rattle.std.proofs.Common.{lit<}
use Rattle.adder_rules.proofs.Table.{directory_kept}
use Rattle.reader_rules.proofs.Answer.{found_facts}
use Rattle.vectors.proofs.requests.leaf_line.Goals as goal

pub section-leaves-requires : goal.section-leaves-requires
section-leaves-requires g c =
    (directory_kept c.args.table.now (found_facts c.args.table.now _ c.in-Ok.ensures).passes, lit< tt)

pub section-words-requires : goal.section-words-requires
section-words-requires g c =
    (directory_kept c.args.table.now (found_facts c.args.table.now _ c.in-Ok.ensures).passes, lit< tt)
