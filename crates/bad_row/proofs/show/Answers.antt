-- Nothing where no pair fails; else the facts and the string of the failing one.
use mathlib.Core.Path.{sym, ap, ◌∙◌}
use native.Mathlib.Omega.{arith}
use lib.ListN.{length}
use lib.Dec.{lit<}
use Rattle.bad_row.proofs.Table.{word_long, string_given}
use Rattle.bad_row.specs.Words.{word_string}
use Rattle.bad_row_rules.proofs.Shows.{shows_nothing, shows_pair, fails_first}
use Rattle.bad_row_rules.specs.BadRow.{string_of, written}
use Rattle.bad_row_rules.specs.Shows.{Shows, row}
use Rattle.table_rules.specs.Check.{bad_pair_of}
use Rattle.table_rules.specs.declared.Pair.{Pair}
use Rattle.reader_rules.proofs.Kept.{layout_kept, table_kept, section_is}
use Rattle.leaf_rules.specs.Given.{word_given}
use Rattle.lists.specs.Overwrite.{overwrite}
use Rattle.bad_row.proofs.show.Goals as goal

pub section-leaves-requires : goal.section-leaves-requires
section-leaves-requires c = ((layout_kept c.args.table.now (table_kept c.args.table.now c.requires).0).0, lit< tt)

pub section-words-requires : goal.section-words-requires
section-words-requires c = ((layout_kept c.args.table.now (table_kept c.args.table.now c.requires).0).0, lit< tt)

pub returns-in_default : goal.returns-in_default
unfolding written
returns-in_default c =
    let table = c.args.table.now in
    let none = sym (shows_nothing table (omega (arith, ap (λ (p : Pair). p.upper) c.in_default.ensures.1))) in
    record { answer = none; string = ap (λ (x : Shows). written x (string_of table (bad_pair_of table)) c.args.string.now) none }

pub put_string-bytes-requires : goal.put_string-bytes-requires
put_string-bytes-requires c =
    let table = c.args.table.now in
    let p = c.in-Err.pair in
    let leaves = section_is table _ _ 3 c.degree_in-degree.ensures c.section-leaves.ensures in
    let (there, first) = c.in-Err.ensures in
    let upper = c.word.ensures ∙ (λ i. word_given (leaves i) (c.section-words.ensures i) p.upper) in
    let lower = c.word-2.ensures ∙ (λ i. word_given (leaves i) (c.section-words.ensures i) p.lower) in
    let long = word_long table c.requires p.upper there in
    let other = word_long table c.requires p.lower (fails_first table p first there).lower_there in
    (omega (arith, ap length upper, long.0), omega (arith, ap length upper, long.1), omega (arith, ap length lower, other.1))

pub digit_of-requires : goal.digit_of-requires
digit_of-requires c =
    let (there, first) = c.in-Err.ensures in
    record { table = c.requires; leaves = (there, (fails_first c.args.table.now c.in-Err.pair first there).lower_there) }

pub returns : goal.returns
unfolding written
returns c =
    let table = c.args.table.now in
    let p = c.in-Err.pair in
    let leaves = section_is table _ _ 3 c.degree_in-degree.ensures c.section-leaves.ensures in
    let (there, first) = c.in-Err.ensures in
    let fails = fails_first table p first there in
    let upper = c.word.ensures ∙ (λ i. word_given (leaves i) (c.section-words.ensures i) p.upper) in
    let lower = c.word-2.ensures ∙ (λ i. word_given (leaves i) (c.section-words.ensures i) p.lower) in
    let string = (λ i. word_string (upper i) (lower i)) ∙ string_given table c.requires p there fails.lower_there fails.fit in
    let shown = shows_pair table p first there in record { answer = (λ i. row (record { upper = p.upper; lower = p.lower; digit = c.digit_of.ensures i; bytes = (c.put_string-bytes.ensures.bytes ∙ ap length string) i })) ∙ sym shown; string = c.put_string-bytes.ensures.string ∙ ap (overwrite c.args.string.now 0) (string ∙ ap (string_of table) first) ∙ ap (λ (x : Shows). written x (string_of table (bad_pair_of table)) c.args.string.now) (sym shown) }
