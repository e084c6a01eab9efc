-- A record of the section, or zero.
use Rattle.std.proofs.Common.{zero-le}
use Rattle.ring.proofs.Parts.{within_four}
use Rattle.table_why.proofs.digit_at.Goals as goal

pub returns-else-k-record_count : goal.returns-else-k-record_count
returns-else-k-record_count c = within_four 32768 _ _ _ _ zero-le zero-le zero-le zero-le
