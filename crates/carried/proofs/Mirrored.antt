-- TERN and BIN are mirrored: negating every digit of a word negates the weight (mirrored_result of adder_rules says what follows). By computation.
use mathlib.Core.Path.{refl}
use Rattle.lists.specs.Scan.{first_failing, every}
use Rattle.lists.specs.Span.{span}
use Rattle.ring.specs.Tests.{same}
use Rattle.ring.specs.Element.{negative}
use Rattle.ring.specs.Padded.{padded}
use Rattle.ring.proofs.Element.{same→≡}
use Rattle.layout_rules.specs.Section.{degree_of}
use Rattle.layout_rules.specs.Number.{unsigned_at, to_signed}
use Rattle.digit_rules.specs.Record.{parts_at, element_at, record_at}
use Rattle.numeration.specs.MirrorTests.{mirrors, mirror_of, mirrored}
use Rattle.numeration.proofs.Mirrored.{mirrored_sound}
use Rattle.reader_rules.specs.Table.{input_part, leaves_in}
use Rattle.reader_rules.specs.Mirrored.{MirroredTable}
use Rattle.carried.specs.Tables.{unsigned16, signed16, joined, record_of, leaf_records, directory, sections, file_of, tern_inputs, tern_weight, tern_leaves, tern_file, bin_inputs, bin_weight2, bin_weight1, bin_leaves_of, bin_leaves, bin_file}

pub mirrored_tables : MirroredTable tern_file × MirroredTable bin_file
unfolding first_failing every span same negative padded degree_of unsigned_at to_signed parts_at element_at mirrors mirror_of mirrored unsigned16 signed16 joined record_of leaf_records directory sections file_of tern_inputs tern_weight tern_leaves tern_file bin_inputs bin_weight2 bin_weight1 bin_leaves_of bin_leaves bin_file
mirrored_tables = (
  mirrored_sound same same→≡ negative (record_at (input_part tern_file)) (leaves_in tern_file) refl,
  mirrored_sound same same→≡ negative (record_at (input_part bin_file)) (leaves_in bin_file) refl,
)
