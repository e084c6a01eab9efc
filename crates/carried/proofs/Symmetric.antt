-- TERN and BIN list −a for every alphabet digit a, so that subtraction never says 42 with them (symmetric-never-42 of adder_rules).
use mathlib.Core.Path.{refl}
use lib.Dec.{lit<}
use Rattle.lists.specs.Span.{span}
use Rattle.lists.proofs.Each.{each}
use Rattle.ring.specs.Padded.{padded}
use Rattle.layout_rules.specs.Section.{degree_of}
use Rattle.layout_rules.specs.Number.{unsigned_at, to_signed}
use Rattle.ring.specs.Element.{negative}
use Rattle.digit_rules.specs.Record.{parts_at, element_at, record_at}
use Rattle.digit_rules.specs.Broken.{Listed, Symmetric}
use Rattle.reader_rules.specs.Table.{alphabet_part}
use Rattle.carried.specs.Tables.{unsigned16, signed16, joined, record_of, leaf_records, directory, sections, file_of, tern_inputs, tern_weight, tern_leaves, tern_file, bin_inputs, bin_weight2, bin_weight1, bin_leaves_of, bin_leaves, bin_file}

pub symmetric : Symmetric (alphabet_part tern_file) × Symmetric (alphabet_part bin_file)
unfolding span degree_of unsigned_at to_signed negative padded parts_at element_at unsigned16 signed16 joined record_of leaf_records directory sections file_of tern_inputs tern_weight tern_leaves tern_file bin_inputs bin_weight2 bin_weight1 bin_leaves_of bin_leaves bin_file
symmetric = (
  each (λ i. Listed (alphabet_part tern_file) (negative (record_at (alphabet_part tern_file) i))) 5
      (((((tt, (0, lit< tt, refl)), (3, lit< tt, refl)), (4, lit< tt, refl)), (1, lit< tt, refl)), (2, lit< tt, refl)),
  each (λ i. Listed (alphabet_part bin_file) (negative (record_at (alphabet_part bin_file) i))) 3
      (((tt, (0, lit< tt, refl)), (2, lit< tt, refl)), (1, lit< tt, refl)),
)
