-- Both files say what document 01 lists, by computation.
use mathlib.Core.Path.{◌≡◌, refl}
use mathlib.Core.List.{[], ◌∷◌, map}
use Rattle.lists.specs.Span.{span}
use Rattle.ring.specs.Padded.{padded}
use Rattle.layout_rules.specs.Section.{degree_of}
use Rattle.layout_rules.specs.Number.{unsigned_at, to_signed}
use Rattle.digit_rules.specs.Record.{parts_at, element_at}
use Rattle.carried.specs.Tables.{unsigned16, signed16, joined, record_of, leaf_records, directory, sections, file_of, tern_inputs, tern_weight, tern_leaves, tern_file, bin_inputs, bin_weight2, bin_weight1, bin_leaves_of, bin_leaves, bin_file}
use Rattle.carried.specs.Contents.{contents_of, tern_listed, bin_listed}

-- TERN and BIN, digit by digit
pub listed : map contents_of (tern_file ∷ bin_file ∷ []) ≡ tern_listed ∷ bin_listed ∷ []
unfolding span degree_of unsigned_at to_signed padded parts_at element_at unsigned16 signed16 joined record_of leaf_records directory sections file_of tern_inputs tern_weight tern_leaves tern_file bin_inputs bin_weight2 bin_weight1 bin_leaves_of bin_leaves bin_file contents_of tern_listed bin_listed
listed = refl
