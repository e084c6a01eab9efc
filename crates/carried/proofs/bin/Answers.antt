-- What is formed of the half is the file that the definition builds, by computation.
use Rattle.carried.specs.Tables.{unsigned16, signed16, joined, record_of, leaf_records, directory, sections, file_of, bin_inputs, bin_weight2, bin_weight1, bin_leaves_of, bin_leaves, bin_file}
use Rattle.mirror_rules.specs.Half.{mirror_index, stored_number, image_number, bits_of, put_number, put_digit, put_digits, word_digit, word_number, images_below, leaf_place, word_place, put_word, put_record, put_leaf, put_leaves, mirrored_file}
use Rattle.radix.specs.Number.{number}
use Rattle.layout_rules.specs.Number.{unsigned_at}
use Rattle.lists.specs.Span.{span}
use Rattle.lists.specs.Overwrite.{overwrite}
use Rattle.lists.specs.Count.{total}
use Rattle.carried.proofs.bin.Goals as goal

pub returns : goal.returns
unfolding total overwrite span unsigned_at number mirror_index stored_number image_number bits_of put_number put_digit put_digits word_digit word_number images_below leaf_place word_place put_word put_record put_leaf put_leaves mirrored_file unsigned16 signed16 joined record_of leaf_records directory sections file_of bin_inputs bin_weight2 bin_weight1 bin_leaves_of bin_leaves bin_file
returns c = c.mirrored.ensures
