-- The check accepts both tables, by computation: every definition on the way is opened. The program's line for TERN.
use mathlib.Core.Path.{◌≡◌, refl, ap, ◌∙◌}
use Rattle.faults.specs.Outcome.{facts}
use Rattle.lists.specs.Overwrite.{overwrite}
use Rattle.lists.specs.Scan.{first_failing, every}
use Rattle.lists.specs.Span.{span}
use Rattle.lists.specs.Count.{total, count}
use Rattle.ring.specs.Base.{base_trace, base_norm, discriminant}
use Rattle.ring.specs.Tests.{expanding, square_below, perfect_square, same}
use Rattle.ring.specs.Element.{plus, negative, minus}
use Rattle.ring.specs.Product.{scale, times_omega, product, unit, columns, matrix_of}
use Rattle.ring.specs.Matrix.{dot, times}
use Rattle.ring.specs.Determinant.{trace, alternating, without, determinant}
use Rattle.faults.specs.Check.{judge, ◌then◌, in_turn}
use Rattle.faults.specs.Unless.{unless}
use Rattle.layout_rules.specs.Directory.{size_allowed, expected_start, pair_allowed, directory_check}
use Rattle.layout_rules.specs.Length.{length_allowed, length_check}
use Rattle.layout_rules.specs.Limit.{number_place, number_count, number_allowed, limit_check_in, limit_check_of, limit_check}
use Rattle.ring.specs.Padded.{padded, padded_rows, corner, padded_times, padded_matrix}
use Rattle.layout_rules.specs.Section.{degree_of}
use Rattle.layout_rules.specs.Number.{unsigned_at, to_signed}
use Rattle.digit_rules.specs.Base.{omega_of, beta_of}
use Rattle.digit_rules.specs.BaseMatrix.{base_matrix}
use Rattle.digit_rules.specs.Digits.{discriminant_allowed, base_allowed, base_check, record_allowed, alphabet_check, pair_index, pair_listed, pairs_listed, all_pairs_listed, inputs_allowed, input_check, digit_check, index_in}
use Rattle.digit_rules.specs.Record.{parts_at, element_at}
use Rattle.numeration.specs.LeafOf.{agree, largest, begins, leaf_of, depth}
use Rattle.numeration.specs.Prefix.{lower, precedes}
use Rattle.numeration.specs.Conversion.{window, out_digit, weight_into, weight_at, convert}
use Rattle.numeration.specs.Laws.{convert_row}
use Rattle.numeration.specs.Elements.{elements}
use Rattle.numeration.specs.Pairs.{tail, pair_digit}
use Rattle.numeration.specs.PairTests.{fits, pair_digit_at, pair_string, pair_row, pair_passes, upper_passes, lowest_bad_upper}
use Rattle.numeration.specs.PairCount.{lower_count, pairs_below, pair_count}
use Rattle.prefix_rules.specs.Check.{expected_word_start, leaf_allowed, place_check, word_index_check, order_check, cover_check, zero_check, leaf_check}
use Rattle.prefix_rules.specs.Coverage.{run_end, every_run, covered}
use Rattle.leaf_rules.specs.Given.{word_given, weight_given}
use Rattle.reader_rules.specs.TableFacts.{part_facts, table_facts}
use Rattle.reader_rules.specs.Check.{layout_check, digit_check_of, leaf_check_of, table_check, read_outcome}
use Rattle.table_rules.specs.Check.{pair_check_of, check_facts, check_outcome}
use Rattle.table_rules.specs.Pairs.{in_alphabet, bad_lower, bad_upper, pair_check, bad_pair}
use Rattle.text_rules.specs.Bytes.{bytes_of}
use Rattle.line_rules.specs.Line.{line_of}
use Rattle.line_rules.proofs.Lines.{lines}
use Rattle.carried.specs.Tables.{unsigned16, signed16, joined, record_of, leaf_records, directory, sections, file_of, tern_inputs, tern_weight, tern_leaves, tern_file, bin_inputs, bin_weight2, bin_weight1, bin_leaves_of, bin_leaves, bin_file}

-- depth, leaves, alphabet digits and fitting pairs of TERN and of BIN
pub accepted : (check_outcome tern_file ≡ facts (record { depth = 1; leaves = 9; digits = 5; pairs = 81 })) × (check_outcome bin_file ≡ facts (record { depth = 2; leaves = 13; digits = 3; pairs = 65 }))
unfolding overwrite first_failing every span base_trace base_norm expanding discriminant square_below perfect_square plus negative minus scale times_omega product unit same dot times columns matrix_of padded_rows corner padded_times padded_matrix trace alternating without determinant judge ◌then◌ in_turn unless size_allowed expected_start pair_allowed directory_check length_allowed length_check number_place number_count number_allowed limit_check_in limit_check_of limit_check degree_of unsigned_at to_signed omega_of beta_of base_matrix discriminant_allowed base_allowed base_check record_allowed alphabet_check pair_index pair_listed pairs_listed all_pairs_listed inputs_allowed input_check digit_check padded parts_at element_at index_in agree lower largest begins leaf_of depth precedes window out_digit weight_into weight_at convert convert_row elements tail fits pair_digit_at pair_string pair_row pair_digit pair_passes upper_passes lowest_bad_upper total count lower_count pairs_below pair_count expected_word_start leaf_allowed place_check word_index_check order_check cover_check zero_check leaf_check run_end every_run covered word_given weight_given layout_check digit_check_of leaf_check_of table_check part_facts table_facts read_outcome pair_check_of check_facts check_outcome in_alphabet bad_lower bad_upper pair_check bad_pair unsigned16 signed16 joined record_of leaf_records directory sections file_of tern_inputs tern_weight tern_leaves tern_file bin_inputs bin_weight2 bin_weight1 bin_leaves_of bin_leaves bin_file
accepted = (refl, refl)

-- "For TERN the whole output is: accepted depth 1 leaves 9 digits 5"
pub tern_line : line_of (check_outcome tern_file) ≡ bytes_of "accepted depth 1 leaves 9 digits 5\n"
tern_line = ap line_of accepted.0 ∙ lines.0 81
