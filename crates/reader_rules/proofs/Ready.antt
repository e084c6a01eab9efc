-- The table of the bytes: a well-formed file gives the numeration laws all that they ask.
use mathlib.Core.Path.{◌≡◌, refl, ap, subst}
use mathlib.Core.List.{List}
use Prim.Native.Nat.{ℕ, ◌+◌, ◌-◌, ◌<◌}
use native.Mathlib.Nat.{le_antisymm, div-one}
use native.Mathlib.Omega.{arith}
use lib.ListN.{length, drop, length-take, length-drop}
use Rattle.faults.specs.Outcome.{facts}
use Rattle.ring.specs.Degree.{part_count}
use Rattle.layout_rules.specs.Section.{record_count, degree_in, bytes_of, part_of}
use Rattle.layout_rules.proofs.Passed.{whole_records}
use Rattle.digit_rules.specs.BaseMatrix.{base_matrix}
use Rattle.digit_rules.proofs.Record.{element_parts}
use Rattle.digit_rules.proofs.Passed.{base_ready}
use Rattle.numeration.specs.Elements.{elements}
use Rattle.numeration.proofs.Elements.{elements_group}
use Rattle.prefix_rules.proofs.Formed.{ordered_code, complete_prefix_code, depth_is, look_up_is}
use Rattle.reader_rules.specs.declared.Part.{Part}
use Rattle.reader_rules.specs.Table.{base_part, input_part, leaf_part, word_part, input_count}
use Rattle.reader_rules.specs.TableFacts.{part_facts, table_facts}
use Rattle.reader_rules.specs.Check.{layout_check, table_check, read_outcome}
use Rattle.reader_rules.specs.Formed.{WellFormed}
use Rattle.reader_rules.specs.Ready.{Lies, Ready}
use Rattle.reader_rules.proofs.Kept.{layout_kept, table_kept}
use Rattle.reader_rules.proofs.Broken.{some_input}
use Rattle.reader_rules.proofs.Formed.{well_formed, well_formed_read}

lies : (file : List ℕ) → WellFormed file → (section : ℕ) → section < 5 → Lies file (part_facts file section) (bytes_of file section) (record_count section (part_of file section))
unfolding part_facts
lies file is section l = record { in_order = omega arith; inside = is.inside section l; handed_on = refl; counts = refl }

-- what it means that a section lies in the file: its bytes reach from its start to its end
pub lies_long : (file : List ℕ) (fact : Part) (bytes : List ℕ) (count : ℕ) → Lies file fact bytes count → fact.start + length bytes ≡ fact.end
lies_long file fact bytes count is =
    omega (arith, ap length is.handed_on, length-take (fact.end - fact.start) (drop fact.start file), length-drop fact.start file)

pub ready : (file : List ℕ) → WellFormed file → Ready file
unfolding table_facts elements
ready file is =
    let at = lies file is in
    let kept = layout_kept file layout in
    let base = whole_records file kept.0 kept.1 0 (omega arith) in
    let alphabet = whole_records file kept.0 kept.1 1 (omega arith) in
    let inputs = whole_records file kept.0 kept.1 2 (omega arith) in
    let leaves = whole_records file kept.0 kept.1 3 (omega arith) in
    let deep = depth_is (leaf_part file) (word_part file) (input_count file) some is.leaves in
    record {
      code = complete_prefix_code (leaf_part file) (word_part file) (input_count file) some is.leaves;
      ordered_code = ordered_code (leaf_part file) (word_part file) (input_count file) some is.leaves;
      group = elements_group (part_count (degree_in file)) (base_matrix (base_part file));
      in_group =
          record {
            element_input = λ i. element_parts (input_part file) _;
            element_weight = λ k. element_parts (leaf_part file) _;
            input_zero = is.digits.input_digits.zero_first some;
            weight_zero = is.leaves.zero_first;
          };
      alphabet_zero = is.digits.alphabet_digits.zero_first (omega (arith, alphabet.least));
      input_zero = is.digits.input_digits.zero_first some;
      weight_zero = is.leaves.zero_first;
      deepest = deep.0;
      none_deeper = deep.1;
      depth_low = deep.2;
      depth_high = deep.3;
      base_lies = subst (Lies file (part_facts file 0) (base_part file).bytes) (le_antisymm base.most base.least) (at 0 (omega arith));
      alphabet_lies = at 1 (omega arith);
      input_lies = at 2 (omega arith);
      leaf_lies = at 3 (omega arith);
      word_lies = subst (Lies file (part_facts file 4) (word_part file)) (div-one (length (word_part file))) (at 4 (omega arith));
      alphabet_count = (alphabet.least, alphabet.most);
      input_count_within = (inputs.least, inputs.most);
      leaf_count_within = (leaves.least, leaves.most);
      base = base_ready file kept.0 kept.1 kept.2;
      look_up = look_up_is (leaf_part file) (word_part file) (input_count file) some is.leaves;
    }
  where
    layout : (layout_check file).number ≡ 0
    layout = (table_kept file ((well_formed file).0 is)).0

    some : 0 < input_count file
    some = some_input file layout

-- the same from what the reader found
pub ready_passed : (file : List ℕ) → (table_check file).number ≡ 0 → Ready file
ready_passed file h = ready file ((well_formed file).1 h)

pub ready_read : (file : List ℕ) → read_outcome file ≡ facts (table_facts file) → Ready file
ready_read file e = ready file ((well_formed_read file).1 e)
