-- For helpers' contracts only: what addition, edit, value and check go by on a file that is well formed.
use Rattle.std.specs.Prelude.{◌≡◌, List, ℕ, ◌-◌, ◌<◌, ◌≤◌, length, take, drop}
use Rattle.ring.specs.Padded.{width}
use Rattle.ring.specs.Element.{zeros}
use Rattle.digit_rules.specs.Record.{record_at, element_count}
use Rattle.digit_rules.specs.Digits.{BasePart}
use Rattle.numeration.specs.Laws.{AdditiveGroup, HasParts, InGroup}
use Rattle.numeration.specs.Code.{Agree, Inputs}
use Rattle.numeration.specs.LeafOf.{leaf_of}
use Rattle.numeration.specs.Prefix.{OrderedCode, PrefixCode}
use Rattle.leaf_rules.specs.Leaf.{leaf_count, word_length, weight_of}
use Rattle.leaf_rules.specs.Given.{length_given}
use Rattle.leaf_rules.specs.Window.{digits, LookedUp}
use Rattle.reader_rules.specs.declared.Part.{Part}
use Rattle.reader_rules.specs.Table.{base_part, alphabet_part, input_part, leaf_part, word_part, operations_of, input_count, leaves_in}
use Rattle.reader_rules.specs.TableFacts.{table_facts}

-- where a section lies in the file: its bytes, and its count of records
pub record Lies (file : List ℕ) (fact : Part) (bytes : List ℕ) (count : ℕ) : Type 0 where
  pub in_order : fact.start ≤ fact.end
  pub inside : fact.end ≤ length file
  pub handed_on : take (fact.end - fact.start) (drop fact.start file) ≡ bytes
  pub counts : fact.count ≡ count

pub record Ready (file : List ℕ) : Type 0 where
  -- what the numeration laws ask: a complete prefix code, its words of 1 to 8 input digits each above the previous one, over a
  -- group with an additive map
  pub code : PrefixCode (leaves_in file) (input_count file)
  pub ordered_code : OrderedCode (leaves_in file) 8 (input_count file)
  pub group : AdditiveGroup (operations_of file) (HasParts width)
  pub in_group : InGroup (operations_of file) (HasParts width) (record_at (input_part file)) (leaves_in file)
  -- "Record 0 of sections 1 and 2 is the digit zero", "Leaf 0 has the weight zero"
  pub alphabet_zero : record_at (alphabet_part file) 0 ≡ zeros width
  pub input_zero : record_at (input_part file) 0 ≡ zeros width
  pub weight_zero : weight_of (leaf_part file) 0 ≡ zeros width
  -- "The depth h is the longest word length": some leaf has it and none is longer; it is 1 to 8
  pub deepest : (k : ℕ) × (k < leaf_count (leaf_part file)) × (word_length (leaf_part file) k ≡ (table_facts file).depth)
  pub none_deeper : (k : ℕ) → k < leaf_count (leaf_part file) → word_length (leaf_part file) k ≤ (table_facts file).depth
  pub depth_low : 1 ≤ (table_facts file).depth
  pub depth_high : (table_facts file).depth ≤ 8
  -- where the facts say that the sections lie
  pub base_lies : Lies file (table_facts file).base (base_part file).bytes 2
  pub alphabet_lies : Lies file (table_facts file).alphabet (alphabet_part file).bytes (element_count (alphabet_part file))
  pub input_lies : Lies file (table_facts file).inputs (input_part file).bytes (input_count file)
  pub leaf_lies : Lies file (table_facts file).leaves (leaf_part file).bytes (leaf_count (leaf_part file))
  pub word_lies : Lies file (table_facts file).words (word_part file) (length (word_part file))
  -- "2 to 16 records", "1 to 136 records", "1 to 4,000 records"
  pub alphabet_count : (2 ≤ element_count (alphabet_part file)) × (element_count (alphabet_part file) ≤ 16)
  pub input_count_within : (1 ≤ input_count file) × (input_count file ≤ 136)
  pub leaf_count_within : (1 ≤ leaf_count (leaf_part file)) × (leaf_count (leaf_part file) ≤ 4000)
  -- the base section as its readers ask for it
  pub base : BasePart (base_part file)
  -- the look-up's answer on a window of input indexes is the one leaf of every string that starts so, and its word's length
  pub look_up : (window : List ℕ) (r : ℕ) → Inputs (input_count file) window → LookedUp (leaves_in file) window r → (w : ℕ → ℕ) → Agree (digits window) w 8
      → (r < leaf_count (leaf_part file)) × (r ≡ leaf_of (leaves_in file) w) × (length_given (leaf_part file) r ≡ (leaves_in file).size (leaf_of (leaves_in file) w))
