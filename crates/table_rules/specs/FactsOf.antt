-- The facts of the check in plain words ("Who sends a fault" of document 01: "of the check, h, leaf count and alphabet size"; document 02, job 13, adds
-- the number of fitting leaf pairs).
use Rattle.std.specs.Prelude.{◌≡◌, List, ℕ, ◌*◌, ◌<◌, ◌≤◌}
use Rattle.layout_rules.specs.Section.{element_size, leaf_size, section_length, degree_in}
use Rattle.leaf_rules.specs.Leaf.{word_length}
use Rattle.numeration.specs.Pairs.{PairsNumber}
use Rattle.reader_rules.specs.Table.{leaf_part, leaves_in}
use Rattle.table_rules.specs.declared.Facts.{Facts}

pub record FactsOf (file : List ℕ) (f : Facts) : Type 0 where
  -- "The depth h is the longest word length": some leaf's word has it, and none is longer
  pub deepest : (k : ℕ) × (k < f.leaves) × (word_length (leaf_part file) k ≡ f.depth)
  pub none_deeper : (k : ℕ) → k < f.leaves → word_length (leaf_part file) k ≤ f.depth
  -- so many records of a leaf fill section 3, and so many of an element section 1
  pub leaf_records : f.leaves * leaf_size (degree_in file) ≡ section_length file 3
  pub digit_records : f.digits * element_size (degree_in file) ≡ section_length file 1
  pub fitting_pairs : PairsNumber (leaves_in file) f.pairs
