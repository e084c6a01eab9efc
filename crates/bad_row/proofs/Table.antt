-- The digit and the string of two leaves, from their words and weights as they are handed out.
use mathlib.Core.Path.{◌≡◌, sym}
use mathlib.Core.List.{List}
use Prim.Native.Nat.{ℕ, ◌<◌, ◌≤◌}
use native.Mathlib.Omega.{arith}
use lib.ListN.{length, get_or}
use Rattle.digit_rules.specs.Record.{record_at}
use Rattle.leaf_rules.specs.Leaf.{leaf_count, word_length}
use Rattle.leaf_rules.specs.Given.{word_given, weight_given}
use Rattle.leaf_rules.proofs.Leaf.{word_length_lem, weight_there}
use Rattle.numeration.specs.Conversion.{out_digit}
use Rattle.numeration.specs.Pairs.{Fits, pair_digit}
use Rattle.prefix_rules.specs.Formed.{LeavesFormed}
use Rattle.reader_rules.specs.Table.{input_part, leaf_part, word_part, operations_of, input_count, leaves_in}
use Rattle.reader_rules.specs.Check.{table_check}
use Rattle.reader_rules.proofs.Kept.{sections}
use Rattle.reader_rules.proofs.Formed.{well_formed}
use Rattle.table_rules.specs.declared.Pair.{Pair}
use Rattle.table_rules.proofs.Fitting.{reads, first_input}
use Rattle.bad_row_rules.specs.BadRow.{string_of}
use Rattle.bad_row.specs.Words.{word_string}
use Rattle.bad_row.proofs.Words.{string_is}

module _ (table : List ℕ) (passes : (table_check table).number ≡ 0) where
  formed : LeavesFormed (leaf_part table) (word_part table) (input_count table)
  formed = ((well_formed table).1 passes).leaves

  some : 0 < input_count table
  some = (sections table passes).some_input

  pub first_there : (u : ℕ) → u < leaf_count (leaf_part table) → get_or (word_given (leaf_part table) (word_part table) u) 0 0 < input_count table
  first_there u there = first_input (leaf_part table) (word_part table) (input_count table) some formed u there

  pub digit_is : (u l : ℕ) → u < leaf_count (leaf_part table) → l < leaf_count (leaf_part table)
      → out_digit (operations_of table) (record_at (input_part table) (get_or (word_given (leaf_part table) (word_part table) u) 0 0)) (weight_given (leaf_part table) l) (weight_given (leaf_part table) u) ≡ pair_digit (operations_of table) (record_at (input_part table)) (leaves_in table) u l
  unfolding pair_digit
  digit_is u l upper lower =
      rw (reads (leaf_part table) (word_part table) (input_count table) some formed u 0 upper (formed.some u upper), sym (weight_there (leaf_part table) l lower), sym (weight_there (leaf_part table) u upper))

  -- a word has 1 to 8 digits
  long : (k : ℕ) → k < leaf_count (leaf_part table) → length (word_given (leaf_part table) (word_part table) k) ≡ word_length (leaf_part table) k
  long k there = word_length_lem (leaf_part table) (word_part table) k there (formed.inside k there)

  pub word_long : (k : ℕ) → k < leaf_count (leaf_part table) → (0 < length (word_given (leaf_part table) (word_part table) k)) × (length (word_given (leaf_part table) (word_part table) k) ≤ 8)
  word_long k there = (omega (arith, long k there, formed.some k there), omega (arith, long k there, formed.short k there))

  pub string_given : (p : Pair) → p.upper < leaf_count (leaf_part table) → p.lower < leaf_count (leaf_part table) → Fits (leaves_in table) p.upper p.lower
      → word_string (word_given (leaf_part table) (word_part table) p.upper) (word_given (leaf_part table) (word_part table) p.lower) ≡ string_of table p
  string_given p upper lower fit =
      string_is (leaves_in table) p.upper p.lower fit _ _ (formed.some p.upper upper) (long p.upper upper) (long p.lower lower) (λ i. read p.upper i upper) (λ i. read p.lower i lower)
    where
      read : (k i : ℕ) → k < leaf_count (leaf_part table) → i < word_length (leaf_part table) k → get_or (word_given (leaf_part table) (word_part table) k) i 0 ≡ (leaves_in table).digit k i
      read = reads (leaf_part table) (word_part table) (input_count table) some formed
