-- What is shown of a table, in plain words (document 02, job 5).
use Rattle.std.specs.Prelude.{◌≡◌, List, ℕ, suc, ◌<◌, max, pred, length, get_or}
use Rattle.digit_rules.specs.Broken.{Listed}
use Rattle.digit_rules.specs.Record.{record_at}
use Rattle.numeration.specs.Code.{Begins}
use Rattle.numeration.specs.Pairs.{FittingPair, pair_digit}
use Rattle.reader_rules.specs.Table.{alphabet_part, input_part, operations_of, leaves_in}
use Rattle.bad_row_rules.specs.Shows.{RowFacts}

module _ (table : List ℕ) where
  -- two leaves that fit and give no alphabet digit
  abbrev pub FailingPair : ℕ → ℕ → Type 0
  FailingPair u l =
      FittingPair (leaves_in table) (u, l)
      × ¬ (Listed (alphabet_part table) (pair_digit (operations_of table) (record_at (input_part table)) (leaves_in table) u l))

  -- the facts, and the string that was written
  pub record RowOf (f : RowFacts) (string : List ℕ) : Type 0 where
    -- U is the lowest upper leaf that fails, L "the lowest fitting L that fails with it"
    pub fails : FailingPair f.upper f.lower
    pub lowest_upper : (u l : ℕ) → u < f.upper → ¬ (FailingPair u l)
    pub lowest_lower : (l : ℕ) → l < f.lower → ¬ (FailingPair f.upper l)
    pub digit_is : f.digit ≡ pair_digit (operations_of table) (record_at (input_part table)) (leaves_in table) f.upper f.lower
    -- "U's first digit followed by the longer of U's tail and L's word": U's word begins it, L's word begins it behind the first digit, and
    -- it ends with the longer of the two
    pub bytes_are : f.bytes ≡ length string
    pub upper_begins : Begins (leaves_in table) f.upper (λ i. get_or string i 0)
    pub lower_begins : Begins (leaves_in table) f.lower (λ i. get_or string (suc i) 0)
    pub ends_with : length string ≡ suc (max (pred ((leaves_in table).size f.upper)) ((leaves_in table).size f.lower))
