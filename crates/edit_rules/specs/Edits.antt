-- For the laws only: edits of two rows as the changes that the law of lists speaks of.
use Rattle.std.specs.Prelude.{List, ℕ, ◌+◌, ltb}
use Rattle.numeration.specs.Changes.{Changes}
use Rattle.reader_rules.specs.TableFacts.{table_facts}
use Rattle.row_rules.specs.declared.Change.{Change}
use Rattle.row_rules.specs.Changed.{changed}
use Rattle.ring.specs.declared.Operation.TheVariants.{Plus}
use Rattle.adder_rules.specs.Input.{input_row, row_index}
use Rattle.adder_rules.specs.Sum.{digit_count}
use Rattle.edit_rules.specs.Follows.{takes}

-- two rows of n digits, their sum digits by index, and edits of them
unfoldable pub row_edits : List ℕ → ℕ → Changes (List ℕ × List ℕ) Change ℕ
row_edits file n =
    record {
      reach = (table_facts file).depth;
      places = n + (table_facts file).depth;
      digit = λ r j. row_index file (input_row Plus file r.0 r.1) j;
      alphabet = λ d. ltb d (digit_count file);
      place = λ e. e.place;
      taken = takes n (digit_count file);
      store = λ e r. (changed e 0 r.0, changed e 1 r.1);
    }
