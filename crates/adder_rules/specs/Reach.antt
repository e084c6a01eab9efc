-- What the reach of some places says of a row of input digits (document 02, job 7).
use Rattle.std.specs.Prelude.{◌≡◌, List, ℕ, ◌+◌, ◌<◌, ◌≤◌, get_or}
use Rattle.numeration.specs.Reach.{Reach}
use Rattle.reader_rules.specs.Table.{leaves_in}
use Rattle.reader_rules.specs.TableFacts.{table_facts}
use Rattle.adder_rules.specs.Sum.{row_digit}

-- what a reach r of `count` places from p on says of a row of input digits
pub record RowReach (file row : List ℕ) (p count r : ℕ) : Type 0 where
  -- some word looked up at places p − 1 to p + count − 1, −1 left out, is so long, and none is longer
  pub longest : Reach (leaves_in file) row p count r
  -- it is 1 to h
  pub least : 1 ≤ r
  pub most : r ≤ (table_facts file).depth
  -- digits further below had no part in any digit at these places: it is the same for every row that agrees from j − r on
  pub beyond : (other : List ℕ) (j : ℕ) → p ≤ j → j < p + count → ((i : ℕ) → i ≤ j → j ≤ i + r → get_or row i 0 ≡ get_or other i 0) → row_digit file row j ≡ row_digit file other j
  -- a row of zeros has the length of leaf 0's word
  pub zeros : ((i : ℕ) → get_or row i 0 ≡ 0) → r ≡ (leaves_in file).size 0
