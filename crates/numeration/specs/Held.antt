-- A string of input digits held in a row (document 02, job 5), and what the two look-ups of a place find there.
use Rattle.std.specs.Prelude.{◌≡◌, List, ℕ, suc, ◌<◌, length, get_or}
use Rattle.numeration.specs.Code.{Code}
use Rattle.numeration.specs.Conversion.{window, leaf_into}

-- the row holds the string s, top digit first, from place j down
abbrev pub Holds : List ℕ → ℕ → List ℕ → Type 0
Holds row j s = (i : ℕ) → i < length s → window row (suc j) i ≡ get_or s i 0

-- the look-up at place j finds leaf u, that one place below it leaf l
abbrev pub Finds : {A : Type 0} → Code A → ℕ → ℕ → List ℕ → ℕ → Type 0
Finds c u l row j = (leaf_into c row (suc j) ≡ u) × (leaf_into c row j ≡ l)
