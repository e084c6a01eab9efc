-- What it means that rule 28 of document 01 is broken at a place, with no test and no search.
use Rattle.std.specs.Prelude.{List, [], ◌∷◌, map, ℕ, ◌<◌, length, drop, ℤ, nat_abs}
use Rattle.ring.specs.Degree.{part_count}
use Rattle.ring.specs.Element.{part}
use Rattle.numeration.specs.Value.{top_down}
use Rattle.numeration.specs.Elements.{elements}
use Rattle.faults.specs.Rule.{Rule, rule}
use Rattle.layout_rules.specs.Section.{Section}
use Rattle.digit_rules.specs.Record.{record_at}

-- the digits of a row
abbrev pub digits_of : Section → List ℕ → List (List ℤ)
digits_of alphabet row = map (record_at alphabet) row

-- the total from the top place down to p: zero, then base times total plus digit
abbrev pub total_at : List (List ℤ) → Section → List ℕ → ℕ → List ℤ
total_at base alphabet row p = top_down (elements (part_count alphabet.degree) base) (drop p (digits_of alphabet row))

-- with the digit at p the total has a part outside ±2,147,483,647
abbrev pub OutsideAt : List (List ℤ) → Section → List ℕ → ℕ → Type 0
OutsideAt base alphabet row p = (p < length row) × ((k : ℕ) × (2147483647 < nat_abs (part (total_at base alphabet row p) k)))

-- 28: .. if, starting from zero and from the top place down, base times total plus digit ever has a part outside
-- ±2,147,483,647 (place): the first met is the highest
abbrev pub Broken28 : List (List ℤ) → Section → List ℕ → ℕ → Type 0
Broken28 base alphabet row p = OutsideAt base alphabet row p × ((q : ℕ) → p < q → ¬ (OutsideAt base alphabet row q))

abbrev pub value_rules : List (List ℤ) → Section → List ℕ → List Rule
value_rules base alphabet row = rule 28 (Broken28 base alphabet row) ∷ []
