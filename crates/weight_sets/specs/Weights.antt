-- For helpers' contracts only: weights by number, sets of these numbers for neighbouring leaves, and the sets that give alphabet digits.
use Rattle.std.specs.Prelude.{◌≡◌, true, List, ℕ, ◌+◌, ◌<◌, ℤ, get_or}
use Rattle.layout_rules.specs.Section.{Section}
use Rattle.ring.specs.Element.{plus, minus}
use Rattle.ring.specs.Degree.{part_count}
use Rattle.ring.specs.Padded.{padded_times}
use Rattle.digit_rules.specs.Record.{record_at}
use Rattle.leaf_rules.specs.Given.{weight_given}
use Rattle.table_rules.specs.Pairs.{in_alphabet}
use Rattle.weight_sets.specs.Bits.{Has}

-- each of the first n leaves has a number below a count, and the leaf that stands for this number has the same weight
abbrev pub WeightsNumbered : Section → List ℕ → List ℕ → ℕ → ℕ → Type 0
WeightsNumbered leaves numbers first count n = (k : ℕ) → k < n → (get_or numbers k 0 < count) × (weight_given leaves (get_or first (get_or numbers k 0) 0) ≡ weight_given leaves k)

-- the set of a leaf has the weight numbers of the n leaves from this one on, as far as there are leaves
abbrev pub Covers : List ℕ → List ℕ → ℕ → ℕ → Type 0
Covers numbers sets count n = (l k : ℕ) → k < n → l + k < count → Has (get_or sets l 0) (get_or numbers (l + k) 0)

-- the weights in a set give alphabet digits with an upper leaf's part
abbrev pub Good : Section → Section → List ℕ → List ℤ → ℕ → Type 0
Good alphabet leaves first part set = (j : ℕ) → Has set j → in_alphabet alphabet (plus part (weight_given leaves (get_or first j 0))) ≡ true

-- the sets kept for upper weights, each with the first digit that it was made for, plus one
abbrev pub Judged : List (List ℤ) → Section → Section → Section → List ℕ → List ℕ → List ℕ → Type 0
Judged matrix alphabet inputs leaves first made good =
    (i d : ℕ) → get_or made i 0 ≡ d + 1 → Good alphabet leaves first (minus (record_at inputs d) (padded_times (part_count leaves.degree) matrix (weight_given leaves (get_or first i 0)))) (get_or good i 0)
