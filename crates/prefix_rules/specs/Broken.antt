-- What it means that a rule of 9 to 13 is broken at a place, in the paper's words.
use Rattle.std.specs.Prelude.{◌≡◌, List, [], ◌∷◌, ◌⊎◌, ℕ, zero, suc, ◌+◌, ◌<◌, length, get_or}
use Rattle.ring.specs.Padded.{width}
use Rattle.faults.specs.Rule.{Rule, rule}
use Rattle.ring.specs.Element.{zeros}
use Rattle.layout_rules.specs.Section.{Section}
use Rattle.numeration.specs.Code.{Inputs, Precedes, HasLeaf}
use Rattle.leaf_rules.specs.Leaf.{leaf_count, word_start, word_length, word_end, weight_of, code_of}

-- its offset is the previous end, 0 for the first
abbrev pub WordFollows : Section → ℕ → Type 0
WordFollows leaves zero = word_start leaves 0 ≡ 0
WordFollows leaves (suc k) = word_start leaves (suc k) ≡ word_end leaves k

-- 9: a leaf's length is outside 1 to 8, its offset isn't the previous end (0 for the first), its end passes section 4, or the last
-- leaf doesn't end it (leaf)
abbrev pub Broken9 : Section → List ℕ → ℕ → Type 0
Broken9 leaves words p =
    (p < leaf_count leaves)
    × (((word_length leaves p < 1) ⊎ (8 < word_length leaves p))
    ⊎ ¬ (WordFollows leaves p)
    ⊎ (length words < word_end leaves p)
    ⊎ ((p + 1 ≡ leaf_count leaves) × ¬ (word_end leaves p ≡ length words)))

-- 10: a word byte is no input index (its place in section 4)
abbrev pub Broken10 : List ℕ → ℕ → ℕ → Type 0
Broken10 words m p = (p < length words) × ¬ (get_or words p 0 < m)

-- 11: a leaf's word isn't above the previous one, or one of the two begins the other (later leaf)
abbrev pub Broken11 : Section → List ℕ → ℕ → Type 0
Broken11 leaves words p = (k : ℕ) × (p ≡ suc k) × (suc k < leaf_count leaves) × ¬ (Precedes (code_of leaves words) k (suc k))

-- 12: some string of eight has no leaf
abbrev pub Broken12 : Section → List ℕ → ℕ → ℕ → Type 0
Broken12 leaves words m p = (p ≡ 0) × ((s : List ℕ) × (length s ≡ 8) × Inputs m s × ¬ (HasLeaf (code_of leaves words) (λ i. get_or s i 0)))

-- 13: leaf 0 has a weight other than zero
abbrev pub Broken13 : Section → ℕ → Type 0
Broken13 leaves p = (p ≡ 0) × ¬ (weight_of leaves 0 ≡ zeros width)

-- in the order in which they run
abbrev pub leaf_rules : Section → List ℕ → ℕ → List Rule
leaf_rules leaves words m =
    rule 9 (Broken9 leaves words)
    ∷ rule 10 (Broken10 words m)
    ∷ rule 11 (Broken11 leaves words)
    ∷ rule 12 (Broken12 leaves words m)
    ∷ rule 13 (Broken13 leaves)
    ∷ []
