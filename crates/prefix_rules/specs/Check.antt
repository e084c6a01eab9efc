-- Pinned by leaves_exact (proofs/Broken.antt): a reader may skip this file. Rules 9 to 13 of document 01 as a check: the leaves as a complete prefix code over m input digits, leaf 0 with the weight zero.
use Rattle.std.specs.Prelude.{List, Bool, ◌&&◌, ◌||◌, ℕ, zero, suc, ◌+◌, ◌-◌, length, get_or, ltb, leb, eqb}
use Rattle.ring.specs.Padded.{width}
use Rattle.faults.specs.declared.Refusal.{Refusal}
use Rattle.faults.specs.Check.{judge, ◌then◌}
use Rattle.ring.specs.Element.{zeros}
use Rattle.ring.specs.Tests.{same}
use Rattle.layout_rules.specs.Section.{Section}
use Rattle.numeration.specs.Prefix.{precedes}
use Rattle.leaf_rules.specs.Leaf.{leaf_count, word_start, word_length, word_end, weight_of, code_of}
use Rattle.prefix_rules.specs.Coverage.{covered}

-- where the word of leaf k must start: at 0, or where the one before ends
unfoldable pub expected_word_start : Section → ℕ → ℕ
expected_word_start leaves zero = 0
expected_word_start leaves (suc k) = word_end leaves k

-- 9: a leaf's length is outside 1 to 8, its offset isn't the previous end, its end passes section 4 of n bytes, or the last leaf
-- doesn't end it
unfoldable pub leaf_allowed : Section → ℕ → ℕ → Bool
leaf_allowed leaves n k =
    (leb 1 (word_length leaves k) && leb (word_length leaves k) 8)
    && (eqb (word_start leaves k) (expected_word_start leaves k)
    && (leb (word_end leaves k) n && (ltb (k + 1) (leaf_count leaves) || eqb (word_end leaves k) n)))

unfoldable pub place_check : Section → List ℕ → Refusal
place_check leaves words = judge 9 (λ k. k) (leaf_allowed leaves (length words)) (leaf_count leaves)

-- 10: a word byte is no input index
abbrev pub word_index_allowed : List ℕ → ℕ → ℕ → Bool
word_index_allowed words m i = ltb (get_or words i 0) m

unfoldable pub word_index_check : List ℕ → ℕ → Refusal
word_index_check words m = judge 10 (λ i. i) (word_index_allowed words m) (length words)

-- 11: a leaf's word isn't above the previous one, or one of the two begins the other
abbrev pub order_allowed : Section → List ℕ → ℕ → Bool
order_allowed leaves words k = precedes (code_of leaves words) k (k + 1)

unfoldable pub order_check : Section → List ℕ → Refusal
order_check leaves words = judge 11 (λ k. k + 1) (order_allowed leaves words) (leaf_count leaves - 1)

-- 12: some string of eight has no leaf
unfoldable pub cover_check : Section → List ℕ → ℕ → Refusal
cover_check leaves words m = judge 12 (λ k. k) (λ _. covered (code_of leaves words) m 8 0 0 (leaf_count leaves)) 1

-- 13: leaf 0 has a weight other than zero
unfoldable pub zero_check : Section → Refusal
zero_check leaves = judge 13 (λ k. k) (λ _. same (weight_of leaves 0) (zeros width)) 1

-- of sections 3 and 4 and the count of input digits
unfoldable pub leaf_check : Section → List ℕ → ℕ → Refusal
leaf_check leaves words m =
    place_check leaves words
    then word_index_check words m
    then order_check leaves words
    then cover_check leaves words m
    then zero_check leaves
