-- Pinned by listed (proofs/Listed.antt; Contents.antt has what it says): a reader may skip this file. TERN and BIN as files, from
-- document 01's words ("Table file", "Carried tables"). Their elements are whole numbers: the second
-- part is zero. The making of a file serves tables of every degree (crate marked has some).
use Rattle.std.specs.Prelude.{cond, ◌||◌, List, [], ◌∷◌, ◌++◌, map, ℕ, ◌+◌, ◌-◌, ◌/◌, ◌%◌, ℤ, pos, negsuc, neg_ℤ, length, get_or}
use Rattle.std.specs.Int.Signed.{lt_z, le_z}
use Rattle.lists.specs.Span.{span}
use Rattle.integers.specs.Test.{eq_z}

-- 16 bits, little-endian; a signed number by the same bits
unfoldable pub unsigned16 : ℕ → List ℕ
unsigned16 n = n % 256 ∷ n / 256 ∷ []

unfoldable pub signed16 : ℤ → List ℕ
signed16 (pos n) = unsigned16 n
signed16 (negsuc n) = unsigned16 (65535 - n)

unfoldable pub joined : List (List ℕ) → List ℕ
joined [] = []
joined (x ∷ xs) = x ++ joined xs

-- a record of an element, its parts lowest power first
unfoldable pub record_of : List ℤ → List ℕ
record_of x = joined (map signed16 x)

-- a leaf: its word of input indexes and its weight
abbrev pub Leaf : Type 0
Leaf = List ℕ × List ℤ

-- offset and length of each word, which follow one another, then the weight
unfoldable pub leaf_records : ℕ → List Leaf → List ℕ
leaf_records at [] = []
leaf_records at (leaf ∷ rest) =
    unsigned16 at ++ (unsigned16 (length leaf.0) ++ (record_of leaf.1 ++ leaf_records (at + length leaf.0) rest))

-- pairs (offset, length), each next offset the end of the pair before
unfoldable pub directory : ℕ → List (List ℕ) → List ℕ
directory at [] = []
directory at (part ∷ parts) = unsigned16 at ++ (unsigned16 (length part) ++ directory (at + length part) parts)

-- the base section's numbers; alphabet, input digits, leaves, words: of any degree
unfoldable pub sections : List ℤ → List (List ℤ) → List (List ℤ) → List Leaf → List (List ℕ)
sections base alphabet inputs leaves =
    record_of base
    ∷ joined (map record_of alphabet)
    ∷ joined (map record_of inputs)
    ∷ leaf_records 0 leaves
    ∷ joined (map (λ leaf. leaf.0) leaves)
    ∷ []

unfoldable pub file_of : List (List ℕ) → List ℕ
file_of parts = directory 20 parts ++ joined parts

-- a whole number as an element of degree two
abbrev pub whole : ℤ → List ℤ
whole a = a ∷ pos 0 ∷ []

-- s = 0, t = −1, u = β, v = 0, and whole numbers for digits
abbrev pub whole_file : ℤ → List ℤ → List ℤ → List Leaf → List ℕ
whole_file base alphabet inputs leaves = file_of (sections (pos 0 ∷ negsuc 0 ∷ whole base) (map whole alphabet) (map whole inputs) leaves)

-- ---- TERN

abbrev minus : ℕ → ℤ
minus n = neg_ℤ (pos n)

unfoldable pub tern_inputs : List ℤ
tern_inputs = pos 0 ∷ pos 1 ∷ pos 2 ∷ pos 3 ∷ pos 4 ∷ minus 1 ∷ minus 2 ∷ minus 3 ∷ minus 4 ∷ []

-- "weight 1 from 2 up, −1 from −2 down, else 0"
unfoldable pub tern_weight : ℤ → ℤ
tern_weight x = cond (le_z (pos 2) x) (pos 1) (cond (le_z x (minus 2)) (minus 1) (pos 0))

-- "one-digit words"
unfoldable pub tern_leaves : List Leaf
tern_leaves = span (λ i. (i ∷ [], whole (tern_weight (get_or tern_inputs i (pos 0))))) 0 9

unfoldable pub tern_file : List ℕ
tern_file = whole_file (pos 3) (pos 0 ∷ pos 1 ∷ pos 2 ∷ minus 1 ∷ minus 2 ∷ []) tern_inputs tern_leaves

-- ---- BIN

unfoldable pub bin_inputs : List ℤ
bin_inputs = pos 0 ∷ pos 1 ∷ pos 2 ∷ minus 1 ∷ minus 2 ∷ []

-- "1 has weight 1 if the digit below is positive, else 0; negatives mirror this"
unfoldable pub bin_weight2 : ℤ → ℤ → ℤ
bin_weight2 x below =
    cond (eq_z x (pos 1)) (cond (lt_z (pos 0) below) (pos 1) (pos 0)) (cond (lt_z below (pos 0)) (minus 1) (pos 0))

-- "2 has weight 1; 0 has weight 0", and −2 mirrors 2
unfoldable pub bin_weight1 : ℤ → ℤ
bin_weight1 x = cond (eq_z x (pos 2)) (pos 1) (cond (eq_z x (minus 2)) (minus 1) (pos 0))

-- "Words after 1 and −1 are two long"
unfoldable pub bin_leaves_of : ℕ → List Leaf
bin_leaves_of i =
    let x = get_or bin_inputs i (pos 0) in
    cond (eq_z x (pos 1) || eq_z x (minus 1)) (span (λ k. (i ∷ k ∷ [], whole (bin_weight2 x (get_or bin_inputs k (pos 0))))) 0 5) ((i ∷ [], whole (bin_weight1 x)) ∷ [])

unfoldable pub bin_leaves : List Leaf
bin_leaves = bin_leaves_of 0 ++ (bin_leaves_of 1 ++ (bin_leaves_of 2 ++ (bin_leaves_of 3 ++ bin_leaves_of 4)))

unfoldable pub bin_file : List ℕ
bin_file = whole_file (pos 2) (pos 0 ∷ pos 1 ∷ minus 1 ∷ []) bin_inputs bin_leaves
