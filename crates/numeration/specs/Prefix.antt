-- For the laws and helpers' contracts only: the order of words as a test, and what the laws of conversion ask of a code. Pinned by
-- lower_sound, lower_complete and one_leaf (proofs/Agreement.antt, proofs/Laws.antt).
use Rattle.std.specs.Prelude.{◌≡◌, Bool, ◌&&◌, List, ℕ, suc, ◌<◌, ◌≤◌, min, eqb, ltb, length, get_or}
use Rattle.lists.specs.Scan.{first_failing}
use Rattle.numeration.specs.Code.{Code, Agree, Inputs, Begins, Precedes, HasLeaf}

-- of the first n places, at the first where two strings differ, the second has the higher digit: `Lower` as a test
unfoldable pub lower : (ℕ → ℕ) → (ℕ → ℕ) → ℕ → Bool
lower v w n =
    let i = first_failing (λ i. eqb (v i) (w i)) 0 n in
    ltb i n && ltb (v i) (w i)

-- every digit of a string is one of m input indexes
abbrev pub Below : ℕ → (ℕ → ℕ) → Type 0
Below m w = (i : ℕ) → w i < m

module _ {A : Type 0} (c : Code A) where
  -- `Precedes` as a test
  unfoldable pub precedes : ℕ → ℕ → Bool
  precedes k l = lower (c.digit k) (c.digit l) (min (c.size k) (c.size l))

  -- two words agree as far as both reach: one of them begins the other
  abbrev pub Comparable : ℕ → ℕ → Type 0
  Comparable k l = Agree (c.digit k) (c.digit l) (min (c.size k) (c.size l))

  -- "No word begins another"
  abbrev pub Separate : Type 0
  Separate = (k l : ℕ) → k < c.leaves → l < c.leaves → Comparable k l → k ≡ l

  -- complete: every string of m input indexes, read on without end, begins with a leaf
  abbrev pub Complete : ℕ → Type 0
  Complete m = (w : ℕ → ℕ) → Below m w → HasLeaf c w

  -- "Every string of eight input digits begins with a leaf", for any length
  abbrev pub CompleteAt : ℕ → ℕ → Type 0
  CompleteAt n m = (s : List ℕ) → length s ≡ n → Inputs m s → HasLeaf c (λ i. get_or s i 0)

  -- rules 9 to 12 for words of at most n digits over m input digits
  pub record OrderedCode (n m : ℕ) : Type 0 where
    pub some_input : 0 < m
    pub nonempty : (k : ℕ) → k < c.leaves → 0 < c.size k
    pub short : (k : ℕ) → k < c.leaves → c.size k ≤ n
    pub indexes : (k i : ℕ) → k < c.leaves → i < c.size k → c.digit k i < m
    pub ordered : (k : ℕ) → suc k < c.leaves → Precedes c k (suc k)
    pub strings : CompleteAt n m

  -- a complete prefix code over m input digits, whose leaf 0 has a word of zeros
  pub record PrefixCode (m : ℕ) : Type 0 where
    pub some_input : 0 < m
    pub some_leaf : 0 < c.leaves
    pub nonempty : (k : ℕ) → k < c.leaves → 0 < c.size k
    pub indexes : (k i : ℕ) → k < c.leaves → i < c.size k → c.digit k i < m
    pub complete : Complete m
    pub separate : Separate
    pub zeros : Begins c 0 (λ i. 0)
