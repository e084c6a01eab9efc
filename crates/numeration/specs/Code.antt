-- Words, leaves and windows. A digit here is an input index; a string is a function from places, its first digit at place 0.
use Rattle.std.specs.Prelude.{◌≡◌, List, ℕ, ◌<◌, min, length, get_or}

-- "Leaves": how many, each one's word (its length, its digits) and its weight
pub record Code (A : Type 0) : Type 0 where
  pub leaves : ℕ
  pub size : ℕ → ℕ
  pub digit : ℕ → ℕ → ℕ
  pub weight : ℕ → A

-- two strings agree at the first n places
abbrev pub Agree : (ℕ → ℕ) → (ℕ → ℕ) → ℕ → Type 0
Agree v w n = (i : ℕ) → i < n → v i ≡ w i

-- of the first n places, at the first where two strings differ, the second has the higher digit
abbrev pub Lower : (ℕ → ℕ) → (ℕ → ℕ) → ℕ → Type 0
Lower v w n = (i : ℕ) × (i < n) × Agree v w i × (v i < w i)

-- every digit of a row is one of m input indexes
abbrev pub Inputs : ℕ → List ℕ → Type 0
Inputs m row = (i : ℕ) → i < length row → get_or row i 0 < m

module _ {A : Type 0} (c : Code A) where
  -- "begins": the leaf's word is the start of the string
  abbrev pub Begins : ℕ → (ℕ → ℕ) → Type 0
  Begins k w = Agree (c.digit k) w (c.size k)

  -- "in increasing order of index at the first place where neighbours differ", and neither word begins the other
  abbrev pub Precedes : ℕ → ℕ → Type 0
  Precedes k l = Lower (c.digit k) (c.digit l) (min (c.size k) (c.size l))

  -- some leaf begins the string
  abbrev pub HasLeaf : (ℕ → ℕ) → Type 0
  HasLeaf w = (k : ℕ) × (k < c.leaves) × Begins k w
