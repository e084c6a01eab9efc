-- For the laws only: changes of single digits of rows, and the rows with the changes that are taken stored in turn. Rows, changes and digits are any types.
use Rattle.std.specs.Prelude.{Bool, true, false, List, [], ◌∷◌, ℕ}

-- rows with their digits z(j), and changes of single digits of rows
pub record Changes (Rows Change Digit : Type 0) : Type 0 where
  -- h, and the n + h places of the digit row
  pub reach : ℕ
  pub places : ℕ
  pub digit : Rows → ℕ → Digit
  pub alphabet : Digit → Bool
  -- the place of a change, whether it is taken, and the rows with its digit stored
  pub place : Change → ℕ
  pub taken : Change → Bool
  pub store : Change → Rows → Rows

module _ {Rows Change Digit : Type 0} (k : Changes Rows Change Digit) where
  -- the rows with the taken digits stored in turn
  unfoldable pub store_taken : Change → Rows → Rows
  store_taken e r = elim (k.taken e) [ true ↦ k.store e r | false ↦ r ]

  unfoldable pub store_all : List Change → Rows → Rows
  store_all [] r = r
  store_all (e ∷ es) r = store_all es (store_taken e r)
