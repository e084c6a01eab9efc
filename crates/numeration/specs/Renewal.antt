-- For the laws only: lists of changes of single digits, each of which renews only h + 1 places of the digit row.
use Rattle.std.specs.Prelude.{◌≡◌, Bool, true, false, ◌&&◌, List, [], ◌∷◌, ◌++◌, ℕ, suc, ◌+◌, ◌<◌, ◌≤◌, ltb, length, take, drop, set}
use Rattle.lists.specs.Span.{span}
use Rattle.lists.specs.Scan.{every}
use Rattle.numeration.specs.Group.{Operations}
use Rattle.numeration.specs.Code.{Code, Inputs}
use Rattle.numeration.specs.LeafOf.{depth}
use Rattle.numeration.specs.Conversion.{convert}
use Rattle.numeration.specs.Changes.{Changes, store_all}

-- what the list theorem asks of them, for rows of a kind that changes keep: locality and alphabet digits
pub record Local {Rows Change Digit : Type 0} (k : Changes Rows Change Digit) (Valid : Rows → Type 0) : Type 0 where
  pub valid : (e : Change) (r : Rows) → k.taken e ≡ true → Valid r → Valid (k.store e r)
  pub room : (e : Change) → k.taken e ≡ true → k.place e + k.reach < k.places
  pub locality : (e : Change) (r : Rows) → k.taken e ≡ true → Valid r → (j : ℕ) → (k.place e ≤ j → j ≤ k.place e + k.reach → ⊥) → k.digit (k.store e r) j ≡ k.digit r j
  pub digits : (r : Rows) → Valid r → (j : ℕ) → k.alphabet (k.digit r j) ≡ true

module _ {Rows Change Digit : Type 0} (k : Changes Rows Change Digit) where
  -- the whole digit row, as an addition writes it
  unfoldable pub digit_row : Rows → List Digit
  digit_row r = span (k.digit r) 0 k.places

  -- the digits at p to p + h are alphabet digits
  unfoldable pub renewable : Rows → ℕ → Bool
  renewable r p = every (λ j. k.alphabet (k.digit r j)) p (suc k.reach)

  -- the sum with the digits at p to p + h written anew
  unfoldable pub renewed : Rows → ℕ → List Digit → List Digit
  renewed r p sum = take p sum ++ (span (k.digit r) p (suc k.reach) ++ drop (p + suc k.reach) sum)

  -- one change of rows and sum; a change that isn't taken, or would give a digit outside the alphabet, leaves both
  unfoldable pub change : Change → Rows × List Digit → Rows × List Digit
  change e s =
      let r = k.store e s.0 in
      elim (k.taken e) [
        | true ↦ elim (renewable r (k.place e)) [ true ↦ (r, renewed r (k.place e) s.1) | false ↦ s ]
        | false ↦ s
      ]

  unfoldable pub change_all : List Change → Rows × List Digit → Rows × List Digit
  change_all [] s = s
  change_all (e ∷ es) s = change_all es (change e s)

  -- after the changes the rows are those with the taken digits stored in turn, the sum is their whole digit row, and what stands
  -- behind it is as it was
  abbrev pub SumFollows : List Change → Rows → List Digit → Type 0
  SumFollows es r rest = change_all es (r, digit_row r ++ rest) ≡ (store_all k es r, digit_row (store_all k es r) ++ rest)

module _ {A : Type 0} (o : Operations A) (input : ℕ → A) (c : Code A) (alphabet : A → Bool) (n m : ℕ) where
  -- conversion of a row of n of the m input digits, with changes (place, input index)
  unfoldable pub row_changes : Changes (List ℕ) (ℕ × ℕ) A
  row_changes =
      record {
        reach = depth c;
        places = n + depth c;
        digit = convert o input c;
        alphabet = alphabet;
        place = λ e. e.0;
        taken = λ e. ltb e.0 n && ltb e.1 m;
        store = λ e row. set row e.0 e.1;
      }

-- a row of n of the m input digits
abbrev pub InputRow : ℕ → ℕ → List ℕ → Type 0
InputRow n m row = (length row ≡ n) × Inputs m row
