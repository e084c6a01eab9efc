-- "Two hands on one sum" (document 02, job 10): two edits in either order, and a list of edits in another order.
use Rattle.std.specs.Prelude.{◌≡◌, Bool, true, false, ◌&&◌, List, [], ◌∷◌, ◌⊎◌, ℕ, ◌+◌, ◌≤◌, length, eqb}
use Rattle.faults.specs.Outcome.{Outcome, facts}
use Rattle.ring.specs.declared.Operation.TheVariants.{Plus}
use Rattle.reader_rules.specs.TableFacts.{table_facts}
use Rattle.row_rules.specs.declared.Change.{Change}
use Rattle.row_rules.specs.Fit.{EditFits}
use Rattle.adder_rules.specs.Sum.{digit_count, result_facts}
use Rattle.adder_rules.specs.Calls.{add_outcome, add_sum}
use Rattle.edit_rules.specs.declared.EditedFacts.{EditedFacts}
use Rattle.edit_rules.specs.State.{State}
use Rattle.edit_rules.specs.Edit.{edit_outcome, edit_state}

-- "edits of different cells (row number and place)"
abbrev pub Different : Change → Change → Type 0
Different e f = e.row ≡ f.row → e.place ≡ f.place → ⊥

-- the places are at least d apart
abbrev pub Apart : ℕ → Change → Change → Type 0
Apart d e f = (e.place + d ≤ f.place) ⊎ (f.place + d ≤ e.place)

module _ (file : List ℕ) (s : State) where
  -- rows and a sum buffer that pass 20 to 23: an addition of them isn't refused
  abbrev pub Addable : Type 0
  Addable = add_outcome file s.first s.second (length s.sum) ≡ facts (result_facts Plus file s.first s.second)

  -- "from a right sum": what that addition writes
  abbrev pub RightSum : Type 0
  RightSum = s.sum ≡ add_sum file s.first s.second s.sum

  -- an "accepted" edit: 24 to 26 don't refuse it
  abbrev pub Taken : Change → Type 0
  Taken e = EditFits e.row e.place e.digit (length s.first) (digit_count file)

-- two edits, one after the other: the answers, and the buffers after both
pub record InTurn : Type 0 where
  pub first : Outcome EditedFacts
  pub second : Outcome EditedFacts
  pub buffers : State

abbrev pub in_turn : List ℕ → Change → Change → State → InTurn
in_turn file e f s =
    record { first = edit_outcome file e s; second = edit_outcome file f (edit_state file e s); buffers = edit_state file f (edit_state file e s) }

-- two answers aren't refusals, and one of their facts is the same
abbrev pub Same : (EditedFacts → ℕ) → Outcome EditedFacts → Outcome EditedFacts → Type 0
Same fact o p = (a b : EditedFacts) × (o ≡ facts a) × (p ≡ facts b) × (fact a ≡ fact b)

-- what is promised of e and then f, and of f and then e, from the same rows and sum
pub record Agree (file : List ℕ) (s : State) (e f : Change) (forth back : InTurn) : Type 0 where
  -- "either order must leave the same three rows"; the sum needn't be right, nor the edits be taken
  pub rows : Different e f → forth.buffers ≡ back.buffers
  -- "each edit must also report the same count in either order": asked for places more than h apart, and true for h
  pub counts : RightSum file s → Taken file s e → Taken file s f → Apart (table_facts file).depth e f
      → Same (λ x. x.count) forth.first back.second × Same (λ x. x.count) back.first forth.second
  -- the upper one reports the same reach too; the sum needn't be right
  pub reach : Taken file s e → Taken file s f
      → (f.place + (table_facts file).depth ≤ e.place → Same (λ x. x.reach) forth.first back.second)
      × (e.place + (table_facts file).depth ≤ f.place → Same (λ x. x.reach) back.first forth.second)
  -- more than h apart both get the same answer, count and reach; neither is asked there
  pub answers : Apart ((table_facts file).depth + 1) e f → (forth.first ≡ back.second) × (back.first ≡ forth.second)

-- the edits of a list that name one cell, in their order
module _ (row place : ℕ) where
  abbrev pub names : Change → Bool
  names e = eqb e.row row && eqb e.place place

  unfoldable pub edits_of : List Change → List Change
  edits_of [] = []
  edits_of (e ∷ es) = elim (names e) [ true ↦ e ∷ edits_of es | false ↦ edits_of es ]

-- a list in another order, that of the edits of one cell being kept: each cell has the same edits, in the same order
abbrev pub Reordered : List Change → List Change → Type 0
Reordered es fs = (row place : ℕ) → edits_of row place es ≡ edits_of row place fs
