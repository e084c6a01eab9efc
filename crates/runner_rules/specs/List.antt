-- Pinned by asked_at (proofs/Asked.antt): a reader may skip this file. The list of edits that three slices of numbers give.
use Rattle.std.specs.Prelude.{List, ℕ, get_or}
use Rattle.lists.specs.Span.{span}
use Rattle.row_rules.specs.declared.Change.{Change}

-- the edits that three slices list: "a row number (0 first, 1 second), a place p and a new alphabet index"
module _ (rows places digits : List ℕ) where
  abbrev pub listed : ℕ → Change
  listed k = record { row = get_or rows k 0; place = get_or places k 0; digit = get_or digits k 0 }

  -- the first m of them
  unfoldable pub edit_list : ℕ → List Change
  edit_list m = span listed 0 m
