-- The edits that are asked for: each as the three slices of numbers list it, and as many as the shortest of the six slices has entries.
use mathlib.Core.Path.{◌≡◌, refl, sym, ap, subst, ◌∙◌}
use mathlib.Core.List.{List}
use mathlib.Core.Logic.{◌⊎◌, inl, inr}
use Prim.Native.Nat.{ℕ, min, ◌<◌, ◌≤◌}
use native.Mathlib.Nat.{zero-add, min-le_left, min-le_right, min-eq_left, min-eq_right, le_trans}
use native.Mathlib.Decide.{dec_lt}
use native.Mathlib.Omega.{arith}
use lib.ListN.{length, get_or}
use Rattle.lists.proofs.Span.{get_d_span}
use Rattle.row_rules.specs.declared.Change.{Change}
use Rattle.row_rules.specs.Changed.{no_change}
use Rattle.runner_rules.specs.List.{listed, edit_list}
use Rattle.runner_rules.specs.Run.{edit_count, asked_edits}
use Rattle.runner_rules.proofs.Steps.{length_edits}

-- what holds of two numbers holds of the lower one
of_lower : (P : ℕ → Type 0) (a b : ℕ) → P a → P b → P (min a b)
of_lower P a b x y =
    elim (dec_lt a b) [
      | yes h ↦ let e : min a b ≡ a = min-eq_left (omega arith) in rw e x
      | no h ↦ let e : min a b ≡ b = min-eq_right (omega arith) in rw e y
    ]

module _ (rows places digits whose numbers values : List ℕ) where
  -- one of the six slices has m entries
  abbrev pub Fills : ℕ → Type 0
  Fills m = (m ≡ length rows) ⊎ (m ≡ length places) ⊎ (m ≡ length digits) ⊎ (m ≡ length whose) ⊎ (m ≡ length numbers) ⊎ (m ≡ length values)

  -- the shortest has m entries: none has fewer, and one has just as many
  pub record Shortest (m : ℕ) : Type 0 where
    pub in_rows : m ≤ length rows
    pub in_places : m ≤ length places
    pub in_digits : m ≤ length digits
    pub in_whose : m ≤ length whose
    pub in_numbers : m ≤ length numbers
    pub in_values : m ≤ length values
    pub fills : Fills m

  shortest : Shortest (edit_count rows places digits whose numbers values)
  shortest =
      record {
        in_rows = le_trans (min-le_left _ _) (min-le_left _ _);
        in_places = le_trans (min-le_left _ _) (le_trans (min-le_right _ _) (min-le_left _ _));
        in_digits = le_trans (min-le_left _ _) (le_trans (min-le_right _ _) (min-le_right _ _));
        in_whose = le_trans (min-le_right _ _) (min-le_left _ _);
        in_numbers = le_trans (min-le_right _ _) (le_trans (min-le_right _ _) (min-le_left _ _));
        in_values = le_trans (min-le_right _ _) (le_trans (min-le_right _ _) (min-le_right _ _));
        fills = of_lower Fills _ _ (of_lower Fills _ _ (inl refl) (of_lower Fills _ _ (inr (inl refl)) (inr (inr (inl refl))))) (of_lower Fills _ _ (inr (inr (inr (inl refl)))) (of_lower Fills _ _ (inr (inr (inr (inr (inl refl))))) (inr (inr (inr (inr (inr refl)))))));
      }

  abbrev asked : List Change
  asked = asked_edits rows places digits whose numbers values

  counted : length asked ≡ edit_count rows places digits whose numbers values
  counted = length_edits rows places digits (edit_count rows places digits whose numbers values)

  -- as many edits are asked for as the shortest slice has entries
  pub asked_count : Shortest (length asked)
  asked_count = subst Shortest (sym counted) shortest

  -- edit k has entry k of the three slices as its row number, its place and its digit
  pub asked_at : (k : ℕ) → k < length asked → get_or asked k no_change ≡ record { row = get_or rows k 0; place = get_or places k 0; digit = get_or digits k 0 }
  unfolding edit_list
  asked_at k h =
      get_d_span (listed rows places digits) 0 (edit_count rows places digits whose numbers values) k no_change (omega (arith, counted)) ∙ ap (listed rows places digits) (zero-add k)
