-- The three numbers of an answer: what they tell, and that no other answer has them.
use mathlib.Core.Path.{◌≡◌, ap}
use mathlib.Core.List.{List}
use Prim.Native.Nat.{ℕ}
use native.Mathlib.Omega.{arith}
use lib.ListN.{get_or, get_or-map}
use Rattle.faults.specs.Outcome.{Outcome, facts, refused}
use Rattle.edit_rules.specs.declared.EditedFacts.{EditedFacts}
use Rattle.edit_rules.specs.Follows.{no_facts}
use Rattle.runner_rules.specs.declared.Told.{Told}
use Rattle.faults.proofs.Outcome.{group_number_lem, some_group}
use Rattle.runner_rules.specs.Told.{told_of, groups_of, numbers_of, values_of}
use Rattle.runner_rules.specs.Follows.{Tells}

-- an answer's numbers: 0, 0 and the count for facts; 1, 2, 3 for author, rows, editor with number and place for a fault
pub tells : (o : Outcome EditedFacts) → Tells o (told_of o).whose (told_of o).number (told_of o).value
tells o = record { count = λ f is. same is; author_fault = λ n p is. same is; rows_fault = λ n p is. same is; editor_fault = λ n p is. same is }
  where
    same : {x : Outcome EditedFacts} → o ≡ x → ((told_of o).whose ≡ (told_of x).whose) × ((told_of o).number ≡ (told_of x).number) × ((told_of o).value ≡ (told_of x).value)
    same is = (λ i. (told_of (is i)).whose, λ i. (told_of (is i)).number, λ i. (told_of (is i)).value)

-- entry k of the three lists of numbers tells answer k
pub tells_at : (answers : List (Outcome EditedFacts)) (k : ℕ) → Tells (get_or answers k (facts no_facts)) (get_or (groups_of answers) k 0) (get_or (numbers_of answers) k 0) (get_or (values_of answers) k 0)
tells_at answers k =
    let d : Outcome EditedFacts = facts no_facts in
    rw (get_or-map (λ o. (told_of o).whose) answers k d, get_or-map (λ o. (told_of o).number) answers k d, get_or-map (λ o. (told_of o).value) answers k d) (tells (get_or answers k d))

-- two answers with the same numbers are the same, but for the reach, which isn't told
abbrev untold : Outcome EditedFacts → ℕ → Outcome EditedFacts
untold (facts f) reach = facts (record { count = f.count; reach = reach })
untold (refused g n p) reach = refused g n p

pub told_apart : (a b : Outcome EditedFacts) → told_of a ≡ told_of b → (reach : ℕ) → untold a reach ≡ untold b reach
told_apart (facts f) (facts k) e = λ reach i. facts (record { count = (e i).value; reach = reach })
told_apart (facts f) (refused g n p) e = absurd (omega (arith, some_group g, ap (λ (t : Told). t.whose) e))
told_apart (refused g n p) (facts f) e = absurd (omega (arith, some_group g, ap (λ (t : Told). t.whose) e))
told_apart (refused g n p) (refused h m q) e = λ reach i. refused (group_number_lem g h (ap (λ (t : Told). t.whose) e) i) (e i).number (e i).value
