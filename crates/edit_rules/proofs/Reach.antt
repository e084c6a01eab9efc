-- The reach that an edit reports which isn't refused: that of places p − 1 to p + h, −1 left out, of the rows as edited.
use mathlib.Core.Path.{◌≡◌, sym, ap, subst}
use mathlib.Core.List.{List}
use Prim.Native.Nat.{ℕ}
use native.Mathlib.Omega.{arith}
use lib.ListN.{length}
use Rattle.faults.specs.Outcome.{facts, author, rows, editor}
use Rattle.calls.proofs.Answers.{unless_given}
use Rattle.ring.specs.declared.Operation.TheVariants.{Plus}
use Rattle.digit_rules.proofs.Formed.{nothing_asked}
use Rattle.reader_rules.specs.TableFacts.{table_facts}
use Rattle.reader_rules.specs.Check.{table_check}
use Rattle.row_rules.specs.declared.Change.{Change}
use Rattle.row_rules.specs.Changed.{changed}
use Rattle.row_rules.specs.Check.{row_check, edit_check}
use Rattle.row_rules.proofs.Fit.{rows_fit, edit_fits}
use Rattle.adder_rules.specs.Sum.{digit_count}
use Rattle.adder_rules.specs.Reach.{RowReach}
use Rattle.adder_rules.proofs.Accepted.{row_inputs}
use Rattle.adder_rules.proofs.Reach.{row_reach_lem}
use Rattle.edit_rules.specs.declared.EditedFacts.{EditedFacts}
use Rattle.edit_rules.specs.Edit.{edit_outcome}
use Rattle.edit_rules.specs.State.{State, new_inputs, renewed_count}
use Rattle.edit_rules.proofs.Renewed.{new_fit}
use Rattle.edit_rules.proofs.Demand.{demand_1}

pub edit_reach : (file : List ℕ) (e : Change) (s : State) (f : EditedFacts) → edit_outcome file e s ≡ facts f → RowReach file (new_inputs file e s) e.place (renewed_count file) f.reach
unfolding edit_outcome
edit_reach file e s f given =
    let a = unless_given author (table_check file) _ f given in
    let b = unless_given rows (row_check s.first s.second (length s.sum) (digit_count file) (table_facts file).depth) _ f a.1 in
    let d = unless_given editor (edit_check e.row e.place e.digit (length s.first) (digit_count file)) _ f b.1 in
    let fit = new_fit file e s a.0 (rows_fit _ _ _ _ _ b.0) (edit_fits _ _ _ _ _ d.0) in
    subst (RowReach file (new_inputs file e s) e.place (renewed_count file)) (sym (ap (λ (x : EditedFacts). x.reach) ((demand_1 file e s).only_facts f given)))
    (row_reach_lem file (new_inputs file e s) a.0 (row_inputs Plus file (changed e 0 s.first) (changed e 1 s.second) (length s.sum) a.0 (nothing_asked _ _) fit) e.place (renewed_count file) (omega arith))
