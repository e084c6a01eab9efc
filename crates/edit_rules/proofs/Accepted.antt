-- With a table that the check accepts the edit never says 27, and with none 42; and what demand 3's statement says of the bytes behind the sum row and of
-- the whole list.
use mathlib.Core.Path.{◌≡◌, subst}
use mathlib.Core.List.{List}
use mathlib.Core.Logic.{inl, inr}
use Prim.Native.Nat.{ℕ, ◌≤◌}
use native.Mathlib.Omega.{arith}
use lib.ListN.{length, drop}
use lib.Seq.{take_all}
use Rattle.lists.proofs.Entries.{rest_same}
use Rattle.faults.specs.Outcome.{Group, facts, refused}
use Rattle.faults.specs.Rule.{Rule, AllKept}
use Rattle.faults.proofs.Numbers.{number_of}
use Rattle.calls.specs.Answers.{FirstFault}
use Rattle.calls.proofs.Numbers.{fault_number}
use Rattle.numeration.specs.Code.{Inputs}
use Rattle.ring.specs.declared.Operation.TheVariants.{Plus}
use Rattle.digit_rules.proofs.Formed.{nothing_asked}
use Rattle.reader_rules.specs.Table.{input_count}
use Rattle.reader_rules.specs.TableFacts.{table_facts}
use Rattle.reader_rules.specs.Broken.{table_rules}
use Rattle.reader_rules.proofs.Kept.{no_number}
use Rattle.row_rules.specs.declared.Change.{Change}
use Rattle.row_rules.specs.Changed.{changed}
use Rattle.row_rules.specs.Broken.{row_rules, edit_rules}
use Rattle.row_rules.specs.Fit.{EditFits}
use Rattle.row_rules.specs.Rows.{RowsFit}
use Rattle.row_rules.proofs.Fit.{rows_fit, edit_fits}
use Rattle.row_rules.proofs.Broken.{rows_exact, edit_exact}
use Rattle.table_rules.specs.Check.{check_facts, check_outcome}
use Rattle.table_rules.proofs.Demand.{demand_2}
use Rattle.adder_rules.specs.Sum.{digit_count, place_count}
use Rattle.adder_rules.proofs.Accepted.{row_inputs, accepted_passes}
use Rattle.edit_rules.specs.Edit.{edit_outcome}
use Rattle.edit_rules.specs.State.{new_inputs, State}
use Rattle.edit_rules.specs.Broken.{edit_stages}
use Rattle.edit_rules.specs.Run.{run}
use Rattle.edit_rules.specs.Follows.{Follows, ListFollows}
use Rattle.edit_rules.proofs.Renewed.{new_fit}
use Rattle.edit_rules.proofs.Demand.{demand_1}

-- For every rows, sum and edit, also where 20 to 26 refuse it.
pub never_27 : (file : List ℕ) → check_outcome file ≡ facts (check_facts file) → (e : Change) (s : State) (g : Group) (p : ℕ) → edit_outcome file e s ≡ refused g 27 p → ⊥
never_27 file accepted e s g p is = go (((demand_1 file e s).first g 27 p (omega arith)).0 is)
  where
    rows : List Rule
    rows = row_rules s.first s.second (length s.sum) (digit_count file) (table_facts file).depth

    asked : List Rule
    asked = edit_rules e.row e.place e.digit (length s.first) (digit_count file)

    fit : AllKept rows → RowsFit s.first s.second (length s.sum) (digit_count file) (table_facts file).depth
    fit kept = rows_fit _ _ _ _ _ (no_number _ ((rows_exact _ _ _ _ _).passed.1 kept))

    edit_fit : AllKept asked → EditFits e.row e.place e.digit (length s.first) (digit_count file)
    edit_fit kept = edit_fits _ _ _ _ _ (no_number _ ((edit_exact _ _ _ _ _).passed.1 kept))

    inputs : AllKept rows → AllKept asked → Inputs (input_count file) (new_inputs file e s)
    inputs r d =
        let passes = accepted_passes file accepted in
        row_inputs Plus file (changed e 0 s.first) (changed e 1 s.second) (length s.sum) passes (nothing_asked _ _) (new_fit file e s passes (fit r) (edit_fit d))

    go : FirstFault (edit_stages file e s) g 27 p → ⊥
    go (inl f) = omega (arith, number_of (λ n. n ≤ 13) (table_rules file) (omega arith) 27 p f.1)
    go (inr (t, inl f)) = omega (arith, number_of (λ n. n ≤ 23) rows (omega arith) 27 p f.1)
    go (inr (t, inr (r, inl f))) = omega (arith, number_of (λ n. n ≤ 26) asked (omega arith) 27 p f.1)
    go (inr (t, inr (r, inr (d, inl (o, inl b))))) = b.1.broken.2 (((demand_2 file).0 accepted).1 (new_inputs file e s) (inputs r d) p)
    go (inr (t, inr (r, inr (d, inl (o, inr b))))) = b.1
    go (inr (t, inr (r, inr (d, inr f)))) = f.1

-- "never in addition or the edit"
pub never_42 : (file : List ℕ) (e : Change) (s : State) (g : Group) (p : ℕ) → edit_outcome file e s ≡ refused g 42 p → ⊥
never_42 file e s g p is =
    omega (arith, fault_number (λ n. n ≤ 27) (edit_stages file e s) (omega arith) g 42 p (((demand_1 file e s).first g 42 p (omega arith)).0 is))

-- the bytes behind the sum row are the buffer's own, as one part
pub rest_kept : (file : List ℕ) (s : State) (es : List Change) (now : State) → Follows file s es now → drop (place_count file s.first) now.sum ≡ drop (place_count file s.first) s.sum
rest_kept file s es now is = rest_same now.sum s.sum (place_count file s.first) is.long is.further

-- every prefix, the whole list among them
pub whole_list : (file : List ℕ) (s : State) (es : List Change) → ListFollows file s es → Follows file s es (run file s es).buffers
whole_list file s es is = subst (λ (all : List Change). Follows file s all (run file s all).buffers) (take_all (length es) es (omega arith)) (is.after (length es) (omega arith))
