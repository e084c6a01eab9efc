-- A list of edits in another order that keeps the order of the edits of one cell.
use mathlib.Core.Path.{◌≡◌, refl, sym, ap, ap₂, subst, ◌∙◌}
use mathlib.Core.Bool.{Bool, true, false}
use mathlib.Core.List.{List, [], ◌∷◌, ◌++◌}
use Prim.Native.Nat.{ℕ}
use native.Mathlib.Decide.{dec_lt}
use native.Mathlib.Omega.{arith}
use native.Mathlib.Nat.{suc-ne-zero}
use lib.ListN.{length, get_or}
use lib.Seq.{ext_get_or}
use borrow.Author.Tests.{eq-eqb, eqb-true}
use Rattle.lists.proofs.Test.{both, clash}
use Rattle.faults.specs.Outcome.{facts}
use Rattle.row_rules.specs.declared.Change.{Change}
use Rattle.row_rules.specs.Changed.{no_change}
use Rattle.table_rules.specs.Check.{check_facts, check_outcome}
use Rattle.ring.specs.declared.Operation.TheVariants.{Plus}
use Rattle.adder_rules.specs.declared.AddedFacts.{AddedFacts}
use Rattle.adder_rules.specs.Sum.{place_count, row_reach, result_facts}
use Rattle.adder_rules.specs.Input.{input_row}
use Rattle.adder_rules.specs.Calls.{add_outcome, add_sum}
use Rattle.adder_rules.specs.Combined.{Combined}
use Rattle.adder_rules.proofs.Demand.{demand_1 as adding}
use Rattle.adder_rules.proofs.Combined.{combined}
use Rattle.edit_rules.specs.Edit.{edit_state}
use Rattle.edit_rules.specs.State.{State}
use Rattle.edit_rules.specs.Run.{edit_all, added, run}
use Rattle.edit_rules.specs.Follows.{Follows}
use Rattle.edit_rules.specs.Orders.{Different, Addable, RightSum, names, edits_of, Reordered}
use Rattle.edit_rules.proofs.Accepted.{whole_list}
use Rattle.edit_rules.proofs.Follows.{demand_3}
use Rattle.edit_rules.proofs.Orders.{Fit, addable_fit, kept, exchange}

-- the list's first entry and its rest, where it has them
head_of : List Change → Change
head_of [] = no_change
head_of (e ∷ es) = e

tail_of : List Change → List Change
tail_of [] = []
tail_of (e ∷ es) = es

not_empty : (e : Change) (es : List Change) → e ∷ es ≡ [] → ⊥
not_empty e es q = suc-ne-zero (length es) (ap length q)

module _ (row place : ℕ) where
  of_more : (e : Change) (es : List Change) → names row place e ≡ true → edits_of row place (e ∷ es) ≡ e ∷ edits_of row place es
  unfolding edits_of
  of_more e es t = rw (t, edits_of)

  of_other : (e : Change) (es : List Change) → names row place e ≡ false → edits_of row place (e ∷ es) ≡ edits_of row place es
  unfolding edits_of
  of_other e es t = rw (t, edits_of)

  of_same : (e : Change) (es fs : List Change) → edits_of row place es ≡ edits_of row place fs → edits_of row place (e ∷ es) ≡ edits_of row place (e ∷ fs)
  unfolding edits_of
  of_same e es fs same = ap (λ (x : List Change). elim (names row place e) [ true ↦ e ∷ x | false ↦ x ]) same

  -- a list without its first edit of a cell
  without : List Change → List Change
  without [] = []
  without (e ∷ es) = elim (names row place e) [ true ↦ es | false ↦ e ∷ without es ]

  without_own : (e : Change) (es : List Change) → names row place e ≡ true → without (e ∷ es) ≡ es
  unfolding without
  without_own e es t = rw (t, without)

  without_next : (e : Change) (es : List Change) → names row place e ≡ false → without (e ∷ es) ≡ e ∷ without es
  unfolding without
  without_next e es t = rw (t, without)

  -- of that cell it has the others
  of_without : (es : List Change) → edits_of row place (without es) ≡ tail_of (edits_of row place es)
  unfolding without edits_of tail_of
  of_without [] = refl
  of_without (e ∷ es) = go (names row place e) refl (of_without es)
    where
      go : (b : Bool) → names row place e ≡ b → edits_of row place (without es) ≡ tail_of (edits_of row place es) → edits_of row place (without (e ∷ es)) ≡ tail_of (edits_of row place (e ∷ es))
      go true t rest = ap (edits_of row place) (without_own e es t) ∙ sym (ap tail_of (of_more e es t))
      go false t rest = ap (edits_of row place) (without_next e es t) ∙ of_other e (without es) t ∙ rest ∙ sym (ap tail_of (of_other e es t))

-- an edit names its own cell, and no other
names_own : (e : Change) → names e.row e.place e ≡ true
names_own e = rw (eq-eqb e.row e.row refl, eq-eqb e.place e.place refl)

names_only : (row place : ℕ) (e : Change) → names row place e ≡ true → (e.row ≡ row) × (e.place ≡ place)
names_only row place e t = let (a, b) = both _ _ t in (eqb-true _ _ a, eqb-true _ _ b)

names_other : (row place : ℕ) (e : Change) → names row place e ≡ false → e.row ≡ row → e.place ≡ place → ⊥
names_other row place e t a b = clash (ap₂ (λ (r p : ℕ). names r p e) (sym a) (sym b) ∙ names_own e) t

-- of another cell a list without an edit has all
of_without_other : (row place other far : ℕ) → (row ≡ other → place ≡ far → ⊥) → (es : List Change) → edits_of other far (without row place es) ≡ edits_of other far es
unfolding without
of_without_other row place other far apart [] = refl
of_without_other row place other far apart (e ∷ es) = go (names row place e) refl (names other far e) refl (of_without_other row place other far apart es)
  where
    go : (b : Bool) → names row place e ≡ b → (c : Bool) → names other far e ≡ c → edits_of other far (without row place es) ≡ edits_of other far es → edits_of other far (without row place (e ∷ es)) ≡ edits_of other far (e ∷ es)
    go false t c u rest = ap (edits_of other far) (without_next row place e es t) ∙ of_same other far e _ es rest
    go true t false u rest = ap (edits_of other far) (without_own row place e es t) ∙ sym (of_other other far e es u)
    go true t true u rest =
        let (a, b) = names_only row place e t in
        let (c, d) = names_only other far e u in
        absurd (apart (sym a ∙ c) (sym b ∙ d))

-- Neighbours of different cells may be exchanged.
pub neighbours : (xs : List Change) (e f : Change) (ys : List Change) → Different e f → Reordered (xs ++ (e ∷ f ∷ ys)) (xs ++ (f ∷ e ∷ ys))
neighbours (x ∷ xs) e f ys different row place = of_same row place x _ _ (neighbours xs e f ys different row place)
neighbours [] e f ys different row place = go (names row place e) refl (names row place f) refl
  where
    go : (b : Bool) → names row place e ≡ b → (c : Bool) → names row place f ≡ c → edits_of row place (e ∷ f ∷ ys) ≡ edits_of row place (f ∷ e ∷ ys)
    go true t true u =
        let (a, b) = names_only row place e t in
        let (c, d) = names_only row place f u in
        absurd (different (a ∙ sym c) (b ∙ sym d))
    go false t c u = of_other row place e _ t ∙ of_same row place f ys _ (sym (of_other row place e ys t))
    go true t false u = of_same row place e _ ys (of_other row place f ys u) ∙ sym (of_other row place f _ u)

module _ (file : List ℕ) (accepted : check_outcome file ≡ facts (check_facts file)) where
  -- the first edit of its cell may come before all
  moved : (e : Change) (es fs : List Change) (s : State) → Fit file accepted s → edits_of e.row e.place fs ≡ e ∷ es → edit_all file fs s ≡ edit_all file (without e.row e.place fs) (edit_state file e s)
  unfolding edit_all edits_of head_of
  moved e es [] s fit q = absurd (not_empty e es (sym q))
  moved e es (f ∷ fs) s fit q = go (names e.row e.place f) refl (λ r. moved e es fs (edit_state file f s) (kept file accepted f s fit) r)
    where
      go : (b : Bool) → names e.row e.place f ≡ b → (edits_of e.row e.place fs ≡ e ∷ es → edit_all file fs (edit_state file f s) ≡ edit_all file (without e.row e.place fs) (edit_state file e (edit_state file f s)))
          → edit_all file fs (edit_state file f s) ≡ edit_all file (without e.row e.place (f ∷ fs)) (edit_state file e s)
      go true t rest =
          let same : f ≡ e = ap head_of (sym (of_more _ _ f fs t) ∙ q) in
          ap (λ (x : Change). edit_all file fs (edit_state file x s)) same ∙ sym (ap (λ (x : List Change). edit_all file x (edit_state file e s)) (without_own _ _ f fs t))
      go false t rest =
          rest (sym (of_other _ _ f fs t) ∙ q)
          ∙ ap (edit_all file (without e.row e.place fs)) (sym (exchange file accepted e f s fit (λ a b. names_other _ _ f t (sym a) (sym b))))
          ∙ sym (ap (λ (x : List Change). edit_all file x (edit_state file e s)) (without_next _ _ f fs t))

  any_order_fit : (es fs : List Change) (s : State) → Fit file accepted s → Reordered es fs → edit_all file es s ≡ edit_all file fs s
  unfolding edit_all edits_of
  any_order_fit [] [] s fit same = refl
  any_order_fit [] (f ∷ fs) s fit same = absurd (not_empty f _ (sym (of_more _ _ f fs (names_own f)) ∙ sym (same f.row f.place)))
  any_order_fit (e ∷ es) fs s fit same =
      any_order_fit es (without e.row e.place fs) (edit_state file e s) (kept file accepted e s fit) rest
      ∙ sym (moved e (edits_of e.row e.place es) fs s fit (sym (same _ _) ∙ of_more _ _ e es (names_own e)))
    where
      own : edits_of e.row e.place es ≡ edits_of e.row e.place (without e.row e.place fs)
      own = unfold tail_of in (ap tail_of (sym (of_more _ _ e es (names_own e)) ∙ same _ _) ∙ sym (of_without _ _ fs))

      rest : Reordered es (without e.row e.place fs)
      rest row place = go (names row place e) refl
        where
          go : (b : Bool) → names row place e ≡ b → edits_of row place es ≡ edits_of row place (without e.row e.place fs)
          go false t = sym (of_other row place e es t) ∙ same row place ∙ sym (of_without_other e.row e.place row place (names_other row place e t) fs)
          go true t =
              let (a, b) = names_only row place e t in
              subst (λ (r : ℕ). edits_of r place es ≡ edits_of r place (without e.row e.place fs)) a (subst (λ (p : ℕ). edits_of e.row p es ≡ edits_of e.row p (without e.row e.place fs)) b own)

  -- Job 10 of document 02, for more than two: a list of edits, refused ones included, leaves the same three rows in every order that keeps
  -- that of the edits of one cell. The sum needn't be right.
  pub any_order : (s : State) → Addable file s → (es fs : List Change) → Reordered es fs → edit_all file es s ≡ edit_all file fs s
  any_order s adds es fs same = any_order_fit es fs s (addable_fit file accepted s adds) same

  -- After a fresh addition and any list of edits the rows pass 20 to 23 and the sum is right.
  pub right_after : (s : State) → Addable file s → (es : List Change) → Addable file (run file s es).buffers × RightSum file (run file s es).buffers
  right_after s adds es = (addable, sym (ext_get_or 0 _ _ t.long (λ j _. at j)))
    where
      now : State
      now = (run file s es).buffers

      is : Follows file s es now
      is = whole_list file s es (demand_3 file accepted s _ adds es)

      told : record { places = place_count file s.first; reach = row_reach file (input_row Plus file now.first now.second) 0 (place_count file s.first) } ≡ result_facts Plus file now.first now.second
      told = (adding Plus file now.first now.second (length s.sum)).only_facts _ is.adds

      addable : Addable file now
      addable = ap (add_outcome file now.first now.second) is.long ∙ is.adds ∙ ap facts told

      t : Combined Plus file now.first now.second now.sum
      t = combined Plus file now.first now.second now.sum _ addable

      at : (j : ℕ) → get_or (add_sum file now.first now.second now.sum) j 0 ≡ get_or now.sum j 0
      at j =
          elim (dec_lt j (place_count file now.first)) [
            | yes low ↦ t.index j low ∙ sym (is.index j (omega (arith, ap (λ (f : AddedFacts). f.places) told)))
            | no past ↦ t.further j (omega arith)
          ]

  -- So the list law holds of lists that start from an addition.
  pub run_any_order : (s : State) → Addable file s → (es fs : List Change) → Reordered es fs → (run file s es).buffers ≡ (run file s fs).buffers
  unfolding run edit_all
  run_any_order s adds es fs same = any_order (added file s) (right_after s adds []).0 es fs same
