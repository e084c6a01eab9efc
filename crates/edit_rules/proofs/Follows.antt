-- Demand 3: after any list of edits the rows have the taken digits stored, and the sum is what a whole addition gives.
use mathlib.Core.Path.{◌≡◌, refl, sym, ap, subst, ◌∙◌}
use mathlib.Core.Bool.{Bool, true, false, ◌&&◌}
use mathlib.Core.List.{List, [], ◌∷◌, ◌++◌}
use Prim.Native.Nat.{ℕ, zero, suc, ◌+◌, ◌<◌}
use native.Mathlib.Decide.{dec_lt}
use native.Mathlib.Nat.{zero-add, suc-add, not-suc-le-zero}
use native.Mathlib.Numerals.{add-one}
use native.Mathlib.Omega.{arith}
use lib.ListN.{length, get_or, take, drop, length-append, length-drop, get_or-eq_default}
use lib.Dec.{ltb, leb}
use borrow.Author.Tests.{ltb-true, leb-true, lt-ltb, le-leb}
use Rattle.lists.specs.Span.{span}
use Rattle.lists.specs.Overwrite.{overwrite}
use Rattle.lists.proofs.Span.{length_span, get_d_span, span_ext}
use Rattle.lists.proofs.Test.{both, clash}
use Rattle.faults.specs.Outcome.{Outcome, facts}
use Rattle.faults.proofs.Exit.{exit_written}
use Rattle.digit_rules.specs.Record.{record_at}
use Rattle.numeration.specs.Elements.{elements}
use Rattle.ring.specs.declared.Operation.TheVariants.{Plus}
use Rattle.digit_rules.proofs.Formed.{nothing_asked}
use Rattle.digit_rules.specs.Digits.{pair_index}
use Rattle.numeration.specs.Changes.{Changes, store_taken, store_all}
use Rattle.numeration.specs.Renewal.{Local, digit_row, renewed}
use Rattle.numeration.proofs.Changes.{stored_taken, stored_other, renewed_right, valid_store_taken, valid_store_all}
use Rattle.reader_rules.specs.Table.{alphabet_part, input_part, value_of}
use Rattle.reader_rules.specs.TableFacts.{table_facts}
use Rattle.reader_rules.proofs.Kept.{no_number}
use Rattle.row_rules.specs.declared.Change.{Change}
use Rattle.row_rules.specs.Changed.{changed, no_change}
use Rattle.row_rules.specs.Fit.{EditFits}
use Rattle.row_rules.specs.Rows.{RowsFit}
use Rattle.row_rules.proofs.Broken.{rows_pass}
use Rattle.row_rules.proofs.Changed.{length_changed, changed_elsewhere, changed_fit}
use Rattle.table_rules.specs.Check.{check_facts, check_outcome}
use Rattle.table_rules.specs.Pairs.{in_alphabet}
use Rattle.table_rules.proofs.Demand.{demand_2, listed_test}
use Rattle.place_rules.specs.Place.{index_at}
use Rattle.adder_rules.specs.declared.AddedFacts.{AddedFacts}
use Rattle.adder_rules.specs.Sum.{digit_count, place_count, row_digit, row_reach}
use Rattle.adder_rules.specs.Input.{input_of, input_row, row_index}
use Rattle.adder_rules.specs.Add.{row_part, result_row, result_in}
use Rattle.adder_rules.specs.Calls.{add_outcome, add_sum}
use Rattle.adder_rules.proofs.Rows.{same_index}
use Rattle.adder_rules.proofs.Combined.{result_row_long, passed, combined}
use Rattle.adder_rules.proofs.Accepted.{row_inputs, accepted_passes, accepted_gives}
use Rattle.edit_rules.specs.declared.EditedFacts.{EditedFacts}
use Rattle.edit_rules.specs.Edit.{new_sum, edit_outcome, edit_state}
use Rattle.edit_rules.specs.State.{State, state}
use Rattle.edit_rules.specs.Run.{edit_all, edit_answers, added, run}
use Rattle.edit_rules.specs.Follows.{store_edits, Follows, Step, no_facts, ListFollows}
use Rattle.edit_rules.specs.Edits.{row_edits}
use Rattle.edit_rules.proofs.Step.{taken_state, lent_state, step}

-- input indexes away from the place that a change names
pub inputs_elsewhere : (file : List ℕ) (e : Change) (first second : List ℕ) (k : ℕ) → (e.place ≡ k → ⊥)
    → get_or (input_row Plus file (changed e 0 first) (changed e 1 second)) k 0 ≡ get_or (input_row Plus file first second) k 0
unfolding input_row
inputs_elsewhere file e first second k other =
    let new : List ℕ = changed e 0 first in
    let also : List ℕ = changed e 1 second in
    let n : length new ≡ length first = length_changed e 0 first in
    let away : e.place ≡ 0 + k → ⊥ = λ q. other (q ∙ zero-add k) in
    let input_of_at : ℕ → ℕ → ℕ = pair_index Plus (alphabet_part file) (input_part file) in
    elim (dec_lt k (length first)) [
      | yes h ↦ get_d_span (input_of Plus file new also) 0 (length new) k 0 (omega (arith, n)) ∙ (λ i. input_of_at (changed_elsewhere e 0 first (0 + k) away i) (changed_elsewhere e 1 second (0 + k) away i)) ∙ sym (get_d_span (input_of Plus file first second) 0 (length first) k 0 h)
      | no h ↦ get_or-eq_default (input_row Plus file new also) 0 {n = k} (omega (arith, n, length_span (input_of Plus file new also) 0 (length new))) ∙ sym (get_or-eq_default (input_row Plus file first second) 0 {n = k} (omega (arith, length_span (input_of Plus file first second) 0 (length first))))
    ]

-- the edits taken, stored in turn, are the changes taken of the law of lists
stored_edits : (file : List ℕ) (n : ℕ) (es : List Change) (r : List ℕ × List ℕ) → store_all (row_edits file n) es r ≡ store_edits n (digit_count file) es r
unfolding store_all store_taken store_edits row_edits
stored_edits file n [] r = refl
stored_edits file n (e ∷ es) r = stored_edits file n es _

-- with a table that the check accepts, and rows of n digits and a sum buffer as an addition was given them
module _ (file : List ℕ) (accepted : check_outcome file ≡ facts (check_facts file)) (n room : ℕ) where
  -- rows of n digits that pass 20 to 23
  abbrev Rows : List ℕ × List ℕ → Type 0
  Rows r = RowsFit r.0 r.1 room (digit_count file) (table_facts file).depth × (length r.0 ≡ n)

  abbrev k : Changes (List ℕ × List ℕ) Change ℕ
  k = row_edits file n

  fits : (e : Change) → (leb e.row 1 && (ltb e.place n && ltb e.digit (digit_count file))) ≡ true → EditFits e.row e.place e.digit n (digit_count file)
  fits e t =
      let (row, rest) = both _ _ t in
      let (place, digit) = both _ _ rest in
      record { known_row = leb-true _ _ row; in_row = ltb-true _ _ place; index = ltb-true _ _ digit }

  -- every digit has an alphabet index
  pub index_below : (r : List ℕ × List ℕ) → Rows r → (j : ℕ) → row_index file (input_row Plus file r.0 r.1) j < digit_count file
  unfolding index_at in_alphabet
  index_below r v j =
      let passes = accepted_passes file accepted in
      let all = row_inputs Plus file r.0 r.1 room passes (nothing_asked _ _) v.0 in
      let listed = ((demand_2 file).0 accepted).1 (input_row Plus file r.0 r.1) all j in
      ltb-true _ _ ((listed_test (alphabet_part file) (row_digit file (input_row Plus file r.0 r.1) j)).1 listed)

  -- what the list law asks: a change keeps the kind of rows, and reaches p to p + h
  pub local : Local k Rows
  unfolding row_edits
  local =
      record {
        valid = λ e r t v. (changed_fit e r.0 r.1 room (digit_count file) (table_facts file).depth v.0 (fits e t).index, length_changed e 0 r.0 ∙ v.1);
        room = λ e t. omega (arith, (fits e t).in_row);
        locality = λ e r t v j out. same_index file _ _ j (λ m low high. inputs_elsewhere file e r.0 r.1 m (λ q. out (omega (arith, q)) (omega (arith, q))));
        digits = λ r v j. lt-ltb _ _ (index_below r v j);
      }

  fits_taken : (e : Change) → EditFits e.row e.place e.digit n (digit_count file) → (leb e.row 1 && (ltb e.place n && ltb e.digit (digit_count file))) ≡ true
  fits_taken e is = rw (le-leb _ _ is.known_row, lt-ltb _ _ is.in_row, lt-ltb _ _ is.index)

  -- rows with their sum row and what stands behind it
  module _ (rest : List ℕ) (filled : n + (table_facts file).depth + length rest ≡ room) where
    abbrev at : List ℕ × List ℕ → State
    at r = state r.0 r.1 (digit_row k r ++ rest)

    row_long : (r : List ℕ × List ℕ) → length (digit_row k r ++ rest) ≡ room
    unfolding digit_row row_edits
    row_long r = length-append (digit_row k r) rest ∙ ap (λ (m : ℕ). m + length rest) (length_span (row_index file (input_row Plus file r.0 r.1)) 0 (n + (table_facts file).depth)) ∙ filled

    fit_at : (r : List ℕ × List ℕ) → Rows r → RowsFit r.0 r.1 (length (digit_row k r ++ rest)) (digit_count file) (table_facts file).depth
    fit_at r v = subst (λ (m : ℕ). RowsFit r.0 r.1 m (digit_count file) (table_facts file).depth) (sym (row_long r)) v.0

    -- the sum that an edit writes is the one of the list law
    new_is : (e : Change) (r : List ℕ × List ℕ) → new_sum file e (at r) ≡ renewed k (k.store e r) e.place (digit_row k r ++ rest)
    unfolding new_sum overwrite renewed row_edits row_part
    new_is e r =
        let p = e.place in
        let h = (table_facts file).depth in
        let inputs : List ℕ = input_row Plus file (changed e 0 r.0) (changed e 1 r.1) in
        let part : span (λ j. row_index file inputs (p + j)) 0 (h + 1) ≡ span (row_index file inputs) p (suc h) = span_ext (λ j. row_index file inputs (p + j)) (row_index file inputs) 0 p (h + 1) (λ j l. ap (λ (m : ℕ). row_index file inputs (p + m)) (zero-add j)) ∙ ap (span (row_index file inputs) p) (add-one h) in
        let long : length (span (λ j. row_index file inputs (p + j)) 0 (h + 1)) ≡ suc h = length_span (λ j. row_index file inputs (p + j)) 0 (h + 1) ∙ add-one h in
        λ i. take p (digit_row k r ++ rest) ++ (part i ++ drop (p + long i) (digit_row k r ++ rest))

    -- one edit, and a list of them
    edit_right : (e : Change) (r : List ℕ × List ℕ) → Rows r → edit_state file e (at r) ≡ at (store_taken k e r)
    unfolding row_edits
    edit_right e r v = go (k.taken e) refl
      where
        go : (b : Bool) → k.taken e ≡ b → edit_state file e (at r) ≡ at (store_taken k e r)
        go true t =
            taken_state file accepted e (at r) (fit_at r v) (subst (λ (m : ℕ). EditFits e.row e.place e.digit m (digit_count file)) (sym v.1) (fits e t))
            ∙ ap (state (changed e 0 r.0) (changed e 1 r.1)) (new_is e r ∙ renewed_right k Rows local e r rest t v)
            ∙ ap at (sym (stored_taken k e r t))
        go false t =
            lent_state file accepted e (at r) (fit_at r v) (λ is. clash (fits_taken e (subst (λ (m : ℕ). EditFits e.row e.place e.digit m (digit_count file)) v.1 is)) t)
            ∙ ap at (sym (stored_other k e r t))

    pub list_right : (es : List Change) (r : List ℕ × List ℕ) → Rows r → edit_all file es (at r) ≡ at (store_all k es r)
    unfolding edit_all store_all
    list_right [] r v = refl
    list_right (e ∷ es) r v = ap (edit_all file es) (edit_right e r v) ∙ list_right es (store_taken k e r) (valid_store_taken k Rows local e r v)

-- an edit of a list: what it was given, what it left, what it answered
module _ (file : List ℕ) where
  edit_next : (es : List Change) (s : State) (k : ℕ) → k < length es → edit_all file (take (k + 1) es) s ≡ edit_state file (get_or es k no_change) (edit_all file (take k es) s)
  unfolding edit_all
  edit_next [] s k h = absurd (not-suc-le-zero h)
  edit_next (e ∷ es) s zero h = refl
  edit_next (e ∷ es) s (suc k) h = rw (suc-add) (edit_next es (edit_state file e s) k (omega arith))

  answer_at : (es : List Change) (s : State) (k : ℕ) → k < length es → get_or (edit_answers file es s) k (facts no_facts) ≡ edit_outcome file (get_or es k no_change) (edit_all file (take k es) s)
  unfolding edit_all edit_answers
  answer_at [] s k h = absurd (not-suc-le-zero h)
  answer_at (e ∷ es) s zero h = refl
  answer_at (e ∷ es) s (suc k) h = answer_at es (edit_state file e s) k (omega arith)

  answers_long : (es : List Change) (s : State) → length (edit_answers file es s) ≡ length es
  unfolding edit_answers
  answers_long [] s = refl
  answers_long (e ∷ es) s = ap suc (answers_long es (edit_state file e s))

module _ (file : List ℕ) (accepted : check_outcome file ≡ facts (check_facts file)) (s : State) (f : AddedFacts)
    (given : add_outcome file s.first s.second (length s.sum) ≡ facts f) where
  abbrev n : ℕ
  n = length s.first

  abbrev kind : Changes (List ℕ × List ℕ) Change ℕ
  kind = row_edits file n

  abbrev Kept : List ℕ × List ℕ → Type 0
  Kept r = RowsFit r.0 r.1 (length s.sum) (digit_count file) (table_facts file).depth × (length r.0 ≡ n)

  start : Kept (s.first, s.second)
  start = ((passed Plus file s.first s.second (length s.sum) f given).fit, refl)

  behind : List ℕ
  behind = drop (place_count file s.first) s.sum

  filled : n + (table_facts file).depth + length behind ≡ length s.sum
  unfolding behind
  filled = omega (arith, length-drop (place_count file s.first) s.sum, start.0.room)

  abbrev add_facts : List ℕ × List ℕ → AddedFacts
  add_facts r = record { places = place_count file s.first; reach = row_reach file (input_row Plus file r.0 r.1) 0 (place_count file s.first) }

  adds : (r : List ℕ × List ℕ) → Kept r → add_outcome file r.0 r.1 (length s.sum) ≡ facts (add_facts r)
  adds r v =
      accepted_gives file accepted Plus r.0 r.1 (length s.sum) (no_number _ (rows_pass r.0 r.1 (length s.sum) (digit_count file) (table_facts file).depth v.0)) (nothing_asked _ _)
      ∙ (λ i. let places : ℕ = v.1 i + (table_facts file).depth in facts (record { places = places; reach = row_reach file (input_row Plus file r.0 r.1) 0 places }))

  -- the sum row with what stands behind it is what a whole addition leaves
  whole_is : (r : List ℕ × List ℕ) → Kept r → digit_row kind r ++ behind ≡ add_sum file r.0 r.1 s.sum
  unfolding result_in result_row row_part digit_row row_edits overwrite behind
  whole_is r v =
      let index = row_index file (input_row Plus file r.0 r.1) in
      let places : n + (table_facts file).depth ≡ place_count file r.0 = ap (λ (m : ℕ). m + (table_facts file).depth) (sym v.1) in
      let row : span index 0 (n + (table_facts file).depth) ≡ result_row Plus file r.0 r.1 = ap (span index 0) places ∙ span_ext index (λ j. index (0 + j)) 0 0 (place_count file r.0) (λ j h. ap index (sym (zero-add (0 + j)))) in
      let long : place_count file s.first ≡ 0 + length (result_row Plus file r.0 r.1) = places ∙ sym (zero-add _ ∙ result_row_long Plus file r.0 r.1) in
      (λ i. row i ++ drop (long i) s.sum)
      ∙ exit_written (add_outcome file r.0 r.1 (length s.sum)) (add_facts r) s.sum (overwrite s.sum 0 (result_row Plus file r.0 r.1)) (sym (adds r v))

  stored : List Change → List ℕ × List ℕ
  stored es = store_all kind es (s.first, s.second)

  kept : (es : List Change) → Kept (stored es)
  unfolding stored
  kept es = valid_store_all kind Kept (local file accepted n (length s.sum)) es (s.first, s.second) start

  buffers_are : (es : List Change) → (run file s es).buffers ≡ state (stored es).0 (stored es).1 (digit_row kind (stored es) ++ behind)
  unfolding run stored
  buffers_are es =
      ap (λ (x : List ℕ). edit_all file es (state s.first s.second x)) (sym (whole_is (s.first, s.second) start)) ∙ list_right file accepted n (length s.sum) behind filled es (s.first, s.second) start

  follows : (es : List Change) → Follows file s es (run file s es).buffers
  unfolding stored
  follows es =
      let r = stored es in
      let v = kept es in
      let sum : List ℕ = digit_row kind r ++ behind in
      let is : sum ≡ add_sum file r.0 r.1 s.sum = whole_is r v in
      let t = combined Plus file r.0 r.1 s.sum (add_facts r) (adds r v) in
      let places : place_count file s.first ≡ place_count file r.0 = ap (λ (m : ℕ). m + (table_facts file).depth) (sym v.1) in
      subst (Follows file s es) (sym (buffers_are es)) (record {
        rows_stored = stored_edits file n es (s.first, s.second);
        inputs = t.inputs;
        index = λ j h. ap (λ (x : List ℕ). get_or x j 0) is ∙ t.index j (omega (arith, places));
        digit = λ j h. ap (λ (x : List ℕ). record_at (alphabet_part file) (get_or x j 0)) is ∙ t.digit j (omega (arith, places));
        adds = adds r v;
        whole = is;
        further = λ j h. ap (λ (x : List ℕ). get_or x j 0) is ∙ t.further j (omega (arith, places));
        long = ap length is ∙ t.long;
        value_is = (λ i. value_of file (take (places i) (is i))) ∙ t.value_is ∙ (unfold elements in refl);
      })

  fit_of : (es : List Change) → RowsFit (run file s es).buffers.first (run file s es).buffers.second (length (run file s es).buffers.sum) (digit_count file) (table_facts file).depth × (length (run file s es).buffers.first ≡ n)
  fit_of es =
      let r = stored es in
      let v = kept es in
      let long = ap length (whole_is r v) ∙ (combined Plus file r.0 r.1 s.sum (add_facts r) (adds r v)).long in
      subst (λ (b : State). RowsFit b.first b.second (length b.sum) (digit_count file) (table_facts file).depth × (length b.first ≡ n)) (sym (buffers_are es))
      (subst (λ (m : ℕ). RowsFit r.0 r.1 m (digit_count file) (table_facts file).depth) (sym long) v.0, v.1)

  each : (es : List Change) (k : ℕ) → k < length es
      → Step file n (get_or es k no_change) (run file s (take k es)).buffers (run file s (take (k + 1) es)).buffers (get_or (run file s es).answers k (facts no_facts))
  unfolding run
  each es k h =
      let e = get_or es k no_change in
      let b = edit_all file (take k es) (added file s) in
      subst (λ (o : Outcome EditedFacts). Step file n e b (edit_all file (take (k + 1) es) (added file s)) o) (sym (answer_at file es (added file s) k h))
      (subst (λ (a : State). Step file n e b a (edit_outcome file e b)) (sym (edit_next file es (added file s) k h))
      (subst (λ (m : ℕ). Step file m e b (edit_state file e b) (edit_outcome file e b)) (fit_of (take k es)).1 (step file accepted e b (fit_of (take k es)).0)))

  -- Demand 3. After a fresh addition with a table that the check accepts and any list of edits, refused ones included: after every
  -- prefix of the list the rows are those of the addition with the taken digits stored in turn, the sum is in every byte what a whole
  -- addition of these rows leaves and its value the sum of their values; each edit is answered with the first of 24 to 26 that it
  -- breaks, and then nothing is changed, or else with the number of sum digits that it changed and the reach in the rows after it, and then nothing is changed but its
  -- place in its row and sum places p to p + h.
  pub demand_3 : (es : List Change) → ListFollows file s es
  unfolding run
  demand_3 es = record { after = λ k h. follows (take k es); each = each es; all_answered = answers_long file es (added file s) }
