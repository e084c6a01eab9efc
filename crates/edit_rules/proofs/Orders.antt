-- Two edits in either order, with a table that the check accepts and rows that pass 20 to 23.
use mathlib.Core.Path.{◌≡◌, refl, sym, ap, ap₂, subst, ◌∙◌}
use mathlib.Core.List.{List}
use mathlib.Core.Logic.{◌⊎◌, inl, inr}
use Prim.Native.Nat.{ℕ, ◌+◌, ◌<◌, ◌≤◌}
use native.Mathlib.Decide.{dec_le}
use native.Mathlib.Omega.{arith}
use lib.ListN.{length, get_or}
use lib.Seq.{ext_get_or}
use lib.Dec.{eqb}
use borrow.Author.Tests.{eq-eqb, eqb-true}
use Rattle.lists.proofs.Test.{same_outcome}
use Rattle.faults.specs.declared.Refusal.{Refusal}
use Rattle.faults.specs.Outcome.{facts, refused, editor}
use Rattle.numeration.specs.Code.{Inputs}
use Rattle.numeration.proofs.Exchange.{AllBut, change_seen}
use Rattle.numeration.proofs.Reach.{reach_near}
use Rattle.ring.specs.Padded.{width}
use Rattle.ring.specs.declared.Operation.TheVariants.{Plus}
use Rattle.digit_rules.specs.Record.{record_at}
use Rattle.digit_rules.proofs.Formed.{nothing_asked}
use Rattle.numeration.specs.Laws.{HasParts}
use Rattle.reader_rules.specs.Table.{alphabet_part, input_part, leaf_part, word_part, operations_of, input_count, leaves_in}
use Rattle.reader_rules.specs.TableFacts.{table_facts}
use Rattle.reader_rules.specs.Check.{table_check}
use Rattle.reader_rules.proofs.Ready.{ready_passed}
use Rattle.row_rules.specs.declared.Change.{Change}
use Rattle.row_rules.specs.Changed.{changed}
use Rattle.row_rules.specs.Check.{edit_check}
use Rattle.row_rules.specs.Fit.{EditFits}
use Rattle.row_rules.specs.Rows.{RowsFit}
use Rattle.row_rules.proofs.Changed.{length_changed, changed_exchange}
use Rattle.table_rules.specs.Check.{check_facts, check_outcome}
use Rattle.place_rules.specs.Place.{alphabet_index, index_at}
use Rattle.place_rules.proofs.Place.{index_names}
use Rattle.adder_rules.specs.Sum.{digit_count, row_digit}
use Rattle.adder_rules.specs.Input.{input_row, row_index}
use Rattle.adder_rules.proofs.Rows.{same_index, same_reach}
use Rattle.adder_rules.proofs.Accepted.{row_inputs, accepted_passes}
use Rattle.adder_rules.proofs.Combined.{passed, combined}
use Rattle.edit_rules.specs.declared.EditedFacts.{EditedFacts}
use Rattle.edit_rules.specs.Edit.{new_sum, written, count, renew_facts, edit_outcome, edit_state}
use Rattle.edit_rules.specs.State.{State, state, new_inputs, renewed_count}
use Rattle.edit_rules.specs.Orders.{Different, Apart, Addable, RightSum, Taken, InTurn, in_turn, Same, Agree}
use Rattle.edit_rules.proofs.Count.{failing_ext}
use Rattle.edit_rules.proofs.Renewed.{new_fit, part_fits}
use Rattle.edit_rules.proofs.Step.{sum_long, sum_inside, sum_elsewhere, given, taken_state, refusal, lent_state, taken_or_not, either_way}
use Rattle.edit_rules.proofs.Follows.{inputs_elsewhere, index_below}

module _ (file : List ℕ) (accepted : check_outcome file ≡ facts (check_facts file)) where
  abbrev h : ℕ
  h = (table_facts file).depth

  passes : (table_check file).number ≡ 0
  passes = accepted_passes file accepted

  abbrev pub Fit : State → Type 0
  Fit s = RowsFit s.first s.second (length s.sum) (digit_count file) h

  pub addable_fit : (s : State) → Addable file s → Fit s
  addable_fit s adds = (passed Plus file s.first s.second (length s.sum) _ adds).fit

  -- an edit keeps what 20 to 26 ask
  written_fit : (e : Change) (s : State) → Fit s → Taken file s e → Fit (written file e s)
  written_fit e s fit asked =
      subst (λ (room : ℕ). RowsFit (changed e 0 s.first) (changed e 1 s.second) room (digit_count file) h) (sym (sum_long file e s (part_fits file e s passes fit asked))) (new_fit file e s passes fit asked)

  pub kept : (e : Change) (s : State) → Fit s → Fit (edit_state file e s)
  kept e s fit = either_way file accepted e s fit Fit (written_fit e s fit) fit

  row_long : (e : Change) (s : State) → Fit s → length (edit_state file e s).first ≡ length s.first
  row_long e s fit = either_way file accepted e s fit (λ t. length t.first ≡ length s.first) (λ _. length_changed e 0 s.first) refl

  taken_by_length : (e : Change) (s t : State) → length s.first ≡ length t.first → Taken file s e → Taken file t e
  taken_by_length e s t long asked = subst (λ (n : ℕ). EditFits e.row e.place e.digit n (digit_count file)) long asked

  still_taken : (e f : Change) (s : State) → Taken file s e → Taken file (written file f s) e
  still_taken e f s asked = taken_by_length e s (written file f s) (sym (length_changed f 0 s.first)) asked

  abbrev inputs : State → List ℕ
  inputs s = input_row Plus file s.first s.second

  abbrev Within : Change → ℕ → Type 0
  Within e j = (e.place ≤ j) × (j ≤ e.place + h)

  abbrev Outside : Change → ℕ → Type 0
  Outside e j = e.place ≤ j → j ≤ e.place + h → ⊥

  within : (e : Change) (j : ℕ) → Within e j ⊎ Outside e j
  within e j =
      elim (dec_le e.place j) [
        | yes low ↦ elim (dec_le j (e.place + h)) [ yes high ↦ inl (low, high) | no past ↦ inr (λ a b. past b) ]
        | no below ↦ inr (λ a b. below a)
      ]

  -- the input digits of the rows with a digit stored are theirs but at its place
  but_own : (e : Change) (s : State) → AllBut e.place (new_inputs file e s) (inputs s)
  but_own e s i out = inputs_elsewhere file e s.first s.second i (λ q. out (sym q))

  -- the digits of the rows, outside the places that an edit reaches
  untouched : (e : Change) (s : State) (j : ℕ) → Outside e j → row_index file (new_inputs file e s) j ≡ row_index file (inputs s) j
  untouched e s j out = same_index file _ _ j (λ k low high. but_own e s k (λ q. out (omega (arith, q)) (omega (arith, q))))

  module _ (e f : Change) (s : State) (different : Different e f) where
    -- both digits are stored, whichever comes first
    inputs_same : new_inputs file f (written file e s) ≡ new_inputs file e (written file f s)
    inputs_same = ap₂ (input_row Plus file) (changed_exchange e f 0 s.first different) (changed_exchange e f 1 s.second different)

    -- so the input digits with both stored are those with e's but at f's place
    but_other : AllBut f.place (new_inputs file e (written file f s)) (new_inputs file e s)
    but_other i out = ap (λ (r : List ℕ). get_or r i 0) (sym inputs_same) ∙ but_own f (written file e s) i out

    -- and outside the places that f reaches their digits are those
    digit_same : (j : ℕ) → Outside f j → row_index file (new_inputs file e s) j ≡ row_index file (new_inputs file e (written file f s)) j
    digit_same j out = sym (untouched f (written file e s) j out) ∙ ap (λ (r : List ℕ). row_index file r j) inputs_same

  -- the sum after two edits that are taken: new digits where one of them reaches, and what was there elsewhere
  module _ (e f : Change) (s : State) (fit : Fit s) (one : Taken file s e) (other : Taken file s f) where
    room : e.place + renewed_count file ≤ length s.sum
    room = part_fits file e s passes fit one

    room_after : f.place + renewed_count file ≤ length (written file e s).sum
    room_after = part_fits file f (written file e s) passes (written_fit e s fit one) (still_taken f e s other)

    reached : (j : ℕ) → Within e j ⊎ Within f j → get_or (new_sum file f (written file e s)) j 0 ≡ row_index file (new_inputs file f (written file e s)) j
    reached j (inr at) = sum_inside file f (written file e s) room_after j at.0 at.1
    reached j (inl at) =
        elim (within f j) [
          | inl also ↦ sum_inside file f (written file e s) room_after j also.0 also.1
          | inr out ↦ sum_elsewhere file f (written file e s) room_after j out ∙ sum_inside file e s room j at.0 at.1 ∙ sym (untouched f (written file e s) j out)
        ]

    left : (j : ℕ) → Outside e j → Outside f j → get_or (new_sum file f (written file e s)) j 0 ≡ get_or s.sum j 0
    left j out also = sum_elsewhere file f (written file e s) room_after j also ∙ sum_elsewhere file e s room j out

    long : length (new_sum file f (written file e s)) ≡ length s.sum
    long = sum_long file f (written file e s) room_after ∙ sum_long file e s room

  sum_same : (e f : Change) (s : State) → Fit s → Taken file s e → Taken file s f → Different e f → new_sum file f (written file e s) ≡ new_sum file e (written file f s)
  sum_same e f s fit one other different =
      ext_get_or 0 _ _ (long e f s fit one other ∙ sym (long f e s fit other one)) (λ j _. at j (within e j) (within f j))
    where
      new : (j : ℕ) → Within e j ⊎ Within f j → Within f j ⊎ Within e j → get_or (new_sum file f (written file e s)) j 0 ≡ get_or (new_sum file e (written file f s)) j 0
      new j a b = reached e f s fit one other j a ∙ ap (λ (r : List ℕ). row_index file r j) (inputs_same e f s different) ∙ sym (reached f e s fit other one j b)

      at : (j : ℕ) → Within e j ⊎ Outside e j → Within f j ⊎ Outside f j → get_or (new_sum file f (written file e s)) j 0 ≡ get_or (new_sum file e (written file f s)) j 0
      at j (inl a) b = new j (inl a) (inr a)
      at j (inr a) (inl b) = new j (inr b) (inl b)
      at j (inr a) (inr b) = left e f s fit one other j a b ∙ sym (left f e s fit other one j b a)

  -- Edits of different cells leave the same three rows in either order.
  pub exchange : (e f : Change) (s : State) → Fit s → Different e f → edit_state file f (edit_state file e s) ≡ edit_state file e (edit_state file f s)
  exchange e f s fit different = go (taken_or_not file accepted e s fit) (taken_or_not file accepted f s fit)
    where
      never : (e f : Change) → (Taken file s e → ⊥) → Taken file (edit_state file f s) e → ⊥
      never e f out asked = out (taken_by_length e (edit_state file f s) s (row_long f s fit) asked)

      go : Taken file s e ⊎ (Taken file s e → ⊥) → Taken file s f ⊎ (Taken file s f → ⊥) → edit_state file f (edit_state file e s) ≡ edit_state file e (edit_state file f s)
      go (inl one) (inl other) =
          ap (edit_state file f) (taken_state file accepted e s fit one) ∙ taken_state file accepted f (written file e s) (written_fit e s fit one) (still_taken f e s other)
          ∙ (λ i. state (changed_exchange e f 0 s.first different i) (changed_exchange e f 1 s.second different i) (sum_same e f s fit one other different i))
          ∙ sym (ap (edit_state file e) (taken_state file accepted f s fit other) ∙ taken_state file accepted e (written file f s) (written_fit f s fit other) (still_taken e f s one))
      go (inr out) b = ap (edit_state file f) (lent_state file accepted e s fit out) ∙ sym (lent_state file accepted e (edit_state file f s) (kept f s fit) (never e f out))
      go (inl one) (inr out) = lent_state file accepted f (edit_state file e s) (kept e s fit) (never f e out) ∙ sym (ap (edit_state file e) (lent_state file accepted f s fit out))

  abbrev Right : State → Type 0
  Right s = (j : ℕ) → j < length s.first + h → get_or s.sum j 0 ≡ row_index file (inputs s) j

  right_sum : (s : State) → Addable file s → RightSum file s → Right s
  right_sum s adds right j low = ap (λ (x : List ℕ). get_or x j 0) right ∙ (combined Plus file s.first s.second s.sum _ adds).index j low

  still_right : (e : Change) (s : State) → Fit s → Taken file s e → Right s → Right (written file e s)
  still_right e s fit asked right j low =
      let room = part_fits file e s passes fit asked in
      elim (within e j) [
        | inl at ↦ sum_inside file e s room j at.0 at.1
        | inr out ↦ sum_elsewhere file e s room j out ∙ right j (omega (arith, length_changed e 0 s.first)) ∙ sym (untouched e s j out)
      ]

  -- equal indexes are of equal digits
  digits_equal : (s t : State) → Fit s → Fit t → (j : ℕ) → row_index file (inputs s) j ≡ row_index file (inputs t) j → row_digit file (inputs s) j ≡ row_digit file (inputs t) j
  digits_equal s t fit also j same = sym (named s fit) ∙ ap (record_at (alphabet_part file)) same ∙ named t also
    where
      named : (s : State) → Fit s → record_at (alphabet_part file) (row_index file (inputs s) j) ≡ row_digit file (inputs s) j
      named s fit =
          index_names (operations_of file) (alphabet_part file) (input_part file) (leaf_part file) (word_part file) _ j (index_below file accepted (length s.first) (length s.sum) (s.first, s.second) (fit, refl) j)

  listed : (s : State) → Fit s → Inputs (input_count file) (inputs s)
  listed s fit = row_inputs Plus file s.first s.second (length s.sum) passes (nothing_asked _ _) fit

  -- the numeration law, for indexes
  seen : (row one other both : List ℕ) (p q : ℕ) → AllBut p one row → AllBut q other row → AllBut q both one → AllBut p both other → (p + h ≤ q) ⊎ (q + h ≤ p) → (j : ℕ)
      → row_digit file row j ≡ row_digit file one j → row_index file other j ≡ row_index file both j
  unfolding table_facts index_at
  seen row one other both p q a b c d apart j same =
      let ready = ready_passed file passes in
      ap (alphabet_index (alphabet_part file)) (change_seen (operations_of file) (HasParts width) ready.group (record_at (input_part file)) (leaves_in file) ready.in_group ready.depth_low row one other both p q a b c d apart j same)

  -- edit e of s, and of s after edit f
  module _ (e f : Change) (s : State) (fit : Fit s) (one : Taken file s e) (other : Taken file s f) where
    abbrev after : State
    after = written file f s

    after_fit : Fit after
    after_fit = written_fit f s fit other

    after_taken : Taken file after e
    after_taken = still_taken e f s one

    -- the count is the same where each byte that e renews is altered in both orders or in neither
    count_by : ((j : ℕ) → Within e j → eqb (get_or s.sum j 0) (row_index file (new_inputs file e s) j) ≡ eqb (get_or after.sum j 0) (row_index file (new_inputs file e after) j)) → count file e s ≡ count file e after
    unfolding count
    count_by same =
        failing_ext (λ k. eqb (get_or s.sum k 0) (get_or (new_sum file e s) k 0)) (λ k. eqb (get_or after.sum k 0) (get_or (new_sum file e after) k 0)) e.place e.place (renewed_count file) (λ k low. at (e.place + k) (omega arith, omega arith))
      where
        at : (j : ℕ) → Within e j → eqb (get_or s.sum j 0) (get_or (new_sum file e s) j 0) ≡ eqb (get_or after.sum j 0) (get_or (new_sum file e after) j 0)
        at j in_part =
            ap (eqb _) (sum_inside file e s (part_fits file e s passes fit one) j in_part.0 in_part.1) ∙ same j in_part ∙ ap (eqb _) (sym (sum_inside file e after (part_fits file e after passes after_fit after_taken) j in_part.0 in_part.1))

    -- so it is for places at least h apart, from a right sum
    count_same : Right s → Different e f → Apart h e f → count file e s ≡ count file e after
    count_same right different apart =
        count_by (λ j at. ap₂ eqb (right j (inside j at)) refl ∙ altered j ∙ ap₂ eqb (sym (still_right f s fit other right j (omega (arith, length_changed f 0 s.first, inside j at)))) refl)
      where
        inside : (j : ℕ) → Within e j → j < length s.first + h
        inside j at = omega (arith, at.1, one.in_row)

        altered : (j : ℕ) → eqb (row_index file (inputs s) j) (row_index file (new_inputs file e s) j) ≡ eqb (row_index file (inputs after) j) (row_index file (new_inputs file e after) j)
        altered j =
            same_outcome _ _
            (λ t. eq-eqb _ _ (seen _ _ _ _ _ _ (but_own e s) (but_own f s) (but_other e f s different) (but_own e after) apart j (digits_equal s (written file e s) fit (written_fit e s fit one) j (eqb-true _ _ t))))
            (λ t. eq-eqb _ _ (seen _ _ _ _ _ _ (but_own e after) (λ i out. sym (but_own f s i out)) (λ i out. sym (but_other e f s different i out)) (but_own e s) apart j (digits_equal after (written file e after) after_fit (written_fit e after after_fit after_taken) j (eqb-true _ _ t))))

    -- the reach is the same where f is at least h places below, from any sum
    reach_same : Different e f → f.place + h ≤ e.place → (renew_facts file e s).reach ≡ (renew_facts file e after).reach
    unfolding table_facts
    reach_same different below =
        reach_near (leaves_in file) (input_count file) (ready_passed file passes).code _ _ (listed (written file e s) (written_fit e s fit one)) (listed (written file e after) (written_fit e after after_fit after_taken)) e.place (renewed_count file) (λ k low high. sym (but_other e f s different k (λ q. omega (arith, q))))

    -- and all facts for places more than h apart
    facts_same : Different e f → Apart (h + 1) e f → renew_facts file e s ≡ renew_facts file e after
    facts_same different apart =
        λ i. record { count = count_by (λ j at. ap₂ eqb (sym (sum_elsewhere file f s (part_fits file f s passes fit other) j (far j at))) (digit_same e f s different j (far j at))) i; reach = same_reach file (new_inputs file e s) (new_inputs file e after) e.place (renewed_count file) (λ k low high. sym (but_other e f s different k (λ q. past k low high q apart))) i }
      where
        far : (j : ℕ) → Within e j → Outside f j
        far j at low high = elim apart [ inl a ↦ omega (arith, at.1) | inr a ↦ omega (arith, at.0) ]

        past : (k : ℕ) → e.place ≤ k + h → k < e.place + renewed_count file → k ≡ f.place → Apart (h + 1) e f → ⊥
        past k low high q (inl a) = omega (arith, q)
        past k low high q (inr a) = omega (arith, q)

    answer_after : edit_outcome file e (edit_state file f s) ≡ facts (renew_facts file e after)
    answer_after = ap (edit_outcome file e) (taken_state file accepted f s fit other) ∙ given file accepted e after after_fit after_taken

  -- places that are apart are different
  different_apart : (e f : Change) (d : ℕ) → 1 ≤ d → Apart d e f → Different e f
  different_apart e f d some (inl a) _ q = omega (arith, q)
  different_apart e f d some (inr a) _ q = omega (arith, q)

  some : 1 ≤ h
  some = (ready_passed file passes).depth_low

  turned : (e f : Change) (d : ℕ) → Apart d e f → Apart d f e
  turned e f d (inl a) = inr a
  turned e f d (inr a) = inl a

  same_fact : (fact : EditedFacts → ℕ) (e f : Change) (s : State) → Fit s → Taken file s e → Taken file s f → fact (renew_facts file e s) ≡ fact (renew_facts file e (written file f s))
      → Same fact (edit_outcome file e s) (edit_outcome file e (edit_state file f s))
  same_fact fact e f s fit one other same = (renew_facts file e s, renew_facts file e (written file f s), given file accepted e s fit one, answer_after e f s fit one other, same)

  same_count : (e f : Change) (s : State) → Addable file s → RightSum file s → Taken file s e → Taken file s f → Apart h e f → Same (λ x. x.count) (edit_outcome file e s) (edit_outcome file e (edit_state file f s))
  same_count e f s adds right one other apart =
      let fit = addable_fit s adds in
      same_fact (λ x. x.count) e f s fit one other (count_same e f s fit one other (right_sum s adds right) (different_apart e f h some apart) apart)

  same_reach_above : (e f : Change) (s : State) → Fit s → Taken file s e → Taken file s f → f.place + h ≤ e.place → Same (λ x. x.reach) (edit_outcome file e s) (edit_outcome file e (edit_state file f s))
  same_reach_above e f s fit one other below = same_fact (λ x. x.reach) e f s fit one other (reach_same e f s fit one other (different_apart e f h some (inr below)) below)

  same_answer : (e f : Change) (s : State) → Fit s → Apart (h + 1) e f → edit_outcome file e s ≡ edit_outcome file e (edit_state file f s)
  same_answer e f s fit apart = go (taken_or_not file accepted e s fit) (taken_or_not file accepted f s fit)
    where
      go : Taken file s e ⊎ (Taken file s e → ⊥) → Taken file s f ⊎ (Taken file s f → ⊥) → edit_outcome file e s ≡ edit_outcome file e (edit_state file f s)
      go a (inr out) = ap (edit_outcome file e) (sym (lent_state file accepted f s fit out))
      go (inl one) (inl other) =
          given file accepted e s fit one ∙ ap facts (facts_same e f s fit one other (different_apart e f (h + 1) (omega arith) apart) apart) ∙ sym (answer_after e f s fit one other)
      go (inr out) (inl other) =
          let long = row_long f s fit in
          sym (refusal file accepted e s fit out)
          ∙ ap (λ (n : ℕ). let found : Refusal = edit_check e.row e.place e.digit n (digit_count file) in refused editor found.number found.place) (sym long)
          ∙ refusal file accepted e (edit_state file f s) (kept f s fit) (λ asked. out (taken_by_length e (edit_state file f s) s long asked))

  -- Job 10 of document 02: what two edits leave and answer in both orders.
  pub agree : (s : State) → Addable file s → (e f : Change) → Agree file s e f (in_turn file e f s) (in_turn file f e s)
  agree s adds e f =
      let fit = addable_fit s adds in
      record {
        rows = exchange e f s fit;
        counts = λ right one other apart. (same_count e f s adds right one other apart, same_count f e s adds right other one (turned e f h apart));
        reach = λ one other. (same_reach_above e f s fit one other, same_reach_above f e s fit other one);
        answers = λ apart. (same_answer e f s fit apart, same_answer f e s fit (turned e f (h + 1) apart));
      }

  -- so it is of two orders that are known by equations, from buffers with the same contents
  pub agree_found : (s t : State) (e f : Change) (forth back : InTurn) → forth ≡ in_turn file e f s → back ≡ in_turn file f e t → t ≡ s → Addable file s → Agree file s e f forth back
  agree_found s t e f forth back found also same adds =
      subst (λ (x : InTurn). Agree file s e f x back) (sym found)
      (subst (Agree file s e f (in_turn file e f s)) (sym (also ∙ ap (in_turn file f e) same)) (agree s adds e f))
