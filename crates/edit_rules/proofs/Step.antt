-- One edit with an accepted table, of rows that pass 20 to 23.
use mathlib.Core.Path.{◌≡◌, refl, sym, ap, subst, ◌∙◌}
use mathlib.Core.Bool.{Bool}
use mathlib.Core.List.{List, [], ◌∷◌}
use mathlib.Core.Logic.{◌⊎◌, inl, inr}
use Prim.Native.Nat.{ℕ, ◌+◌, ◌-◌, ◌<◌, ◌≤◌}
use native.Mathlib.Decide.{ℕ_discrete, dec_lt}
use native.Mathlib.Nat.{zero-add}
use native.Mathlib.Omega.{arith}
use lib.ListN.{length, get_or}
use lib.Dec.{eqb}
use borrow.Author.Tests.{eq-eqb}
use Rattle.lists.specs.Overwrite.{overwrite}
use Rattle.lists.proofs.Overwrite.{length_overwrite}
use Rattle.lists.proofs.Span.{get_d_span}
use Rattle.faults.specs.Check.{none}
use Rattle.faults.specs.Outcome.{facts, refused, editor}
use Rattle.faults.specs.Unless.{unless}
use Rattle.faults.proofs.Exit.{exit_written}
use Rattle.faults.proofs.Unless.{unless_found, unless_none}
use Rattle.calls.specs.Answers.{stage, Answers}
use Rattle.calls.proofs.Answers.{told_end, told_unless, told_answers, unless_given}
use Rattle.ring.specs.declared.Operation.TheVariants.{Plus}
use Rattle.digit_rules.proofs.Formed.{nothing_asked}
use Rattle.reader_rules.specs.TableFacts.{table_facts}
use Rattle.reader_rules.specs.Check.{table_check}
use Rattle.reader_rules.proofs.Kept.{no_number}
use Rattle.row_rules.specs.declared.Change.{Change}
use Rattle.row_rules.specs.Changed.{changed}
use Rattle.row_rules.specs.Broken.{edit_rules}
use Rattle.row_rules.specs.Fit.{EditFits}
use Rattle.row_rules.specs.Rows.{RowsFit}
use Rattle.row_rules.proofs.Fit.{edit_fits}
use Rattle.row_rules.proofs.Broken.{rows_pass, edit_passes, edit_decided}
use Rattle.table_rules.specs.Check.{check_facts, check_outcome}
use Rattle.lists.proofs.Entries.{overwrite_before, overwrite_in, overwrite_behind}
use Rattle.adder_rules.specs.Sum.{digit_count}
use Rattle.adder_rules.specs.Input.{row_index}
use Rattle.adder_rules.specs.Add.{row_part, output_check}
use Rattle.adder_rules.proofs.Accepted.{row_inputs, accepted_passes, digits_kept}
use Rattle.edit_rules.specs.declared.EditedFacts.{EditedFacts}
use Rattle.edit_rules.specs.Count.{failing, differing}
use Rattle.edit_rules.specs.Edit.{new_sum, written, count, renew_facts, edit_outcome, edit_state}
use Rattle.edit_rules.specs.State.{new_inputs, State, renewed_count}
use Rattle.edit_rules.specs.Follows.{step_facts, Step}
use Rattle.edit_rules.proofs.Count.{failing_zero, failing_add}
use Rattle.edit_rules.proofs.Renewed.{part_long, renew_given, new_fit, part_fits}
use Rattle.edit_rules.proofs.Stages.{rows_found, asked_found, edit_refused, edit_passed}
use Rattle.edit_rules.proofs.Demand.{refused_lent}

-- the sum with its part renewed
module _ (file : List ℕ) (e : Change) (s : State) (fits : e.place + renewed_count file ≤ length s.sum) where
  abbrev part : List ℕ
  part = row_part file (new_inputs file e s) e.place (renewed_count file)

  long : length part ≡ renewed_count file
  long = part_long file (new_inputs file e s) e.place (renewed_count file)

  pub sum_long : length (new_sum file e s) ≡ length s.sum
  unfolding new_sum
  sum_long = length_overwrite s.sum e.place part (omega (arith, long))

  sum_below : (j : ℕ) → j < e.place → get_or (new_sum file e s) j 0 ≡ get_or s.sum j 0
  unfolding new_sum
  sum_below j h = overwrite_before s.sum part e.place (omega (arith, long)) j h

  sum_above : (j : ℕ) → e.place + renewed_count file ≤ j → get_or (new_sum file e s) j 0 ≡ get_or s.sum j 0
  unfolding new_sum
  sum_above j h =
      let at : j ≡ e.place + length part + (j - (e.place + length part)) = omega (arith, long) in
      ap (λ (k : ℕ). get_or (overwrite s.sum e.place part) k 0) at ∙ overwrite_behind s.sum part e.place (omega (arith, long)) (j - (e.place + length part)) ∙ ap (λ (k : ℕ). get_or s.sum k 0) (sym at)

  -- the digits of the rows as edited at p to p + h, and what was there elsewhere
  pub sum_inside : (j : ℕ) → e.place ≤ j → j ≤ e.place + (table_facts file).depth → get_or (new_sum file e s) j 0 ≡ row_index file (new_inputs file e s) j
  unfolding new_sum row_part
  sum_inside j low high =
      let k : ℕ = j - e.place in
      let at : j ≡ e.place + k = omega arith in
      let digit : ℕ → ℕ = row_index file (new_inputs file e s) in
      ap (λ (m : ℕ). get_or (overwrite s.sum e.place part) m 0) at ∙ overwrite_in s.sum part e.place (omega (arith, long)) k (omega (arith, long)) ∙ get_d_span (λ m. digit (e.place + m)) 0 (renewed_count file) k 0 (omega arith) ∙ ap digit (omega arith)

  pub sum_elsewhere : (j : ℕ) → (e.place ≤ j → j ≤ e.place + (table_facts file).depth → ⊥) → get_or (new_sum file e s) j 0 ≡ get_or s.sum j 0
  sum_elsewhere j out =
      elim (dec_lt j e.place) [
        | yes h ↦ sum_below j h
        | no h ↦ elim (dec_lt j (e.place + renewed_count file)) [ yes l ↦ absurd (out (omega arith) (omega arith)) | no l ↦ sum_above j (omega arith) ]
      ]

  -- the count is the one over the whole row
  pub count_whole : (m : ℕ) → e.place + renewed_count file ≤ m → count file e s ≡ differing s.sum (new_sum file e s) 0 m
  unfolding count
  count_whole m h =
      let p = e.place in
      let behind : ℕ = m - (p + renewed_count file) in
      let test : ℕ → Bool = λ k. eqb (get_or s.sum k 0) (get_or (new_sum file e s) k 0) in
      let all : m ≡ p + (renewed_count file + behind) = omega arith in
      let below : failing test 0 p ≡ 0 = failing_zero test 0 p (λ k l u. eq-eqb _ _ (sym (sum_below k (omega arith)))) in
      let above : failing test (p + renewed_count file) behind ≡ 0 = failing_zero test (p + renewed_count file) behind (λ k l u. eq-eqb _ _ (sym (sum_above k l))) in
      let split : failing test 0 (p + (renewed_count file + behind)) ≡ failing test 0 p + failing test (0 + p) (renewed_count file + behind) = failing_add test 0 p (renewed_count file + behind) in
      let rest : failing test p (renewed_count file + behind) ≡ failing test p (renewed_count file) + failing test (p + renewed_count file) behind = failing_add test p (renewed_count file) behind in
      sym (ap (failing test 0) all ∙ split ∙ ap (λ (k : ℕ). failing test 0 p + failing test k (renewed_count file + behind)) (zero-add p) ∙ omega (arith, below, above, rest))

module _ (file : List ℕ) (accepted : check_outcome file ≡ facts (check_facts file)) (e : Change) (s : State)
    (fit : RowsFit s.first s.second (length s.sum) (digit_count file) (table_facts file).depth) where
  abbrev Fits : Type 0
  Fits = EditFits e.row e.place e.digit (length s.first) (digit_count file)

  abbrev whole : EditedFacts
  whole = step_facts file (length s.first) e s (edit_state file e s)

  passes : (table_check file).number ≡ 0
  passes = accepted_passes file accepted

  rows_none : (rows_found file e s).number ≡ 0
  rows_none = no_number _ (rows_pass s.first s.second (length s.sum) (digit_count file) (table_facts file).depth fit)

  fitting : (asked_found file e s).number ≡ 0 → Fits
  fitting z = edit_fits e.row e.place e.digit (length s.first) (digit_count file) z

  -- a taken edit: no digit is outside the alphabet
  pub given : Fits → edit_outcome file e s ≡ facts (renew_facts file e s)
  given asked =
      let kept : output_check file (new_inputs file e s) e.place (renewed_count file) ≡ none = digits_kept file accepted (new_inputs file e s) (row_inputs Plus file (changed e 0 s.first) (changed e 1 s.second) (length s.sum) passes (nothing_asked _ _) (new_fit file e s passes fit asked)) e.place (renewed_count file) in
      let known : (asked_found file e s).number ≡ 0 = no_number _ (edit_passes e.row e.place e.digit (length s.first) (digit_count file) asked) in
      sym (edit_passed file e s passes rows_none known) ∙ sym (renew_given file e s (renew_facts file e s) refl kept)

  pub taken_state : Fits → edit_state file e s ≡ written file e s
  unfolding edit_state
  taken_state asked = sym (exit_written (edit_outcome file e s) (renew_facts file e s) s (written file e s) (sym (given asked)))

  facts_given : Fits → renew_facts file e s ≡ whole
  facts_given asked =
      let n : ℕ = length s.first in
      (λ i. record { count = count_whole file e s (part_fits file e s passes fit asked) (n + (table_facts file).depth) (omega (arith, asked.in_row)) i; reach = (renew_facts file e s).reach })
      ∙ ap (step_facts file n e s) (sym (taken_state asked))

  -- 24 to 26, and else the facts
  answer_is : edit_outcome file e s ≡ unless editor (asked_found file e s) (facts whole)
  answer_is =
      elim (ℕ_discrete (asked_found file e s).number 0) [
        | yes z ↦ given (fitting z) ∙ ap facts (facts_given (fitting z)) ∙ sym (unless_none editor (asked_found file e s) (facts whole) z)
        | no some ↦ sym (edit_refused file e s passes rows_none (asked_found file e s) refl some) ∙ sym (unless_found editor (asked_found file e s) (facts whole) some)
      ]

  -- any other is refused by 24 to 26, and leaves all
  pub refusal : (Fits → ⊥) → refused editor (asked_found file e s).number (asked_found file e s).place ≡ edit_outcome file e s
  refusal out = edit_refused file e s passes rows_none (asked_found file e s) refl (λ z. out (fitting z))

  pub lent_state : (Fits → ⊥) → edit_state file e s ≡ s
  lent_state out = refused_lent file e s editor (asked_found file e s).number (asked_found file e s).place (sym (refusal out))

  pub taken_or_not : Fits ⊎ (Fits → ⊥)
  taken_or_not =
      elim (ℕ_discrete (asked_found file e s).number 0) [
        | yes z ↦ inl (fitting z)
        | no some ↦ inr (λ asked. some (no_number _ (edit_passes e.row e.place e.digit (length s.first) (digit_count file) asked)))
      ]

  -- what holds of the buffers written and of those lent holds of the buffers after the edit
  pub either_way : (P : State → Type 0) → (Fits → P (written file e s)) → P s → P (edit_state file e s)
  either_way P asked lent = elim taken_or_not [ inl is ↦ subst P (sym (taken_state is)) (asked is) | inr out ↦ subst P (sym (lent_state out)) lent ]

  pub step : Step file (length s.first) e s (edit_state file e s) (edit_outcome file e s)
  step =
      record {
        answers = subst (Answers (stage editor (edit_rules e.row e.place e.digit (length s.first) (digit_count file)) ∷ []) whole) (sym answer_is) (told_answers _ whole _ (told_unless editor _ _ whole _ _ (edit_decided e.row e.place e.digit (length s.first) (digit_count file)) (λ _. told_end whole)));
        taken = (λ is. fitting (unless_given editor (asked_found file e s) (facts whole) whole (sym answer_is ∙ is)).0, λ asked. given asked ∙ ap facts (facts_given asked));
        stored = λ asked. (ap (λ (t : State). t.first) (taken_state asked), ap (λ (t : State). t.second) (taken_state asked));
        elsewhere = λ j out. either_way (λ t. get_or t.sum j 0 ≡ get_or s.sum j 0) (λ asked. sum_elsewhere file e s (part_fits file e s passes fit asked) j out) refl;
        long = either_way (λ t. length t.sum ≡ length s.sum) (λ asked. sum_long file e s (part_fits file e s passes fit asked)) refl;
        refused_lent = λ g m p is. refused_lent file e s g m p is;
      }
