-- The edit of rows that pass 20 to 26: what its parts are given, the sum with its part renewed, and the count.
use mathlib.Core.Path.{◌≡◌, refl, sym, ap, ap₂, ◌∙◌}
use mathlib.Core.List.{List, ◌++◌}
use Prim.Native.Nat.{ℕ, ◌+◌, ◌-◌, ◌<◌, ◌≤◌}
use native.Mathlib.Nat.{zero-add}
use native.Mathlib.Omega.{arith}
use lib.ListN.{length, get_or, take, drop, length-drop}
use lib.Seq.{drop-drop, length-take-le, get_or-take, get_or-drop}
use lib.Dec.{eqb}
use Rattle.lists.specs.Scan.{first_failing}
use Rattle.lists.specs.Overwrite.{overwrite}
use Rattle.lists.proofs.Span.{length_span}
use Rattle.faults.specs.declared.Refusal.{Refusal}
use Rattle.faults.specs.Check.{refusal, none}
use Rattle.faults.specs.Outcome.{Group, Outcome, facts, refused, author}
use Rattle.faults.specs.Unless.{unless}
use Rattle.faults.proofs.Exit.{exit_lent, exit_written}
use Rattle.faults.proofs.Unless.{unless_found, unless_none}
use Rattle.numeration.specs.Code.{Inputs}
use Rattle.ring.specs.declared.Operation.TheVariants.{Plus}
use Rattle.digit_rules.proofs.Formed.{nothing_asked}
use Rattle.reader_rules.specs.Table.{input_count}
use Rattle.reader_rules.specs.TableFacts.{table_facts}
use Rattle.reader_rules.specs.Check.{table_check}
use Rattle.reader_rules.proofs.Ready.{ready_passed}
use Rattle.row_rules.specs.declared.Change.{Change}
use Rattle.row_rules.specs.Changed.{changed}
use Rattle.row_rules.specs.Fit.{EditFits}
use Rattle.row_rules.specs.Rows.{RowsFit}
use Rattle.row_rules.proofs.Changed.{length_changed, changed_fit}
use Rattle.place_rules.specs.Helpers.{part_row}
use Rattle.lists.proofs.Entries.{overwrite_in}
use Rattle.adder_rules.specs.Sum.{digit_count, row_reach}
use Rattle.adder_rules.specs.Input.{input_of, row_index}
use Rattle.adder_rules.specs.Add.{row_allowed, row_part, output_check}
use Rattle.adder_rules.proofs.Rows.{part_inputs, part_same}
use Rattle.adder_rules.proofs.Part.{check_refused, check_kept, reach_found, part_found, part_room}
use Rattle.edit_rules.specs.declared.EditedFacts.{EditedFacts}
use Rattle.edit_rules.specs.Count.{differing}
use Rattle.edit_rules.specs.Edit.{new_sum, written, count, renew_facts, renew_outcome, renew_state}
use Rattle.edit_rules.specs.State.{new_inputs, State, renewed_count}
use Rattle.edit_rules.proofs.Count.{failing_ext}

-- the digits at a count of places
pub part_long : (file row : List ℕ) (p n : ℕ) → length (row_part file row p n) ≡ n
unfolding row_part
part_long file row p n = length_span (λ k. row_index file row (p + k)) 0 n

module _ (file : List ℕ) (e : Change) (s : State) where
  -- 27 over p to p + h, and the buffers
  pub renew_refused : (place : ℕ) → output_check file (new_inputs file e s) e.place (renewed_count file) ≡ refusal 27 place → refused author 27 place ≡ renew_outcome file e s
  unfolding renew_outcome
  renew_refused place is =
      let given : Outcome EditedFacts = facts (renew_facts file e s) in
      sym (ap (λ (r : Refusal). unless author r given) is ∙ unless_found author (refusal 27 place) given (λ z. omega (arith, z)))

  pub renew_given : (f : EditedFacts) → f ≡ renew_facts file e s → output_check file (new_inputs file e s) e.place (renewed_count file) ≡ none → facts f ≡ renew_outcome file e s
  unfolding renew_outcome
  renew_given f c is =
      let given : Outcome EditedFacts = facts (renew_facts file e s) in
      ap facts c ∙ sym (ap (λ (r : Refusal). unless author r given) is ∙ unless_none author none given refl)

  pub renew_lent : (g : Group) (n p : ℕ) → refused g n p ≡ renew_outcome file e s → s ≡ renew_state file e s
  unfolding renew_state
  renew_lent g n p o = exit_lent (renew_outcome file e s) g n p s (written file e s) o

  pub renew_written : (f : EditedFacts) → facts f ≡ renew_outcome file e s → written file e s ≡ renew_state file e s
  unfolding renew_state
  renew_written f o = exit_written (renew_outcome file e s) f s (written file e s) o

  -- the sum after its part from p on, of d + 1 places, was rewritten
  module _ (fits : e.place + renewed_count file ≤ length s.sum) (d : ℕ) (deep : d ≡ (table_facts file).depth) where
    abbrev lent_part : List ℕ
    lent_part = take (e.place + d + 1 - e.place) (drop e.place s.sum)

    abbrev new_part : List ℕ
    new_part = row_part file (new_inputs file e s) e.place (renewed_count file)

    size : e.place + d + 1 - e.place ≡ renewed_count file
    size = omega (arith, deep)

    long : length new_part ≡ renewed_count file
    long = part_long file (new_inputs file e s) e.place (renewed_count file)

    pub lent_long : length lent_part ≡ renewed_count file
    lent_long = length-take-le _ (drop e.place s.sum) (omega (arith, size, length-drop e.place s.sum)) ∙ size

    pub sum_renewed : (last : List ℕ) → last ≡ new_part → take e.place s.sum ++ (last ++ drop (e.place + d + 1 - e.place) (drop e.place s.sum)) ≡ new_sum file e s
    unfolding new_sum overwrite
    sum_renewed last is =
        (λ i. take e.place s.sum ++ (is i ++ drop (size i) (drop e.place s.sum)))
        ∙ ap (λ (x : List ℕ). take e.place s.sum ++ (new_part ++ x)) (drop-drop (renewed_count file) e.place s.sum ∙ ap (λ (n : ℕ). drop (e.place + n) s.sum) (sym long))

    -- bytes of the part are bytes of the sum
    lent_at : (k : ℕ) → k < renewed_count file → get_or lent_part (0 + k) 0 ≡ get_or s.sum (e.place + k) 0
    lent_at k h =
        ap (λ (n : ℕ). get_or lent_part n 0) (zero-add k) ∙ get_or-take (e.place + d + 1 - e.place) (drop e.place s.sum) k 0 (omega (arith, size)) ∙ get_or-drop e.place s.sum k 0

    new_at : (k : ℕ) → k < renewed_count file → get_or new_part (0 + k) 0 ≡ get_or (new_sum file e s) (e.place + k) 0
    unfolding new_sum
    new_at k h =
        ap (λ (n : ℕ). get_or new_part n 0) (zero-add k) ∙ sym (overwrite_in s.sum new_part e.place (omega (arith, long)) k (omega (arith, long)))

    pub count_is : (digits : List ℕ) → digits ≡ new_part → differing lent_part digits 0 (length lent_part) ≡ count file e s
    unfolding count
    count_is digits is =
        (λ i. differing lent_part (is i) 0 (lent_long i))
        ∙ failing_ext (λ k. eqb (get_or lent_part k 0) (get_or new_part k 0)) (λ k. eqb (get_or s.sum k 0) (get_or (new_sum file e s) k 0)) 0 e.place (renewed_count file) (λ k h. ap₂ eqb (lent_at k h) (new_at k h))

module _ (file : List ℕ) (e : Change) (s : State) (passes : (table_check file).number ≡ 0)
    (fit : RowsFit s.first s.second (length s.sum) (digit_count file) (table_facts file).depth)
    (asked : EditFits e.row e.place e.digit (length s.first) (digit_count file)) where
  pub new_fit : RowsFit (changed e 0 s.first) (changed e 1 s.second) (length s.sum) (digit_count file) (table_facts file).depth
  new_fit = changed_fit e s.first s.second (length s.sum) (digit_count file) (table_facts file).depth fit asked.index

  pub shallow : (table_facts file).depth ≤ 8
  shallow = (ready_passed file passes).depth_high

  pub part_fits : e.place + renewed_count file ≤ length s.sum
  part_fits = omega (arith, asked.in_row, fit.room)

  -- the part of the row of input indexes that the digits at p to p + h depend on
  module _ (from end d : ℕ) (deep : d ≡ (table_facts file).depth) (low : from ≡ e.place - d) (above : e.place < end) (high : end ≤ length s.first)
      (far : (k : ℕ) → k ≤ e.place + d → k < length s.first → k < end) where
    pub bytes_asked : (from ≤ end) × (end ≤ 256) × ((k : ℕ) → k < end → get_or (changed e 0 s.first) k 0 < digit_count file) × ((k : ℕ) → k < end → get_or (changed e 1 s.second) k 0 < digit_count file)
    bytes_asked =
        (omega arith, omega (arith, fit.short), λ k h. new_fit.first_indexes k (omega (arith, length_changed e 0 s.first)), λ k h. new_fit.second_indexes k (omega (arith, length_changed e 1 s.second, fit.same_length)))

    module _ (row : List ℕ) (is : row ≡ part_row (input_of Plus file (changed e 0 s.first) (changed e 1 s.second)) from end) where
      inside : end ≤ length (changed e 0 s.first)
      inside = omega (arith, length_changed e 0 s.first)

      pub row_inputs : Inputs (input_count file) row
      row_inputs =
          rw is (part_inputs Plus file (changed e 0 s.first) (changed e 1 s.second) (length s.sum) passes (nothing_asked _ _) new_fit from end (omega arith) inside)

      pub row_same : (k : ℕ) → e.place ≤ k + (table_facts file).depth → k < e.place + renewed_count file → get_or row k 0 ≡ get_or (new_inputs file e s) k 0
      row_same k near below =
          ap (λ (r : List ℕ). get_or r k 0) is
          ∙ part_same Plus file (changed e 0 s.first) (changed e 1 s.second) (length s.sum) passes (nothing_asked _ _) new_fit from end (omega arith) inside k (omega arith) (λ h. far k (omega arith) (omega (arith, length_changed e 0 s.first)))

-- the digits that were found, from a row of input indexes that is the new one where they depend on it
module _ (file : List ℕ) (e : Change) (s : State) (row : List ℕ) (same : (k : ℕ) → e.place ≤ k + (table_facts file).depth → k < e.place + renewed_count file → get_or row k 0 ≡ get_or (new_inputs file e s) k 0)
    (d : ℕ) (deep : d ≡ (table_facts file).depth) (found : ℕ) (first_outside : found ≡ first_failing (λ k. row_allowed file row (e.place + k)) 0 (d + 1)) where
  at : found ≡ first_failing (λ k. row_allowed file row (e.place + k)) 0 (renewed_count file)
  at = first_outside ∙ ap (λ (n : ℕ). first_failing (λ k. row_allowed file row (e.place + k)) 0 (n + 1)) deep

  pub outside_found : found ≤ d → refused author 27 (e.place + found) ≡ renew_outcome file e s
  outside_found h =
      renew_refused file e s (e.place + found) (check_refused file row (new_inputs file e s) e.place (renewed_count file) same found at (omega arith))

  pub none_outside : d < found → output_check file (new_inputs file e s) e.place (renewed_count file) ≡ none
  none_outside h = check_kept file row (new_inputs file e s) e.place (renewed_count file) same found at (omega arith)

  pub reached : d < found → row_reach file row e.place found ≡ row_reach file (new_inputs file e s) e.place (renewed_count file)
  reached h = reach_found file row (new_inputs file e s) e.place (renewed_count file) same found at (omega arith)

  pub digits_found : (t : List ℕ) → d < found → take (d + 1) (overwrite t 0 (row_part file row e.place found)) ≡ row_part file (new_inputs file e s) e.place (renewed_count file)
  digits_found t h =
      ap (λ (n : ℕ). take (n + 1) (overwrite t 0 (row_part file row e.place found))) deep ∙ part_found file row (new_inputs file e s) e.place (renewed_count file) same found at t (omega arith)

  pub digits_room : (t : List ℕ) → d < length t → length (overwrite t 0 (row_part file row e.place found)) ≡ length t
  digits_room t h = part_room file row (new_inputs file e s) e.place (renewed_count file) same found at t (omega arith)
