-- The numbers that the papers bound are far below 2^63, so that each is its own word.
use mathlib.Core.Path.{◌≡◌, refl, ap}
use mathlib.Core.Bool.{Bool, true, false}
use mathlib.Core.List.{List, [], ◌∷◌}
use Prim.Native.Nat.{ℕ, zero, suc, ◌^◌, ◌<◌, ◌≤◌}
use native.Mathlib.Omega.{arith}
use lib.IntN.{pos}
use Rattle.lists.proofs.Cons.{cons≡}
use Rattle.faults.specs.Outcome.{Group, group_number, facts, author}
use Rattle.calls.proofs.Answers.{unless_given}
use Rattle.answer_rules.specs.Fault.{refusal_words}
use Rattle.answer_rules.proofs.Bits.{word_small}
use Rattle.reader_rules.specs.Check.{table_check}
use Rattle.reader_rules.proofs.Ready.{ready_passed}
use Rattle.row_rules.specs.declared.Change.{Change}
use Rattle.table_rules.specs.declared.Facts.{Facts}
use Rattle.table_rules.specs.Check.{check_facts, check_outcome}
use Rattle.table_rules.proofs.Demand.{demand_1}
use Rattle.adder_rules.specs.declared.AddedFacts.{AddedFacts}
use Rattle.ring.specs.declared.Degree.{Degree}
use Rattle.ring.specs.declared.Operation.{Operation}
use Rattle.adder_rules.specs.Add.{result_outcome}
use Rattle.adder_rules.proofs.Demand.{demand_1 as add_demand_1}
use Rattle.adder_rules.proofs.Combined.{passed}
use Rattle.adder_rules.proofs.Reach.{result_reach}
use Rattle.forecast_rules.specs.declared.ForecastFacts.{ForecastFacts}
use Rattle.forecast_rules.specs.Forecast.{forecast_outcome}
use Rattle.forecast_rules.proofs.Facts.{most_pairs, most_bytes}
use Rattle.forecast_rules.proofs.Other.{check_agrees}
use Rattle.bad_row_rules.specs.Shows.{RowFacts, row, nothing}
use Rattle.bad_row_rules.specs.BadRow.{bad_row_outcome}
use Rattle.bad_row_rules.proofs.Row.{told_passes, bytes_few, row_of}
use Rattle.edit_rules.specs.declared.EditedFacts.{EditedFacts}
use Rattle.edit_rules.specs.Count.{tally, failing}
use Rattle.edit_rules.specs.Edit.{count, edit_outcome}
use Rattle.edit_rules.specs.State.{State, renewed_count}
use Rattle.edit_rules.proofs.Demand.{demand_1 as edit_demand_1}
use Rattle.edit_rules.proofs.Reach.{edit_reach}
use Rattle.answer_rules.specs.Answer.{element_words, check_words, forecast_words, bad_row_words, add_words, edit_words}

-- a fault's number and place
pub fault_words : (g : Group) (n p : ℕ) → n < 2 ^ 63 → p < 2 ^ 63 → refusal_words g n p ≡ pos (group_number g) ∷ pos n ∷ pos p ∷ []
fault_words g n p h l = cons≡ refl (cons≡ (word_small n h) (cons≡ (word_small p l) refl))

-- the number of fitting pairs and n + h of a forecast that isn't refused
pub forecast_words_lem : (table : List ℕ) (n : ℕ) (f : ForecastFacts) → forecast_outcome table n ≡ facts f → forecast_words f ≡ pos f.pairs ∷ pos f.bytes ∷ []
forecast_words_lem table n f is =
    cons≡ (word_small _ (omega (arith, most_pairs table n f is))) (cons≡ (word_small _ (omega (arith, most_bytes table n f is))) refl)

-- how many bytes the string has, U and L, where a row is shown
pub bad_row_words_lem : (d : Degree) (table : List ℕ) (f : RowFacts) → bad_row_outcome table ≡ facts (row f)
    → bad_row_words d (row f) ≡ pos f.bytes ∷ pos f.upper ∷ pos f.lower ∷ element_words d f.digit
bad_row_words_lem d table f is =
    let there = (row_of table f is []).fails.0 in
    let few = (ready_passed table (told_passes table (row f) is)).leaf_count_within.1 in
    cons≡ (word_small _ (omega (arith, (bytes_few table f is).1)))
    (cons≡ (word_small _ (omega (arith, there.0, few))) (cons≡ (word_small _ (omega (arith, there.1, few))) refl))

-- where there is nothing to show, the count 0 alone
pub nothing_words : (d : Degree) → bad_row_words d nothing ≡ pos 0 ∷ []
nothing_words d = cons≡ (word_small 0 (omega arith)) refl

-- h, leaf count, alphabet size and the number of fitting pairs of an accepted table; the forecast of the same table bounds the pairs
pub check_words_lem : (file : List ℕ) (f : Facts) → check_outcome file ≡ facts f → check_words f ≡ pos f.depth ∷ pos f.leaves ∷ pos f.digits ∷ pos f.pairs ∷ []
unfolding check_outcome check_facts
check_words_lem file f is =
    let r = ready_passed file (unless_given author (table_check file) _ f is).0 in
    let few = most_pairs file 0 _ (check_agrees file f is 0 (omega arith)) in
    let same = (demand_1 file).only_facts f is in
    cons≡ (word_small _ (omega (arith, ap (λ (g : Facts). g.depth) same, r.depth_high)))
    (cons≡ (word_small _ (omega (arith, ap (λ (g : Facts). g.leaves) same, r.leaf_lies.counts, r.leaf_count_within.1)))
    (cons≡ (word_small _ (omega (arith, ap (λ (g : Facts). g.digits) same, r.alphabet_lies.counts, r.alphabet_count.1)))
    (cons≡ (word_small _ (omega (arith, few))) refl)))

-- n + h and the reach of an addition that isn't refused
pub add_words_lem : (op : Operation) (file first second : List ℕ) (room : ℕ) (f : AddedFacts) → result_outcome op file first second room ≡ facts f → add_words f ≡ pos f.places ∷ pos f.reach ∷ []
add_words_lem op file first second room f is =
    let ok = passed op file first second room f is in
    let shallow = (ready_passed file ok.table).depth_high in
    cons≡ (word_small _ (omega (arith, ap (λ (a : AddedFacts). a.places) ((add_demand_1 op file first second room).only_facts f is), ok.fit.short))) (cons≡ (word_small _ (omega (arith, (result_reach op file first second room f is).most))) refl)

-- the count and the reach of an edit that is taken
tally_most : (b : Bool) (n : ℕ) → tally b n ≤ suc n
unfolding tally
tally_most true n = omega arith
tally_most false n = omega arith

most_fail : (test : ℕ → Bool) (i n : ℕ) → failing test i n ≤ n
unfolding failing
most_fail test i zero = omega arith
most_fail test i (suc n) = omega (arith, tally_most (test i) (failing test (suc i) n), most_fail test (suc i) n)

pub edit_words_lem : (file : List ℕ) (e : Change) (s : State) (f : EditedFacts) → edit_outcome file e s ≡ facts f → edit_words f ≡ pos f.count ∷ pos f.reach ∷ []
unfolding edit_outcome count
edit_words_lem file e s f is =
    let r = ready_passed file (unless_given author (table_check file) _ f is).0 in
    let most : count file e s ≤ renewed_count file = most_fail _ e.place (renewed_count file) in
    cons≡ (word_small _ (omega (arith, ap (λ (a : EditedFacts). a.count) ((edit_demand_1 file e s).only_facts f is), r.depth_high))) (cons≡ (word_small _ (omega (arith, r.depth_high, (edit_reach file e s f is).most))) refl)
