-- The value call's last step: an element exactly where no total passes the limit, and then the row's value; 28 at the highest
-- place where one does.
use mathlib.Core.Path.{◌≡◌, refl, sym, ap, subst, ◌∙◌}
use mathlib.Core.Bool.{Bool, true, false}
use mathlib.Core.List.{List}
use mathlib.Core.Logic.{◌↔◌, inl}
use Prim.Native.Nat.{ℕ, zero, suc, ◌<◌, ◌≤◌}
use native.Mathlib.Decide.{dec_lt}
use native.Mathlib.Nat.{le_antisymm}
use native.Mathlib.Omega.{arith}
use lib.ListN.{length, length-map, get_or-map, drop_of_length-le}
use lib.Seq.{drop-cons}
use lib.IntN.{ℤ}
use Rattle.ring.specs.Degree.{part_count}
use Rattle.ring.specs.Padded.{width}
use Rattle.ring.specs.Element.{zeros}
use Rattle.ring.proofs.Parts.{within_part}
use Rattle.numeration.specs.Value.{value, top_down}
use Rattle.numeration.specs.Laws.{HasParts}
use Rattle.numeration.specs.Elements.{elements}
use Rattle.numeration.proofs.Elements.{elements_group}
use Rattle.numeration.proofs.Sums.{elements_map, value_top_down}
use Rattle.faults.specs.Outcome.{Outcome, facts, refused, rows}
use Rattle.faults.specs.Check.{refusal, none}
use Rattle.faults.specs.Unless.{unless}
use Rattle.faults.specs.Exact.{Exact}
use Rattle.faults.proofs.Unless.{unless_found, unless_none}
use Rattle.faults.proofs.Rule.{Decided, passes, refuses, exact}
use Rattle.layout_rules.specs.Section.{Section}
use Rattle.digit_rules.specs.Record.{record_at}
use Rattle.digit_rules.proofs.Record.{element_parts}
use Rattle.row_value_rules.specs.Total.{total_limit, limited, place_digit, next_total, worth_from, worth_of, refusal_of, worth_check}
use Rattle.row_value_rules.specs.Broken.{digits_of, total_at, OutsideAt, Broken28, value_rules}
use Rattle.row_value_rules.proofs.Limit.{limited_within, limited_fails}
use Rattle.row_value_rules.proofs.Total.{worth_end, worth_next, worth_stops}

-- the totals at places a to i − 1 are within the limit
Limited : (ℕ → List ℤ) → ℕ → ℕ → Type 0
Limited total a i = (q : ℕ) → a ≤ q → q < i → limited (total q) ≡ true

limited_more : (total : ℕ → List ℤ) (a i : ℕ) → limited (total i) ≡ true → Limited total a i → Limited total a (suc i)
unfolding Limited
limited_more total a i t all q low l =
    elim (dec_lt q i) [
      | yes m ↦ all q low m
      | no m ↦ subst (λ (k : ℕ). limited (total k) ≡ true) (le_antisymm {n = i} {m = q} (omega arith) (omega arith)) t
    ]

limited_none : (total : ℕ → List ℤ) (i : ℕ) → Limited total i i
unfolding Limited
limited_none total i q low l = absurd (nothing low l)
  where
    nothing : i ≤ q → q < i → ⊥
    nothing low l = omega arith

-- where the i lowest places lead, from the totals at each place
data Lead (total : ℕ → List ℤ) (i : ℕ) (outcome : Outcome (List ℤ)) : Type 0 where
  whole : outcome ≡ facts (total 0) → Limited total 0 i → Lead total i outcome
  stopped : (p : ℕ) → p < i → outcome ≡ refused rows 28 p → limited (total p) ≡ false → Limited total (suc p) i → Lead total i outcome

module _ (d : ℕ) (base : List (List ℤ)) (digit total : ℕ → List ℤ) (n : ℕ) (next : (p : ℕ) → p < n → total p ≡ next_total d base (total (suc p)) (digit p)) where
  leads : (i : ℕ) → i ≤ n → Lead total i (worth_from d base digit i (total i))
  leads zero h = whole (worth_end d base digit (total 0)) (limited_none total 0)
  leads (suc i) h = go (limited (total i)) refl (leads i (omega arith))
    where
      go : (b : Bool) → limited (total i) ≡ b → Lead total i (worth_from d base digit i (total i)) → Lead total (suc i) (worth_from d base digit (suc i) (total (suc i)))
      go false t below =
          stopped i (omega arith) (worth_stops d base digit i (total (suc i)) (total i) (next i h) t) t (limited_none total (suc i))
      go true t (whole e all) =
          whole (worth_next d base digit i (total (suc i)) (total i) (next i h) t ∙ e) (limited_more total 0 i t all)
      go true t (stopped p l e f all) =
          stopped p (omega arith) (worth_next d base digit i (total (suc i)) (total i) (next i h) t ∙ e) f (limited_more total (suc p) i t all)

module _ (base : List (List ℤ)) (alphabet : Section) (row : List ℕ) where
  total : ℕ → List ℤ
  total p = total_at base alphabet row p

  total_next : (p : ℕ) → p < length row → total p ≡ next_total (part_count alphabet.degree) base (total (suc p)) (place_digit alphabet row p)
  unfolding total top_down elements
  total_next p h =
      ap (top_down (elements (part_count alphabet.degree) base)) (drop-cons (digits_of alphabet row) p (record_at alphabet 0) (rw (length-map row (record_at alphabet)) h))
      ∙ ap (λ d. next_total (part_count alphabet.degree) base (total (suc p)) d) (get_or-map (record_at alphabet) row p 0)

  total_top : total (length row) ≡ zeros width
  unfolding total top_down elements
  total_top =
      ap (top_down (elements (part_count alphabet.degree) base)) (drop_of_length-le (digits_of alphabet row) {i = length row} (omega (arith, length-map row (record_at alphabet))))

  lead : Lead total (length row) (worth_of base alphabet row)
  unfolding worth_of
  lead = rw (← total_top) (leads (part_count alphabet.degree) base (place_digit alphabet row) total (length row) total_next (length row) (omega arith))

  -- the test of a total and the plain statement
  outside_fails : (p : ℕ) → OutsideAt base alphabet row p → limited (total p) ≡ true → ⊥
  unfolding total
  outside_fails p b t = omega (arith, b.1.1, within_part total_limit (total_at base alphabet row p) (limited_within _ t) b.1.0)

  fails_outside : (p : ℕ) → p < length row → limited (total p) ≡ false → OutsideAt base alphabet row p
  unfolding total
  fails_outside p h t = (h, limited_fails _ t)

  -- an answer with what it rests on
  data Reached (outcome : Outcome (List ℤ)) : Type 0 where
    whole_row : outcome ≡ facts (total_at base alphabet row 0) → ((q : ℕ) → ¬ (OutsideAt base alphabet row q)) → Reached outcome
    broken_at : (p : ℕ) → outcome ≡ refused rows 28 p → Broken28 base alphabet row p → Reached outcome

  reached : Reached (worth_of base alphabet row)
  unfolding total Limited
  reached = go lead
    where
      go : Lead total (length row) (worth_of base alphabet row) → Reached (worth_of base alphabet row)
      go (whole e all) = whole_row e (λ q b. outside_fails q b (all q (omega arith) b.0))
      go (stopped p l e f all) = broken_at p e (fails_outside p l f, λ q h b. outside_fails q b (all q h b.0))

  -- one highest place
  one_highest : (p q : ℕ) → Broken28 base alphabet row p → Broken28 base alphabet row q → p ≡ q
  one_highest p q b d =
      elim (dec_lt p q) [
        | yes h ↦ absurd (b.1 q h d.0)
        | no h ↦ elim (dec_lt q p) [ yes l ↦ absurd (d.1 p l b.0) | no l ↦ le_antisymm (omega arith) (omega arith) ]
      ]

  -- 28 exactly at the highest place with which a total has a part outside the limit
  pub refused_exactly : (p : ℕ) → (worth_of base alphabet row ≡ refused rows 28 p) ↔ Broken28 base alphabet row p
  refused_exactly p = go reached
    where
      go : Reached (worth_of base alphabet row) → (worth_of base alphabet row ≡ refused rows 28 p) ↔ Broken28 base alphabet row p
      go (whole_row e kept) = (λ r. absurd (apart (sym e ∙ r)), λ b. absurd (kept p b.0))
        where
          apart : ◌≡◌ {A = Outcome (List ℤ)} (facts (total_at base alphabet row 0)) (refused rows 28 p) → ⊥
          apart r = let z : ◌≡◌ {A = ℕ} 0 1 = cc in omega arith
      go (broken_at q e b) = (λ r. subst (Broken28 base alphabet row) (same (sym e ∙ r)) b, λ d. e ∙ ap (refused rows 28) (one_highest q p b d))
        where
          same : ◌≡◌ {A = Outcome (List ℤ)} (refused rows 28 q) (refused rows 28 p) → q ≡ p
          same r = cc

  -- an element exactly where no total has such a part, and then base times total plus digit from the top place down
  pub element_exactly : (x : List ℤ) → (worth_of base alphabet row ≡ facts x) ↔ ((x ≡ top_down (elements (part_count alphabet.degree) base) (digits_of alphabet row)) × ((p : ℕ) → ¬ (OutsideAt base alphabet row p)))
  element_exactly x = go reached
    where
      go : Reached (worth_of base alphabet row) → (worth_of base alphabet row ≡ facts x) ↔ ((x ≡ top_down (elements (part_count alphabet.degree) base) (digits_of alphabet row)) × ((p : ℕ) → ¬ (OutsideAt base alphabet row p)))
      go (whole_row e kept) = (λ r. (same (sym r ∙ e), kept), λ w. e ∙ ap facts (sym w.0))
        where
          same : ◌≡◌ {A = Outcome (List ℤ)} (facts x) (facts (total_at base alphabet row 0)) → x ≡ total_at base alphabet row 0
          same r = cc
      go (broken_at q e b) = (λ r. absurd (apart (sym r ∙ e)), λ w. absurd (w.1 q b.0))
        where
          apart : ◌≡◌ {A = Outcome (List ℤ)} (facts x) (refused rows 28 q) → ⊥
          apart r = let z : ◌≡◌ {A = ℕ} 0 1 = cc in omega arith

  -- Where the value call gives an element, it is the value of the row: the sum of its digits, each times the base to the power of
  -- its place
  pub element_is_value : (x : List ℤ) → worth_of base alphabet row ≡ facts x → x ≡ value (elements (part_count alphabet.degree) base) (digits_of alphabet row)
  element_is_value x e =
      ((element_exactly x).0 e).0 ∙ sym (value_top_down (elements (part_count alphabet.degree) base) (HasParts width) (elements_group (part_count alphabet.degree) base) (digits_of alphabet row)
      (elements_map (elements (part_count alphabet.degree) base) (HasParts width) (elements_group (part_count alphabet.degree) base) (record_at alphabet) (λ i. element_parts alphabet _) row))

  -- Demand 1 for rule 28, in a list of rules
  pub worth_decided : Decided (value_rules base alphabet row) (worth_check base alphabet row)
  unfolding worth_check refusal_of
  worth_decided = go reached
    where
      go : Reached (worth_of base alphabet row) → Decided (value_rules base alphabet row) (refusal_of (worth_of base alphabet row))
      go (whole_row e kept) = rw e (passes refl (λ p b. kept p b.0, tt))
      go (broken_at q e b) = rw e (refuses (omega arith) (inl (refl, record { broken = b; earliest = λ p h d. d.1 q h b.0 })))

pub worth_exact : (base : List (List ℤ)) (alphabet : Section) (row : List ℕ) → Exact (value_rules base alphabet row) (worth_check base alphabet row)
worth_exact base alphabet row = exact _ _ (worth_decided base alphabet row)

-- the outcome as a check and what follows: 28 in the rows' name, else the value
pub worth_outcome : (base : List (List ℤ)) (alphabet : Section) (row : List ℕ) → worth_of base alphabet row ≡ unless rows (worth_check base alphabet row) (facts (value (elements (part_count alphabet.degree) base) (digits_of alphabet row)))
unfolding worth_check refusal_of
worth_outcome base alphabet row = go (reached base alphabet row)
  where
    go : Reached base alphabet row (worth_of base alphabet row) → worth_of base alphabet row ≡ unless rows (refusal_of (worth_of base alphabet row)) (facts (value (elements (part_count alphabet.degree) base) (digits_of alphabet row)))
    go (whole_row e kept) = rw e (ap facts (element_is_value base alphabet row _ e) ∙ sym (unless_none rows none _ refl))
    go (broken_at p e b) = rw e (sym (unless_found rows (refusal 28 p) _ (λ z. omega arith)))
