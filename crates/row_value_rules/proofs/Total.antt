-- Laws of the value from the top place down, for the function that runs it.
use mathlib.Core.Path.{◌≡◌, refl, sym, ap, ◌∙◌}
use mathlib.Core.Bool.{true, false}
use mathlib.Core.List.{List}
use Prim.Native.Nat.{ℕ, zero, suc, ◌-◌, ◌<◌, ◌≤◌}
use native.Mathlib.Decide.{dec_lt}
use native.Mathlib.Omega.{arith}
use lib.IntN.{ℤ}
use Rattle.ring.specs.Padded.{width}
use Rattle.ring.specs.Element.{zeros, plus}
use Rattle.numeration.specs.Elements.{elements}
use Rattle.numeration.specs.Laws.{HasParts}
use Rattle.numeration.proofs.Elements.{elements_group}
use Rattle.numeration.proofs.Sums.{base_none}
use Rattle.faults.specs.Outcome.{facts, refused, rows}
use Rattle.row_value_rules.specs.Total.{limited, next_total, worth_from}

le_zero : (left : ℕ) → left ≤ 0 → left ≡ 0
le_zero left none = omega arith

counted : (left : ℕ) → 0 < left → left ≡ suc (left - 1)
counted left some = omega arith

module _ (d : ℕ) (base : List (List ℤ)) (digit : ℕ → List ℤ) where
  pub worth_end : (total : List ℤ) → worth_from d base digit 0 total ≡ facts total
  unfolding worth_from
  worth_end total = refl

  worth_on : (p : ℕ) (total : List ℤ) → limited (next_total d base total (digit p)) ≡ true → worth_from d base digit (suc p) total ≡ worth_from d base digit p (next_total d base total (digit p))
  unfolding worth_from
  worth_on p total t = rw (t, worth_from)

  worth_over : (p : ℕ) (total : List ℤ) → limited (next_total d base total (digit p)) ≡ false → worth_from d base digit (suc p) total ≡ refused rows 28 p
  unfolding worth_from
  worth_over p total t = rw (t, worth_from)

  -- a total that was computed: the next place, or the last
  pub worth_next : (p : ℕ) (total next : List ℤ) → next ≡ next_total d base total (digit p) → limited next ≡ true → worth_from d base digit (suc p) total ≡ worth_from d base digit p next
  worth_next p total next is t = rw is (worth_on p total (rw is at t))

  pub worth_stops : (p : ℕ) (total next : List ℤ) → next ≡ next_total d base total (digit p) → limited next ≡ false → worth_from d base digit (suc p) total ≡ refused rows 28 p
  worth_stops p total next is t = worth_over p total (rw is at t)

  -- the same for a loop that counts the places left down
  pub turn : (left : ℕ) (total next : List ℤ) → 0 < left → next ≡ next_total d base total (digit (left - 1)) → limited next ≡ true → worth_from d base digit (left - 1) next ≡ worth_from d base digit left total
  turn left total next some is t =
      sym (ap (λ (k : ℕ). worth_from d base digit k total) (counted left some) ∙ worth_next (left - 1) total next is t)

  pub stop : (left : ℕ) (total next : List ℤ) → 0 < left → next ≡ next_total d base total (digit (left - 1)) → limited next ≡ false → refused rows 28 (left - 1) ≡ worth_from d base digit left total
  stop left total next some is t =
      sym (ap (λ (k : ℕ). worth_from d base digit k total) (counted left some) ∙ worth_stops (left - 1) total next is t)

  pub end : (left : ℕ) (total : List ℤ) → left ≤ 0 → facts total ≡ worth_from d base digit left total
  end left total none = sym (ap (λ (k : ℕ). worth_from d base digit k total) (le_zero left none) ∙ worth_end total)

-- a zero digit leaves the total zero
zeros_next : (d : ℕ) (base : List (List ℤ)) → zeros width ≡ next_total d base (zeros width) (zeros width)
unfolding elements
zeros_next d base =
    let g = elements_group d base in
    sym (ap (λ x. plus x (zeros width)) (base_none (elements d base) (HasParts width) g) ∙ g.unit g.element_none)

-- so zeros at the top change nothing
pub zeros_passed : (d : ℕ) (base : List (List ℤ)) (digit : ℕ → List ℤ) (left n : ℕ) → left ≤ n → ((k : ℕ) → left ≤ k → k < n → digit k ≡ zeros width) → worth_from d base digit left (zeros width) ≡ worth_from d base digit n (zeros width)
unfolding limited
zeros_passed d base digit left zero low none = ap (λ (k : ℕ). worth_from d base digit k (zeros width)) (le_zero left low)
zeros_passed d base digit left (suc n) low none =
    elim (dec_lt left (suc n)) [
      | yes l ↦ zeros_passed d base digit left n (omega arith) (λ k a b. none k a (omega arith)) ∙ sym (worth_next d base digit n (zeros width) (zeros width) (zeros_next d base ∙ ap (next_total d base (zeros width)) (sym (none n (omega arith) (omega arith)))) refl)
      | no l ↦ let same : left ≡ suc n = omega arith in ap (λ (k : ℕ). worth_from d base digit k (zeros width)) same
    ]
