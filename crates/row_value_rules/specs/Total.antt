-- Pinned by worth_exact and worth_outcome (proofs/Broken.antt): a reader may skip this file. The value of a row from the top place
-- down, with rule 28, as it is computed.
use Rattle.std.specs.Prelude.{Bool, true, false, ◌&&◌, List, [], ◌∷◌, ℕ, zero, suc, length, get_or, ℤ, nat_abs, leb}
use Rattle.ring.specs.Degree.{part_count}
use Rattle.ring.specs.Padded.{width, padded_times}
use Rattle.ring.specs.Element.{zeros, plus}
use Rattle.faults.specs.declared.Refusal.{Refusal}
use Rattle.faults.specs.Check.{refusal, none}
use Rattle.faults.specs.Outcome.{Outcome, facts, refused, rows}
use Rattle.layout_rules.specs.Section.{Section}
use Rattle.digit_rules.specs.Record.{record_at}

-- a part of a total is within ±2,147,483,647
abbrev pub total_limit : ℕ
total_limit = 2147483647

unfoldable pub limited : List ℤ → Bool
limited [] = true
limited (a ∷ x) = leb (nat_abs a) total_limit && limited x

-- the digit at a place of a row
abbrev pub place_digit : Section → List ℕ → ℕ → List ℤ
place_digit alphabet row p = record_at alphabet (get_or row p 0)

-- base times total plus digit
abbrev pub next_total : ℕ → List (List ℤ) → List ℤ → List ℤ → List ℤ
next_total d base total digit = plus (padded_times d base total) digit

-- on from a total over the p lowest places: the value, or 28 at the place of the digit just added
unfoldable pub worth_from : ℕ → List (List ℤ) → (ℕ → List ℤ) → ℕ → List ℤ → Outcome (List ℤ)
worth_from d base digit zero total = facts total
worth_from d base digit (suc p) total =
    elim (limited (next_total d base total (digit p))) [
      | true ↦ worth_from d base digit p (next_total d base total (digit p))
      | false ↦ refused rows 28 p
    ]

-- "starting from zero and from the top place down"
unfoldable pub worth_of : List (List ℤ) → Section → List ℕ → Outcome (List ℤ)
worth_of base alphabet row = worth_from (part_count alphabet.degree) base (place_digit alphabet row) (length row) (zeros width)

-- the outcome as what a stage finds
unfoldable pub refusal_of : {F : Type 0} → Outcome F → Refusal
refusal_of (facts x) = none
refusal_of (refused whose n p) = refusal n p

unfoldable pub worth_check : List (List ℤ) → Section → List ℕ → Refusal
worth_check base alphabet row = refusal_of (worth_of base alphabet row)
