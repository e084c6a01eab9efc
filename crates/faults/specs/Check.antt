-- Pinned by the laws of proofs/Rule.antt: a reader may skip this file. Checks run in their order, and the place is that of the first offender (document 01, "Who sends a fault").
use Rattle.std.specs.Prelude.{Bool, true, false, ℕ, zero, suc, eqb, ltb}
use Rattle.lists.specs.Scan.{first_failing}
use Rattle.faults.specs.declared.Refusal.{Refusal}

abbrev pub refusal : ℕ → ℕ → Refusal
refusal n p = record { number = n; place = p }

-- no rule is broken
abbrev pub none : Refusal
none = refusal 0 0

-- a rule that judges n things in turn, each by a test, the k-th of them at the place `at k`
unfoldable pub judge : ℕ → (ℕ → ℕ) → (ℕ → Bool) → ℕ → Refusal
judge number at test n = elim (ltb (first_failing test 0 n) n) [ true ↦ refusal number (at (first_failing test 0 n)) | false ↦ none ]

-- one check, and where it finds nothing the next
infixr 5 ◌then◌
unfoldable pub ◌then◌ : Refusal → Refusal → Refusal
a then b = elim (eqb a.number 0) [ true ↦ b | false ↦ a ]

-- n checks in turn, from the i-th on
unfoldable pub in_turn : (ℕ → Refusal) → ℕ → ℕ → Refusal
in_turn check i zero = none
in_turn check i (suc n) = check i then in_turn check (suc i) n
