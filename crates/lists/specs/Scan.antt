-- Pinned by the laws of proofs/Scan.antt: a reader may skip this file. The first place at which a test fails. Every rule of document 01 that names "the first offender" is stated by it.
use Rattle.std.specs.Prelude.{Bool, true, false, ℕ, zero, suc, ◌+◌, eqb}

-- of the n places from i on, the first at which the test fails; i + n where it passes at all of them
unfoldable pub first_failing : (ℕ → Bool) → ℕ → ℕ → ℕ
first_failing test i zero = i
first_failing test i (suc n) = elim (test i) [ true ↦ first_failing test (suc i) n | false ↦ i ]

-- the test passes at each of the n places from i on
unfoldable pub every : (ℕ → Bool) → ℕ → ℕ → Bool
every test i n = eqb (first_failing test i n) (i + n)
