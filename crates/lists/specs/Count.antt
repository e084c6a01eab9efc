-- Pinned by pairs_once (proofs/Count.antt): a reader may skip this file. Numbers that pass a test, counted.
use Rattle.std.specs.Prelude.{Bool, true, false, ℕ, zero, suc, ◌+◌}

-- the sum of the n numbers f 0, f 1, ..
unfoldable pub total : (ℕ → ℕ) → ℕ → ℕ
total f zero = 0
total f (suc n) = total f n + f n

-- how many of the n numbers 0, 1, .. pass a test
unfoldable pub count : (ℕ → Bool) → ℕ → ℕ
count test zero = 0
count test (suc n) = elim (test n) [ true ↦ suc (count test n) | false ↦ count test n ]
