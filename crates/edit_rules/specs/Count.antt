-- How many bytes of two buffers differ (document 01, "Digit edit": the count).
use Rattle.std.specs.Prelude.{Bool, true, false, List, ℕ, zero, suc, get_or, eqb}

-- one more where a test fails
unfoldable pub tally : Bool → ℕ → ℕ
tally true n = n
tally false n = suc n

-- at how many of the n places from i on a test fails
unfoldable pub failing : (ℕ → Bool) → ℕ → ℕ → ℕ
failing test i zero = 0
failing test i (suc n) = tally (test i) (failing test (suc i) n)

-- at how many of the n places from i on two buffers have different bytes
abbrev pub differing : List ℕ → List ℕ → ℕ → ℕ → ℕ
differing a b i n = failing (λ k. eqb (get_or a k 0) (get_or b k 0)) i n
