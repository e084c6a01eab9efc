-- For helpers' contracts only: sets of numbers below 64 as 64-bit numbers.
use Rattle.std.specs.Prelude.{◌≡◌, ℕ, ◌/◌, ◌%◌, ◌^◌}

-- a number is in a set
unfoldable pub Has : ℕ → ℕ → Type 0
Has set j = set / 2 ^ j % 2 ≡ 1
