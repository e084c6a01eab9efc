-- For helpers' contracts only: a string of digits as a number in a base, its first digit the highest.
use Rattle.std.specs.Prelude.{ℕ, zero, suc, ◌+◌, ◌-◌, ◌*◌, ◌^◌, ◌<◌}

-- the first n digits of a string
unfoldable pub number : ℕ → (ℕ → ℕ) → ℕ → ℕ
number b w zero = 0
number b w (suc n) = number b w n * b + w n

-- the first n digits, at most eight, with zeros behind up to eight
unfoldable pub aligned : ℕ → (ℕ → ℕ) → ℕ → ℕ
aligned b w n = number b w n * b ^ (8 - n)

-- the first n digits of a string are digits of the base
abbrev pub Digits : ℕ → (ℕ → ℕ) → ℕ → Type 0
Digits b w n = (i : ℕ) → i < n → w i < b
