-- For the laws only: what decimal text says.
use Rattle.std.specs.Prelude.{List, [], ◌∷◌, ℕ, ◌+◌, ◌-◌, ◌*◌}

-- the number that decimal digits say, read from the left behind a number
unfoldable pub read_on : ℕ → List ℕ → ℕ
read_on n [] = n
read_on n (byte ∷ text) = read_on (10 * n + (byte - 48)) text
