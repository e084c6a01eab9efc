-- A buffer after a run of entries was written into it.
use Rattle.std.specs.Prelude.{List, ◌++◌, ℕ, ◌+◌, length, take, drop}

-- the entries `new` in place of as many from place p on; the rest as it was
unfoldable pub overwrite {ℓ} : {A : Type ℓ} → List A → ℕ → List A → List A
overwrite s p new = take p s ++ (new ++ drop (p + length new) s)
