-- Texts written one behind the other.
use mathlib.Core.Path.{◌≡◌, ap, ◌∙◌}
use mathlib.Core.List.{List, [], ◌++◌, append_assoc}
use Prim.Native.Nat.{ℕ}

-- u is s with any number of texts behind it
pub data Pieces : List ℕ → List ℕ → List ℕ → Type 0 where
  last : (s t a : List ℕ) → t ≡ s ++ a → Pieces s t a
  next : (s t u a b : List ℕ) → t ≡ s ++ a → Pieces t u b → Pieces s u (a ++ b)

pub all : {s t text : List ℕ} → Pieces s t text → t ≡ s ++ text
all (last s t a put) = put
all (next s t u a b put rest) = all rest ∙ ap (λ (x : List ℕ). x ++ b) put ∙ append_assoc s a b

-- a line, which is begun with no bytes
pub line : {s t text : List ℕ} → s ≡ [] → Pieces s t text → t ≡ text
line {text = text} empty pieces = all pieces ∙ ap (λ (x : List ℕ). x ++ text) empty
