-- Pieces of text written one behind the other into a lent buffer.
use mathlib.Core.Path.{◌≡◌, refl, sym, ap, ap₂, ◌∙◌}
use mathlib.Core.List.{List, [], ◌++◌}
use Prim.Native.Nat.{ℕ, ◌+◌, ◌≤◌}
use native.Mathlib.Omega.{arith}
use lib.ListN.{length, take, length-append}
use lib.Seq.{take_at}
use Rattle.lists.specs.Overwrite.{overwrite}
use Rattle.lists.proofs.Overwrite.{overwrite_none, overwrite_append, length_overwrite}

-- t is s with the text written from place p on, and r the next place: what each function that writes ensures
abbrev pub Put : List ℕ → List ℕ → ℕ → ℕ → List ℕ → Type 0
Put s t p r text = (r ≡ p + length text) × (t ≡ overwrite s p text)

pub put_none : (s : List ℕ) (p : ℕ) → Put s s p p []
put_none s p = (omega arith, sym (overwrite_none s p))

pub put_more : (s t u a b : List ℕ) (p q r : ℕ) → Put s t p q a → Put t u q r b → p + length a ≤ length s → Put s u p r (a ++ b)
put_more s t u a b p q r (q_is, t_is) (r_is, u_is) h =
    (omega (arith, length-append a b), u_is ∙ ap₂ (λ (x : List ℕ) (k : ℕ). overwrite x k b) t_is q_is ∙ overwrite_append s p a b h)

-- any number of pieces, one behind the other: room for all of them is enough
pub data Pieces : List ℕ → List ℕ → ℕ → ℕ → List ℕ → Type 0 where
  last : (s t a : List ℕ) (p r : ℕ) → Put s t p r a → Pieces s t p r a
  next : (s t u a b : List ℕ) (p q r : ℕ) → Put s t p q a → Pieces t u q r b → Pieces s u p r (a ++ b)

pub put_all : {s t text : List ℕ} {p r : ℕ} → Pieces s t p r text → p + length text ≤ length s → Put s t p r text
put_all (last s t a p r w) h = w
put_all (next s t u a b p q r w rest) h =
    let total = length-append a b in
    let same = ap length w.1 ∙ length_overwrite s p a (omega arith) in
    put_more s t u a b p q r w (put_all rest (omega (arith, w.0))) (omega arith)

-- a text that was written from the start on is what the buffer begins with
pub put_taken : (s t text : List ℕ) (r : ℕ) → r ≡ length text → t ≡ overwrite s 0 text → take r t ≡ text
unfolding overwrite
put_taken s t text r r_is t_is = ap₂ take r_is t_is ∙ take_at text _ (length text) refl

-- a text from the start of a buffer on: what a function that writes a line ensures
pub put_line : (s t a text : List ℕ) (r n : ℕ) → Put s t 0 r a → a ≡ text → length a ≤ n → (r ≡ length text) × ((t ≡ overwrite s 0 text) × (r ≤ n))
put_line s t a text r n (r_is, t_is) e h = (omega (arith, ap length e), (t_is ∙ ap (overwrite s 0) e, omega arith))
