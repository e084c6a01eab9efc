-- An element in words: its parts widened to 64 bits, as many as the degree says, behind the words before them.
use mathlib.Core.Path.{◌≡◌, refl, ap, ◌∙◌}
use mathlib.Core.List.{List, [], ◌∷◌, ◌++◌}
use Prim.Native.Nat.{ℕ, ◌+◌}
use native.Mathlib.Nat.{add_comm}
use lib.IntN.{ℤ}
use lib.ListN.{length, take}
use lib.Seq.{take-append-add}
use mir.Syntax.{w32, w64}
use mir.Val.{SFits, to_z, of_z}
use Rattle.lists.proofs.Cons.{cons≡}
use Rattle.answer_rules.proofs.Bits.{widened}

-- a part, read as 32 bits and stored in 64
abbrev wide : ℤ → ℤ
wide z = to_z w64 (of_z w64 (to_z w32 (of_z w32 z)))

pub parts_widened : (a b c d : ℤ) → SFits w32 a → SFits w32 b → SFits w32 c → SFits w32 d
    → wide a ∷ wide b ∷ wide c ∷ wide d ∷ [] ≡ a ∷ b ∷ c ∷ d ∷ []
parts_widened a b c d fa fb fc fd = cons≡ (widened a fa) (cons≡ (widened b fb) (cons≡ (widened c fc) (cons≡ (widened d fd) refl)))

-- words, and the first of others behind them
pub first_words : (n d : ℕ) (head told words parts : List ℤ) → n ≡ d → head ≡ told → words ≡ parts
    → take (n + length told) (head ++ words) ≡ told ++ take d parts
first_words n d head told words parts counts before behind =
    rw (before, counts, behind) (ap (λ (k : ℕ). take k (told ++ parts)) (add_comm d (length told)) ∙ take-append-add told parts d)
