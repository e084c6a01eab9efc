-- Laws of signed 64-bit words: a number as the machine converts it, below 2^63 and from there on.
use mathlib.Core.Path.{◌≡◌, ◌∙◌}
use Prim.Native.Nat.{ℕ, ◌^◌, ◌<◌}
use borrow.Author.Tests.{lt-ltb}
use lib.Signed.{mag}
use lib.IntN.{ℤ, pos}
use mir.Syntax.{w32, w64}
use mir.Val.{SFits, to_z, of_z}
use mir.Facts.{sfits_widen, to_z-of_z}
use Rattle.answer_rules.specs.Word.{word_of}

-- a word that was stored and read again
pub kept : (z : ℤ) (n : ℕ) → mag z < 2 ^ 63 → z ≡ word_of n → to_z w64 (of_z w64 z) ≡ word_of n
kept z n h e = to_z-of_z {w = w64} {z = z} (record { sfits = h }) ∙ e

-- a 32-bit number, read and widened
pub narrow_fits : (z : ℤ) → SFits w32 z → SFits w64 (to_z w32 (of_z w32 z))
narrow_fits z f = rw (to_z-of_z f) (sfits_widen tt f)

pub widened : (z : ℤ) → SFits w32 z → to_z w64 (of_z w64 (to_z w32 (of_z w32 z))) ≡ z
widened z f = to_z-of_z (narrow_fits z f) ∙ to_z-of_z f

-- a number below 2^63 is itself
pub word_small : (n : ℕ) → n < 2 ^ 63 → word_of n ≡ pos n
unfolding word_of
word_small n h = rw (lt-ltb n (2 ^ 63) h, word_of)
