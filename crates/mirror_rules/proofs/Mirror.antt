-- What a mirror image is: its index, which is mirrored back to the digit's own, and its number.
use mathlib.Core.Path.{◌≡◌, refl, ap, ◌∙◌}
use mathlib.Core.Bool.{true, false}
use Prim.Native.Nat.{ℕ, zero, suc, ◌+◌, ◌-◌, ◌%◌, ◌≤◌, ◌<◌}
use native.Mathlib.Decide.{dec_lt}
use native.Mathlib.Omega.{arith}
use borrow.Author.Tests.{lt-ltb, le-ltb, le-leb, lt-leb, ne_eqb}
use lib.IntN.{neg_ℤ, pos}
use Rattle.mirror_rules.specs.Half.{mirror_index, stored_number, image_number, bits_of}

-- zero is its own image; positive digits and their images are each other's
pub mirror_zero : (positive : ℕ) → mirror_index positive 0 ≡ 0
unfolding mirror_index
mirror_zero positive = refl

pub mirror_up : (positive i : ℕ) → 0 < i → i ≤ positive → mirror_index positive i ≡ i + positive
unfolding mirror_index
mirror_up positive i some h = rw (ne_eqb i 0 (λ e. omega arith), le-leb i positive h)

pub mirror_down : (positive i : ℕ) → positive < i → mirror_index positive i ≡ i - positive
unfolding mirror_index
mirror_down positive i h = rw (ne_eqb i 0 (λ e. omega arith), lt-leb i positive h)

pub mirror_twice : (positive i : ℕ) → i ≤ positive + positive → mirror_index positive (mirror_index positive i) ≡ i
mirror_twice positive zero h = ap (mirror_index positive) (mirror_zero positive) ∙ mirror_zero positive
mirror_twice positive (suc i) h =
    elim (dec_lt positive (suc i)) [
      | yes down ↦ ap (mirror_index positive) (mirror_down positive (suc i) down) ∙ mirror_up positive (suc i - positive) (omega arith) (omega arith) ∙ omega arith
      | no up ↦ ap (mirror_index positive) (mirror_up positive (suc i) (omega arith) (omega arith)) ∙ mirror_down positive (suc i + positive) (omega arith) ∙ omega arith
    ]

-- the 16 bits of a stored number
pub bits_low : (byte : ℕ) → byte < 128 → bits_of (stored_number byte) ≡ byte
unfolding stored_number bits_of
bits_low byte h = rw (lt-ltb byte 128 h)

pub bits_high : (byte : ℕ) → 128 ≤ byte → byte < 256 → bits_of (stored_number byte) ≡ byte + 65280
unfolding stored_number bits_of
bits_high byte h l = rw (le-ltb byte 128 h) (omega arith)

-- and of its image's: both together are 65,536, or zero
pub bits_turned : (byte : ℕ) → byte < 256 → bits_of (image_number true byte) ≡ (65536 - bits_of (stored_number byte)) % 65536
unfolding stored_number image_number bits_of
bits_turned byte l =
    elim (dec_lt byte 128) [
      | yes h ↦ rw (lt-ltb byte 128 h) (low byte h)
      | no h ↦ rw (le-ltb byte 128 (omega arith)) (omega arith)
    ]
  where
    low : (n : ℕ) → n < 128 → bits_of (neg_ℤ (pos n)) ≡ (65536 - n) % 65536
    low zero h = refl
    low (suc n) h = omega arith

pub bits_kept : (byte : ℕ) → bits_of (image_number false byte) ≡ bits_of (stored_number byte)
unfolding image_number
bits_kept byte = refl
