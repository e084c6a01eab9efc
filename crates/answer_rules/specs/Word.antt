-- Signed 64-bit words, in which a caller in another language gets every number.
use Rattle.std.specs.Prelude.{true, false, ℕ, ◌^◌, ltb, ℤ, pos}
use Rattle.std.proofs.Math.IntN.{sub_ℕ}

-- the signed number with the same 64 bits: every number below 2^63 is itself
unfoldable pub word_of : ℕ → ℤ
word_of n = elim (ltb n (2 ^ 63)) [ true ↦ pos n | false ↦ sub_ℕ n (2 ^ 64) ]
