-- Document 01, "Table file": numbers are little-endian; offsets and lengths are unsigned 16-bit, all others signed 16-bit.
use Rattle.std.specs.Prelude.{List, true, false, ℕ, ◌+◌, ◌*◌, get_or, ℤ, pos, ltb}
use Rattle.std.proofs.Math.IntN.{sub_ℕ}

-- the unsigned number whose low byte stands at a place
unfoldable pub unsigned_at : List ℕ → ℕ → ℕ
unsigned_at bytes at = get_or bytes at 0 + 256 * get_or bytes (at + 1) 0

-- the signed number with the same 16 bits
unfoldable pub to_signed : ℕ → ℤ
to_signed u = elim (ltb u 32768) [ true ↦ pos u | false ↦ sub_ℕ u 65536 ]

-- the signed number whose low byte stands at a place
abbrev pub signed_at : List ℕ → ℕ → ℤ
signed_at bytes at = to_signed (unsigned_at bytes at)
