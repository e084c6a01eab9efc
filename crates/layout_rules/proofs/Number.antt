-- Laws of signed 16-bit numbers.
use mathlib.Core.Path.{◌≡◌, ap, ◌∙◌}
use mathlib.Core.List.{List}
use Prim.Native.Nat.{ℕ, ◌+◌, ◌-◌, ◌%◌, ◌<◌, ◌≤◌}
use native.Mathlib.Nat.{add_assoc}
use lib.ListN.{get_or, take, drop}
use lib.Seq.{get_or-take, get_or-drop}
use native.Mathlib.Decide.{dec_lt}
use native.Mathlib.Omega.{arith}
use borrow.Author.Tests.{lt-ltb, le-ltb}
use lib.IntN.{ℤ, pos, negsuc, nat_abs, sub_ℕ, ◌-ℤ◌}
use mir.Syntax.{w64}
use mir.Val.{SFits, to_z, of_z}
use mir.Facts.{to_z_pos, to_z-of_z}
use Rattle.layout_rules.specs.Number.{unsigned_at, to_signed, signed_at}

pub signed_low : (u : ℕ) → u < 32768 → to_signed u ≡ pos u
unfolding to_signed
signed_low u h = rw (lt-ltb _ _ h, to_signed)

pub signed_high : (u : ℕ) → 32768 ≤ u → to_signed u ≡ sub_ℕ u 65536
unfolding to_signed
signed_high u h = rw (le-ltb _ _ h, to_signed)

-- the size of a number from its bits
pub size_low : (u : ℕ) → u < 32768 → nat_abs (to_signed u) ≡ u
size_low u h = ap nat_abs (signed_low u h)

pub size_high : (u : ℕ) → 32768 ≤ u → u < 65536 → nat_abs (to_signed u) ≡ 65536 - u
size_high u h l = ap nat_abs (signed_high u h) ∙ negative
  where
    negative : nat_abs (sub_ℕ u 65536) ≡ 65536 - u
    negative = rw (lt-ltb u 65536 l) (omega arith)

-- the reader of a signed number: its bits moved up by 32,768, less as much
abbrev moved : ℕ → ℕ
moved u = (u + 32768) % 65536

moved_less : (u : ℕ) → u < 65536 → sub_ℕ (moved u) 32768 ≡ to_signed u
moved_less u l =
    elim (dec_lt u 32768) [
      | yes h ↦ rw (le-ltb (moved u) 32768 (omega arith), signed_low u h) (ap pos (omega arith))
      | no h ↦ rw (lt-ltb (moved u) 32768 (omega arith), signed_high u (omega arith), lt-ltb u 65536 l) (ap negsuc (omega arith))
    ]

pub size_any : (u : ℕ) → u < 65536 → nat_abs (to_signed u) ≤ 32768
size_any u l =
    elim (dec_lt u 32768) [
      | yes h ↦ omega (arith, size_low u h)
      | no h ↦ omega (arith, size_high u (omega arith) l)
    ]

pub read_fits : (u : ℕ) → SFits w64 (to_z w64 (moved u) -ℤ pos 32768)
read_fits u = rw (to_z_pos w64 {n = moved u} (omega arith)) (elim (dec_lt (moved u) 32768) [
  | yes h ↦ rw (lt-ltb (moved u) 32768 h) (record { sfits = omega arith })
  | no h ↦ rw (le-ltb (moved u) 32768 (omega arith)) (record { sfits = omega arith })
])

pub read : (u : ℕ) → u < 65536 → (to_z w64 (of_z w64 (to_z w64 (moved u) -ℤ pos 32768)) ≡ to_signed u) × (nat_abs (to_z w64 (of_z w64 (to_z w64 (moved u) -ℤ pos 32768))) ≤ 32768)
read u l = (same, rw same (size_any u l))
  where
    same : to_z w64 (of_z w64 (to_z w64 (moved u) -ℤ pos 32768)) ≡ to_signed u
    same = to_z-of_z (read_fits u) ∙ ap (λ (z : ℤ). z -ℤ pos 32768) (to_z_pos w64 {n = moved u} (omega arith)) ∙ moved_less u l

-- a number of a part is that of the whole
pub part_signed : (bytes : List ℕ) (start n j : ℕ) → j + 2 ≤ n → signed_at (take n (drop start bytes)) j ≡ signed_at bytes (start + j)
part_signed bytes start n j h = ap to_signed same
  where
    entry : (k : ℕ) → k < n → get_or (take n (drop start bytes)) k 0 ≡ get_or bytes (start + k) 0
    entry k l = get_or-take n (drop start bytes) k 0 l ∙ get_or-drop start bytes k 0

    same : unsigned_at (take n (drop start bytes)) j ≡ unsigned_at bytes (start + j)
    same = unfold unsigned_at in rw (entry j (omega arith), entry (j + 1) (omega arith), add_assoc)
