-- One part more, behind what the ones before it took.
use mathlib.Core.Path.{◌≡◌, refl, sym, ap₂}
use mathlib.Core.List.{List, ◌++◌, append-nil, append_assoc}
use Prim.Native.Nat.{ℕ, ◌-◌, ◌^◌}
use native.Mathlib.Omega.{arith}
use lib.IntN.{ℤ}
use lib.ListN.{length, length-append}
use mir.Syntax.{w64}
use mir.Val.{to_z, of_z}
use Rattle.std.proofs.Common.{rules}
use Rattle.integers.proofs.Machine.{stored_is, stored_below}
use Rattle.ring.proofs.Parts.{entry}
use Rattle.ring.specs.Element.{part}
use Rattle.ring.specs.Tests.{Within}
use Rattle.listing_rules.specs.Element.{part_text, parts_text}
use Rattle.listing_rules.proofs.Element.{parts_next, parts_before}
use Rattle.element_text.proofs.put_parts.Goals as goal

-- the text of a part, as it was found and handed on, by what stands before it
module _ (x : List ℤ) (k : ℕ) (s t : List ℕ) (parts : Within (2 ^ 62) x) (passed : t ≡ s ++ parts_text x k) where
  here : (m n : ℕ) → n ≡ length s → m ≡ length t → part_text (m - n) (to_z w64 (of_z w64 (part x k))) k ≡ part_text (length (parts_text x k)) (part x k) k
  here m n from to =
      let before : m - n ≡ length (parts_text x k) = rw (from, to, passed) (omega (arith, length-append s (parts_text x k))) in
      ap₂ (λ (n : ℕ) (a : ℤ). part_text n a k) before (stored_is w64 (entry (2 ^ 62) x parts k) refl)

pub loop-k-init : goal.loop-k-init
unfolding parts_text
loop-k-init g c = (sym (append-nil c.args.text.now), c.len-start.ensures.count)

pub overflow_sub-written : goal.overflow_sub-written
overflow_sub-written g c = rw (c.len.ensures.count, c.loop-k.invariant.0, c.loop-k.invariant.1) (omega (arith, length-append c.args.text.now (parts_text c.args.x c.loop-k.k)))

pub put_part-requires : goal.put_part-requires
put_part-requires g c =
    let room = parts_before c.args.x c.loop-k.k 4 c.loop-k-test.true in (
      search rules,
      (
        rw (here c.args.x c.loop-k.k c.args.text.now c.loop-k.text c.requires.parts c.loop-k.invariant.0 c.len.result c.len-start.result c.loop-k.invariant.1 c.len.ensures.count, c.loop-k.invariant.0, length-append) (omega (arith, c.requires.room, room)),
        stored_below w64 (entry (2 ^ 62) c.args.x c.requires.parts c.loop-k.k) refl,
      ),
    )

pub loop-k-preserved : goal.loop-k-preserved
loop-k-preserved g c =
    let part = here c.args.x c.loop-k.k c.args.text.now c.loop-k.text c.requires.parts c.loop-k.invariant.0 c.len.result c.len-start.result c.loop-k.invariant.1 c.len.ensures.count in
    (simp (c.put_part.ensures, part, c.loop-k.invariant.0, parts_next, append_assoc) refl, c.loop-k.invariant.1)
