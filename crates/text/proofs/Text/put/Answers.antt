-- What is written stands right behind what was there.
use mathlib.Core.Path.{◌≡◌, ap, ap₂, ◌∙◌, sym}
use mathlib.Core.List.{List, ◌++◌, append_assoc}
use Prim.Native.Nat.{ℕ, ◌+◌, ◌≤◌}
use native.Mathlib.Omega.{arith}
use lib.ListN.{length, take, drop, length-append}
use lib.Seq.{take_at, length-take-le}
use Rattle.lists.specs.Overwrite.{overwrite}
use Rattle.text.proofs.Text.put.Goals as goal

begins : (s new : List ℕ) (at : ℕ) → at ≤ length s → take (at + length new) (overwrite s at new) ≡ take at s ++ new
unfolding overwrite
begins s new at h =
    let split = append_assoc (take at s) new (drop (at + length new) s) in
    ap (take (at + length new)) (sym split) ∙ take_at (take at s ++ new) _ (at + length new) (omega (arith, length-append (take at s) new, length-take-le at s h))

pub put-self-inside-requires : goal.put-self-inside-requires
put-self-inside-requires g c = omega (arith, c.self.told, c.self.invariant, ap length c.self.view_is, length-take-le c.self.inside.len c.self.inside.bytes (omega (arith, c.self.told, c.self.invariant)))

pub returns : goal.returns
returns g c =
    let put = c.put-self-inside.ensures in
    ap₂ (λ (n : ℕ) t. take n t) put.next put.written ∙ begins c.self.inside.bytes c.args.bytes.now c.self.inside.len (omega (arith, c.self.invariant, c.self.told)) ∙ ap (λ t. t ++ c.args.bytes.now) c.self.view_is
