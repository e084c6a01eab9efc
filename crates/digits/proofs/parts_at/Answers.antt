-- Part k is the k-th number.
use mathlib.Core.Path.{refl, ap, ◌∙◌}
use Prim.Native.Nat.{ℕ, ◌+◌, ◌*◌, zero-le}
use native.Mathlib.Nat.{le_antisymm}
use native.Mathlib.Omega.{arith}
use mir.Syntax.{w64}
use mir.ValLaws.{to_z-of_z}
use borrow.Author.Rules.{rules}
use Rattle.lists.specs.Span.{span}
use Rattle.layout_rules.specs.Number.{signed_at}
use Rattle.ring.specs.Padded.{padded}
use Rattle.ring.proofs.Element.{within_set}
use Rattle.ring.proofs.Parts.{within_four}
use Rattle.ring.proofs.Padded.{padded_stored}
use Rattle.digits.proofs.parts_at.Goals as goal

pub loop-k-init : goal.loop-k-init
unfolding padded span
loop-k-init g c = (refl, within_four 32768 _ _ _ _ zero-le zero-le zero-le zero-le)

pub loop-k-preserved : goal.loop-k-preserved
loop-k-preserved g c =
    let z = c.signed.result in (
      padded_stored (λ k. signed_at c.args.bytes.now (c.args.at + 2 * k)) c.loop-k.k c.loop-k.parts z c.loop-k.invariant.0 (omega arith) (search rules) c.signed.ensures.number,
      within_set 32768 c.loop-k.parts c.loop-k.k _ c.loop-k.invariant.1 (rw (to_z-of_z w64 z (search rules)) c.signed.ensures.within),
    )

pub returns : goal.returns
returns g c = record {
  parts = c.loop-k.invariant.0 ∙ ap (λ (n : ℕ). padded (span (λ k. signed_at c.args.bytes.now (c.args.at + 2 * k)) 0 n)) (le_antisymm {n = c.loop-k.k} {m = g.row.N} (omega arith) (omega arith));
  within = c.loop-k.invariant.1;
}
