-- Every part on the way is far inside 64 bits.
use mathlib.Core.Path.{◌≡◌, refl, sym, ap, subst, ◌∙◌}
use mathlib.Core.List.{◌∷◌}
use Prim.Native.Nat.{ℕ, ◌-◌, ◌*◌, ◌^◌, ◌≤◌, zero-le}
use lib.Dec.{lit≤}
use lib.ListN.{length, take}
use lib.IntN.{pos, nat_abs}
use mir.Syntax.{w64}
use Rattle.lists.proofs.Cons.{cons≡}
use Rattle.integers.proofs.Machine.{Term, leaf, stored, stored_is, stored_bound}
use Rattle.ring.specs.Degree.{part_count}
use Rattle.ring.specs.Element.{plus}
use Rattle.ring.specs.Product.{scale}
use Rattle.ring.specs.Padded.{padded}
use Rattle.ring.specs.Tests.{Within}
use Rattle.ring.proofs.Element.{within_le, within_scale}
use Rattle.ring.proofs.Parts.{entry, within_part, within_four}
use Rattle.ring.proofs.Columns.{omega_raised}
use borrow.Author.Rules.{rules}
use Rattle.elements.proofs.times_omega.Goals as goal

pub scaled-requires : goal.scaled-requires
scaled-requires c =
    let top : Term = let s = c in leaf c.top_part.result (2 ^ 21) (subst (λ z. nat_abs z ≤ 2 ^ 21) (sym c.top_part.ensures) (within_part (2 ^ 21) s.args.x s.requires.1 (part_count s.args.degree - 1))) in
    (stored_bound w64 (top) refl, c.requires.0)

pub sum-requires : goal.sum-requires
sum-requires c =
    let at : ℕ → Term = λ k. entry (2 ^ 21) c.args.x c.requires.1 k in
    let top : Term = let s = c in leaf c.top_part.result (2 ^ 21) (subst (λ z. nat_abs z ≤ 2 ^ 21) (sym c.top_part.ensures) (within_part (2 ^ 21) s.args.x s.requires.1 (part_count s.args.degree - 1))) in
    let s = c in
    let t = top in
    (within_le (2 ^ 21) (2 ^ 61) _ (lit≤ tt) (within_four (2 ^ 21) (pos 0) (stored w64 (at 0)) (stored w64 (at 1)) (stored w64 (at 2)) zero-le (stored_bound w64 (at 0) refl) (stored_bound w64 (at 1) refl) (stored_bound w64 (at 2) refl)), subst (Within (2 ^ 61)) (sym c.scaled.ensures) (within_le (2 ^ 21 * 64) (2 ^ 61) _ (lit≤ tt) (within_scale (2 ^ 21) 64 (stored w64 t) s.args.omega (stored_bound w64 t refl) s.requires.0)))

pub returns : goal.returns
returns c =
    let at : ℕ → Term = λ k. entry (2 ^ 21) c.args.x c.requires.1 k in
    let top : Term = let s = c in leaf c.top_part.result (2 ^ 21) (subst (λ z. nat_abs z ≤ 2 ^ 21) (sym c.top_part.ensures) (within_part (2 ^ 21) s.args.x s.requires.1 (part_count s.args.degree - 1))) in
    let s = c in
    let d = part_count s.args.degree in
    let h : length s.args.omega ≡ 4 = search rules in
    let k : length s.args.x ≡ 4 = search rules in
    let raised = cons≡ (stored_is w64 (at 0) refl) (cons≡ (stored_is w64 (at 1) refl) (cons≡ (stored_is w64 (at 2) refl) refl)) in
    let back = c.scaled.ensures ∙ ap (λ z. scale z s.args.omega) (stored_is w64 (top) refl ∙ c.top_part.ensures) in
    c.cut.ensures ∙ ap (λ y. padded (take d y)) (c.sum.ensures ∙ (λ i. plus (pos 0 ∷ raised i) (back i))) ∙ sym (ap padded (omega_raised s.args.degree s.args.omega s.args.x h k))
