-- A part within the limit fits 32 bits.
use mathlib.Core.Path.{◌≡◌, refl, sym, ap, ◌∙◌}
use Prim.Native.Nat.{ℕ}
use lib.ListN.{length}
use mir.Syntax.{w32, w64}
use mir.Val.{to_z, of_z}
use borrow.Author.Rules.{rules}
use Rattle.integers.proofs.Machine.{Term, plain_fits, stored_is}
use Rattle.lists.proofs.Cons.{cons≡}
use Rattle.ring.proofs.Parts.{entry, four_parts}
use Rattle.ring.specs.Element.{part}
use Rattle.midpoint.proofs.shown.Goals as goal

pub overflow_cast-result : goal.overflow_cast-result
overflow_cast-result c =
    let at : ℕ → Term = λ k. entry 2147483647 c.args.x c.requires k in
    let s = c in rw (stored_is w64 (at 0) refl) (plain_fits w32 (at 0) refl)

pub overflow_cast-result-2 : goal.overflow_cast-result-2
overflow_cast-result-2 c =
    let at : ℕ → Term = λ k. entry 2147483647 c.args.x c.requires k in
    let s = c in rw (stored_is w64 (at 1) refl) (plain_fits w32 (at 1) refl)

pub overflow_cast-result-3 : goal.overflow_cast-result-3
overflow_cast-result-3 c =
    let at : ℕ → Term = λ k. entry 2147483647 c.args.x c.requires k in
    let s = c in rw (stored_is w64 (at 2) refl) (plain_fits w32 (at 2) refl)

pub overflow_cast-result-4 : goal.overflow_cast-result-4
overflow_cast-result-4 c =
    let at : ℕ → Term = λ k. entry 2147483647 c.args.x c.requires k in
    let s = c in rw (stored_is w64 (at 3) refl) (plain_fits w32 (at 3) refl)

pub returns : goal.returns
returns c =
    let at : ℕ → Term = λ k. entry 2147483647 c.args.x c.requires k in
    let narrow : (k : ℕ) → to_z w32 (of_z w32 (to_z w64 (of_z w64 (part c.args.x k)))) ≡ part c.args.x k = λ k. ap (λ z. to_z w32 (of_z w32 z)) (stored_is w64 (at k) refl) ∙ stored_is w32 (at k) refl in
    let s = c in
    let h : length s.args.x ≡ 4 = search rules in
    cons≡ (narrow 0) (cons≡ (narrow 1) (cons≡ (narrow 2) (cons≡ (narrow 3) refl))) ∙ sym (four_parts s.args.x h)
