-- Each part is at most 2 ^ 62 in size.
use mathlib.Core.Path.{◌≡◌, refl, sym, ◌∙◌}
use Prim.Native.Nat.{ℕ, ◌^◌}
use mir.Syntax.{w64}
use lib.ListN.{length}
use Rattle.lists.proofs.Cons.{cons≡}
use Rattle.integers.proofs.Machine.{Term, ◌⊖◌, computed_fits, stored_is}
use Rattle.ring.proofs.Parts.{entry, minus_four}
use borrow.Author.Rules.{rules}
use Rattle.elements.proofs.difference.Goals as goal

pub overflow_sub-result : goal.overflow_sub-result
overflow_sub-result c =
    let at : ℕ → Term = λ k. entry (2 ^ 61) c.args.x c.requires.0 k ⊖ entry (2 ^ 61) c.args.y c.requires.1 k in
    computed_fits w64 (at 0) refl

pub overflow_sub-result-2 : goal.overflow_sub-result-2
overflow_sub-result-2 c =
    let at : ℕ → Term = λ k. entry (2 ^ 61) c.args.x c.requires.0 k ⊖ entry (2 ^ 61) c.args.y c.requires.1 k in
    computed_fits w64 (at 1) refl

pub overflow_sub-result-3 : goal.overflow_sub-result-3
overflow_sub-result-3 c =
    let at : ℕ → Term = λ k. entry (2 ^ 61) c.args.x c.requires.0 k ⊖ entry (2 ^ 61) c.args.y c.requires.1 k in
    computed_fits w64 (at 2) refl

pub overflow_sub-result-4 : goal.overflow_sub-result-4
overflow_sub-result-4 c =
    let at : ℕ → Term = λ k. entry (2 ^ 61) c.args.x c.requires.0 k ⊖ entry (2 ^ 61) c.args.y c.requires.1 k in
    computed_fits w64 (at 3) refl

pub returns : goal.returns
returns c =
    let at : ℕ → Term = λ k. entry (2 ^ 61) c.args.x c.requires.0 k ⊖ entry (2 ^ 61) c.args.y c.requires.1 k in
    let s = c in
    let h : length s.args.x ≡ 4 = search rules in
    let k : length s.args.y ≡ 4 = search rules in
    cons≡ (stored_is w64 (at 0) refl) (cons≡ (stored_is w64 (at 1) refl) (cons≡ (stored_is w64 (at 2) refl) (cons≡ (stored_is w64 (at 3) refl) refl))) ∙ sym (minus_four s.args.x s.args.y h k)
