-- Each part is at most 2 ^ 27 in size.
use mathlib.Core.Path.{◌≡◌, refl, sym, ◌∙◌}
use Prim.Native.Nat.{ℕ, ◌^◌}
use mir.Syntax.{w64}
use lib.ListN.{length}
use Rattle.lists.proofs.Cons.{cons≡}
use Rattle.integers.proofs.Machine.{Term, leaf, ◌⊗◌, computed_fits, stored_is}
use Rattle.ring.proofs.Parts.{entry, scale_four}
use borrow.Author.Rules.{rules}
use Rattle.elements.proofs.scaled.Goals as goal

pub overflow_mul-result : goal.overflow_mul-result
overflow_mul-result c =
    let at : ℕ → Term = λ i. leaf c.args.k (2 ^ 21) c.requires.0 ⊗ entry 64 c.args.x c.requires.1 i in
    computed_fits w64 (at 0) refl

pub overflow_mul-result-2 : goal.overflow_mul-result-2
overflow_mul-result-2 c =
    let at : ℕ → Term = λ i. leaf c.args.k (2 ^ 21) c.requires.0 ⊗ entry 64 c.args.x c.requires.1 i in
    computed_fits w64 (at 1) refl

pub overflow_mul-result-3 : goal.overflow_mul-result-3
overflow_mul-result-3 c =
    let at : ℕ → Term = λ i. leaf c.args.k (2 ^ 21) c.requires.0 ⊗ entry 64 c.args.x c.requires.1 i in
    computed_fits w64 (at 2) refl

pub overflow_mul-result-4 : goal.overflow_mul-result-4
overflow_mul-result-4 c =
    let at : ℕ → Term = λ i. leaf c.args.k (2 ^ 21) c.requires.0 ⊗ entry 64 c.args.x c.requires.1 i in
    computed_fits w64 (at 3) refl

pub returns : goal.returns
returns c =
    let at : ℕ → Term = λ i. leaf c.args.k (2 ^ 21) c.requires.0 ⊗ entry 64 c.args.x c.requires.1 i in
    let s = c in
    let h : length s.args.x ≡ 4 = search rules in
    cons≡ (stored_is w64 (at 0) refl) (cons≡ (stored_is w64 (at 1) refl) (cons≡ (stored_is w64 (at 2) refl) (cons≡ (stored_is w64 (at 3) refl) refl))) ∙ sym (scale_four s.args.k s.args.x h)
