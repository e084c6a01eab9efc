-- Each product is at most 2 ^ 42 in size.
use mathlib.Core.Path.{refl}
use Prim.Native.Nat.{ℕ, ◌^◌}
use mir.Syntax.{w64}
use Rattle.integers.proofs.Machine.{Term, ◌⊖◌, ◌⊗◌, computed_fits, stored_is}
use Rattle.ring.proofs.Parts.{entry}
use Rattle.base_tests.proofs.cross.Goals as goal

pub overflow_mul-result : goal.overflow_mul-result
overflow_mul-result c =
    let by : ℕ → ℕ → Term = λ p q. entry (2 ^ 21) c.args.first c.requires.0 p ⊗ entry (2 ^ 21) c.args.second c.requires.1 q in
    let s = c in computed_fits w64 (by s.args.p s.args.q) refl

pub overflow_mul-result-2 : goal.overflow_mul-result-2
overflow_mul-result-2 c =
    let by : ℕ → ℕ → Term = λ p q. entry (2 ^ 21) c.args.first c.requires.0 p ⊗ entry (2 ^ 21) c.args.second c.requires.1 q in
    let s = c in computed_fits w64 (by s.args.q s.args.p) refl

pub overflow_sub-result : goal.overflow_sub-result
overflow_sub-result c =
    let by : ℕ → ℕ → Term = λ p q. entry (2 ^ 21) c.args.first c.requires.0 p ⊗ entry (2 ^ 21) c.args.second c.requires.1 q in
    let s = c in computed_fits w64 (by s.args.p s.args.q ⊖ by s.args.q s.args.p) refl

pub returns : goal.returns
returns c =
    let by : ℕ → ℕ → Term = λ p q. entry (2 ^ 21) c.args.first c.requires.0 p ⊗ entry (2 ^ 21) c.args.second c.requires.1 q in
    let s = c in stored_is w64 (by s.args.p s.args.q ⊖ by s.args.q s.args.p) refl
