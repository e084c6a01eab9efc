-- Each product is inside 64 bits, and so is the sum.
use mathlib.Core.Path.{refl}
use Prim.Native.Nat.{ℕ}
use native.Mathlib.Nat.{le_trans}
use lib.Dec.{lit≤}
use mir.Syntax.{w64}
use Rattle.integers.proofs.Machine.{Term, ◌⊕◌, ◌⊖◌, ◌⊗◌, computed_fits, stored_is, stored_bound}
use Rattle.ring.specs.Tests.{row_limits}
use Rattle.ring.proofs.Parts.{limited_entry}
use Rattle.base_tests.specs.Minors.{minor_limits}
use Rattle.base_tests.proofs.with_last.Goals as goal

pub overflow_mul-result : goal.overflow_mul-result
overflow_mul-result c =
    let by : ℕ → ℕ → Term = λ p q. limited_entry minor_limits c.args.upper c.requires.0 p ⊗ limited_entry row_limits c.args.last c.requires.1 q in
    computed_fits w64 (by 0 2) refl

pub overflow_mul-result-2 : goal.overflow_mul-result-2
overflow_mul-result-2 c =
    let by : ℕ → ℕ → Term = λ p q. limited_entry minor_limits c.args.upper c.requires.0 p ⊗ limited_entry row_limits c.args.last c.requires.1 q in
    computed_fits w64 (by 1 1) refl

pub overflow_sub-result : goal.overflow_sub-result
overflow_sub-result c =
    let by : ℕ → ℕ → Term = λ p q. limited_entry minor_limits c.args.upper c.requires.0 p ⊗ limited_entry row_limits c.args.last c.requires.1 q in
    let two : Term = by 0 2 ⊖ by 1 1 in
    computed_fits w64 (two) refl

pub overflow_mul-result-3 : goal.overflow_mul-result-3
overflow_mul-result-3 c =
    let by : ℕ → ℕ → Term = λ p q. limited_entry minor_limits c.args.upper c.requires.0 p ⊗ limited_entry row_limits c.args.last c.requires.1 q in
    computed_fits w64 (by 3 0) refl

pub overflow_add-result : goal.overflow_add-result
overflow_add-result c =
    let by : ℕ → ℕ → Term = λ p q. limited_entry minor_limits c.args.upper c.requires.0 p ⊗ limited_entry row_limits c.args.last c.requires.1 q in
    let two : Term = by 0 2 ⊖ by 1 1 in
    let three : Term = two ⊕ by 3 0 in
    computed_fits w64 (three) refl

pub returns : goal.returns
returns c =
    let by : ℕ → ℕ → Term = λ p q. limited_entry minor_limits c.args.upper c.requires.0 p ⊗ limited_entry row_limits c.args.last c.requires.1 q in
    let two : Term = by 0 2 ⊖ by 1 1 in
    let three : Term = two ⊕ by 3 0 in
    let s = c in record { sum = stored_is w64 (three) refl; within = le_trans (stored_bound w64 (three) refl) (lit≤ tt) }
