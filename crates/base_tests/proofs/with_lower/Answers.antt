-- Each product is inside 64 bits, and so is the sum.
use mathlib.Core.Path.{refl}
use Prim.Native.Nat.{ℕ}
use native.Mathlib.Nat.{le_trans}
use lib.Dec.{lit≤}
use mir.Syntax.{w64}
use Rattle.integers.proofs.Machine.{Term, ◌⊕◌, ◌⊖◌, ◌⊗◌, computed_fits, stored_is, stored_bound}
use Rattle.ring.proofs.Parts.{limited_entry}
use Rattle.base_tests.specs.Minors.{minor_limits}
use Rattle.base_tests.proofs.with_lower.Goals as goal

pub overflow_mul-result : goal.overflow_mul-result
overflow_mul-result c =
    let by : ℕ → ℕ → Term = λ p q. limited_entry minor_limits c.args.upper c.requires.0 p ⊗ limited_entry minor_limits c.args.lower c.requires.1 q in
    computed_fits w64 (by 0 5) refl

pub overflow_mul-result-2 : goal.overflow_mul-result-2
overflow_mul-result-2 c =
    let by : ℕ → ℕ → Term = λ p q. limited_entry minor_limits c.args.upper c.requires.0 p ⊗ limited_entry minor_limits c.args.lower c.requires.1 q in
    computed_fits w64 (by 1 4) refl

pub overflow_sub-result : goal.overflow_sub-result
overflow_sub-result c =
    let by : ℕ → ℕ → Term = λ p q. limited_entry minor_limits c.args.upper c.requires.0 p ⊗ limited_entry minor_limits c.args.lower c.requires.1 q in
    let two : Term = by 0 5 ⊖ by 1 4 in
    computed_fits w64 (two) refl

pub overflow_mul-result-3 : goal.overflow_mul-result-3
overflow_mul-result-3 c =
    let by : ℕ → ℕ → Term = λ p q. limited_entry minor_limits c.args.upper c.requires.0 p ⊗ limited_entry minor_limits c.args.lower c.requires.1 q in
    computed_fits w64 (by 2 3) refl

pub overflow_add-result : goal.overflow_add-result
overflow_add-result c =
    let by : ℕ → ℕ → Term = λ p q. limited_entry minor_limits c.args.upper c.requires.0 p ⊗ limited_entry minor_limits c.args.lower c.requires.1 q in
    let two : Term = by 0 5 ⊖ by 1 4 in
    let three : Term = two ⊕ by 2 3 in
    computed_fits w64 (three) refl

pub overflow_mul-result-4 : goal.overflow_mul-result-4
overflow_mul-result-4 c =
    let by : ℕ → ℕ → Term = λ p q. limited_entry minor_limits c.args.upper c.requires.0 p ⊗ limited_entry minor_limits c.args.lower c.requires.1 q in
    computed_fits w64 (by 3 2) refl

pub overflow_add-result-2 : goal.overflow_add-result-2
overflow_add-result-2 c =
    let by : ℕ → ℕ → Term = λ p q. limited_entry minor_limits c.args.upper c.requires.0 p ⊗ limited_entry minor_limits c.args.lower c.requires.1 q in
    let two : Term = by 0 5 ⊖ by 1 4 in
    let three : Term = two ⊕ by 2 3 in
    let four : Term = three ⊕ by 3 2 in
    computed_fits w64 (four) refl

pub overflow_mul-result-5 : goal.overflow_mul-result-5
overflow_mul-result-5 c =
    let by : ℕ → ℕ → Term = λ p q. limited_entry minor_limits c.args.upper c.requires.0 p ⊗ limited_entry minor_limits c.args.lower c.requires.1 q in
    computed_fits w64 (by 4 1) refl

pub overflow_sub-result-2 : goal.overflow_sub-result-2
overflow_sub-result-2 c =
    let by : ℕ → ℕ → Term = λ p q. limited_entry minor_limits c.args.upper c.requires.0 p ⊗ limited_entry minor_limits c.args.lower c.requires.1 q in
    let two : Term = by 0 5 ⊖ by 1 4 in
    let three : Term = two ⊕ by 2 3 in
    let four : Term = three ⊕ by 3 2 in
    let five : Term = four ⊖ by 4 1 in
    computed_fits w64 (five) refl

pub overflow_mul-result-6 : goal.overflow_mul-result-6
overflow_mul-result-6 c =
    let by : ℕ → ℕ → Term = λ p q. limited_entry minor_limits c.args.upper c.requires.0 p ⊗ limited_entry minor_limits c.args.lower c.requires.1 q in
    computed_fits w64 (by 5 0) refl

pub overflow_add-result-3 : goal.overflow_add-result-3
overflow_add-result-3 c =
    let by : ℕ → ℕ → Term = λ p q. limited_entry minor_limits c.args.upper c.requires.0 p ⊗ limited_entry minor_limits c.args.lower c.requires.1 q in
    let two : Term = by 0 5 ⊖ by 1 4 in
    let three : Term = two ⊕ by 2 3 in
    let four : Term = three ⊕ by 3 2 in
    let five : Term = four ⊖ by 4 1 in
    let six : Term = five ⊕ by 5 0 in
    computed_fits w64 (six) refl

pub returns : goal.returns
returns c =
    let by : ℕ → ℕ → Term = λ p q. limited_entry minor_limits c.args.upper c.requires.0 p ⊗ limited_entry minor_limits c.args.lower c.requires.1 q in
    let two : Term = by 0 5 ⊖ by 1 4 in
    let three : Term = two ⊕ by 2 3 in
    let four : Term = three ⊕ by 3 2 in
    let five : Term = four ⊖ by 4 1 in
    let six : Term = five ⊕ by 5 0 in
    let s = c in record { sum = stored_is w64 (six) refl; within = le_trans (stored_bound w64 (six) refl) (lit≤ tt) }
