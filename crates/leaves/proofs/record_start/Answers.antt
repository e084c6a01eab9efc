-- The records before it, each of the size that was read.
use mathlib.Core.Path.{◌≡◌, ap}
use Prim.Native.Nat.{ℕ, ◌+◌, ◌*◌, ◌≤◌}
use native.Mathlib.Omega.{arith}
use lib.ListN.{length}
use Rattle.layout_rules.specs.Section.{leaf_size}
use Rattle.layout_rules.proofs.Limit.{element_held, record_ends}
use Rattle.leaves.proofs.record_start.Goals as goal

pub overflow_add-result : goal.overflow_add-result
overflow_add-result c =
    let ends : (let a = c.args in a.leaf * leaf_size a.degree + leaf_size a.degree ≤ length a.leaves.now) = let s = c in record_ends s.args.degree (leaf_size s.args.degree) (element_held s.args.degree 3 (omega arith)) (length s.args.leaves.now) s.args.leaf s.requires in
    omega (arith, ends, c.element_size.ensures)

pub overflow_mul-result : goal.overflow_mul-result
overflow_mul-result c =
    let starts : (let a = c.args in a.leaf * (4 + c.element_size.result) ≡ a.leaf * leaf_size a.degree) = ap (λ (n : ℕ). c.args.leaf * (4 + n)) c.element_size.ensures in
    let ends : (let a = c.args in a.leaf * leaf_size a.degree + leaf_size a.degree ≤ length a.leaves.now) = let s = c in record_ends s.args.degree (leaf_size s.args.degree) (element_held s.args.degree 3 (omega arith)) (length s.args.leaves.now) s.args.leaf s.requires in
    omega (arith, starts, ends)

pub returns : goal.returns
returns c =
    let starts : (let a = c.args in a.leaf * (4 + c.element_size.result) ≡ a.leaf * leaf_size a.degree) = ap (λ (n : ℕ). c.args.leaf * (4 + n)) c.element_size.ensures in
    let ends : (let a = c.args in a.leaf * leaf_size a.degree + leaf_size a.degree ≤ length a.leaves.now) = let s = c in record_ends s.args.degree (leaf_size s.args.degree) (element_held s.args.degree 3 (omega arith)) (length s.args.leaves.now) s.args.leaf s.requires in
    record { start = starts; inside = omega (arith, starts, ends) }
