-- A record ends in the section.
use native.Mathlib.Omega.{arith}
use lib.ListN.{length}
use mathlib.Core.Path.{◌≡◌, ap, ◌∙◌}
use Prim.Native.Nat.{ℕ, ◌+◌, ◌*◌, ◌≤◌}
use Rattle.layout_rules.specs.Section.{element_size, of_degree}
use Rattle.layout_rules.proofs.Limit.{record_ends}
use Rattle.digit_rules.specs.Record.{element_at}
use native.Mathlib.Nat.{le_refl}
use Rattle.digits.proofs.record_at.Goals as goal

pub overflow_mul-k : goal.overflow_mul-k
overflow_mul-k c =
    let starts : (let a = c.args in a.k * c.element_size.result ≡ a.k * element_size a.degree) = ap (λ (n : ℕ). c.args.k * n) c.element_size.ensures in
    let ends : (let a = c.args in a.k * element_size a.degree + element_size a.degree ≤ length a.part.now) = let s = c in record_ends s.args.degree (element_size s.args.degree) (le_refl (element_size s.args.degree)) (length s.args.part.now) s.args.k s.requires in
    omega (arith, starts, ends)

pub element-requires : goal.element-requires
element-requires c =
    let starts : (let a = c.args in a.k * c.element_size.result ≡ a.k * element_size a.degree) = ap (λ (n : ℕ). c.args.k * n) c.element_size.ensures in
    let ends : (let a = c.args in a.k * element_size a.degree + element_size a.degree ≤ length a.part.now) = let s = c in record_ends s.args.degree (element_size s.args.degree) (le_refl (element_size s.args.degree)) (length s.args.part.now) s.args.k s.requires in
    omega (arith, starts, ends)

pub returns : goal.returns
returns c =
    let starts : (let a = c.args in a.k * c.element_size.result ≡ a.k * element_size a.degree) = ap (λ (n : ℕ). c.args.k * n) c.element_size.ensures in
    let a = c.args in
    record { element = c.element.ensures.element ∙ ap (element_at (of_degree a.degree a.part.now)) (starts); within = c.element.ensures.within }
