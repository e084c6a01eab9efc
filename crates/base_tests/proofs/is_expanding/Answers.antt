-- The three sizes are those of N, T and N + 1.
use mathlib.Core.Path.{◌≡◌, refl, sym, ap, ap₂, subst, ◌∙◌}
use mathlib.Core.Bool.{◌&&◌}
use Prim.Native.Nat.{ℕ, ◌≤◌}
use lib.Dec.{leb, ltb}
use lib.IntN.{ℤ, pos, nat_abs, ◌+ℤ◌}
use borrow.Author.Tests.{le-leb, lt-leb}
use mir.Syntax.{w64}
use Rattle.integers.proofs.Machine.{Term, leaf, ◌⊕◌, stored, computed_fits, stored_is, stored_below}
use Rattle.ring.specs.Base.{base_trace, base_norm}
use Rattle.ring.specs.Tests.{BaseLimits, expanding}
use Rattle.ring.proofs.Parts.{constant, s_term, t_term, u_term, v_term, norm_size, trace_size}
use Rattle.base_tests.proofs.is_expanding.Goals as goal

module _ {s t u v : ℤ} (limits : BaseLimits s t u v) where
  -- N, as the callee found it from the numbers as they are stored
  module _ {norm : ℤ} (is : norm ≡ base_norm (stored w64 (s_term limits)) (stored w64 (t_term limits)) (stored w64 (u_term limits)) (stored w64 (v_term limits))) where
    norm_is : norm ≡ base_norm s t u v
    norm_is =
        is ∙ (λ i. base_norm (stored_is w64 (s_term limits) refl i) (stored_is w64 (t_term limits) refl i) (stored_is w64 (u_term limits) refl i) (stored_is w64 (v_term limits) refl i))

    abbrev norm_found : Term
    norm_found = leaf norm 528384 (subst (λ z. nat_abs z ≤ 528384) (sym norm_is) (norm_size limits))

    abbrev above : Term
    above = norm_found ⊕ constant 1

    norm_sized : {size : ℕ} → size ≡ nat_abs (stored w64 norm_found) → size ≡ nat_abs (base_norm s t u v)
    norm_sized h = h ∙ ap nat_abs (stored_is w64 norm_found refl ∙ norm_is)

    above_sized : {size : ℕ} → size ≡ nat_abs (stored w64 above) → size ≡ nat_abs (base_norm s t u v +ℤ pos 1)
    above_sized h = h ∙ ap nat_abs (stored_is w64 above refl ∙ ap (λ z. z +ℤ pos 1) norm_is)

  -- and T
  module _ {trace : ℤ} (is : trace ≡ base_trace (stored w64 (s_term limits)) (stored w64 (u_term limits)) (stored w64 (v_term limits))) where
    trace_is : trace ≡ base_trace s u v
    trace_is =
        is ∙ (λ i. base_trace (stored_is w64 (s_term limits) refl i) (stored_is w64 (u_term limits) refl i) (stored_is w64 (v_term limits) refl i))

    abbrev trace_found : Term
    trace_found =
        leaf trace 4224 (subst (λ z. nat_abs z ≤ 4224) (sym trace_is) (trace_size s u v limits.of_s limits.of_u limits.of_v))

    trace_sized : {size : ℕ} → size ≡ nat_abs (stored w64 trace_found) → size ≡ nat_abs (base_trace s u v)
    trace_sized h = h ∙ ap nat_abs (stored_is w64 trace_found refl ∙ trace_is)

pub size-requires : goal.size-requires
size-requires c = stored_below w64 (norm_found c.requires c.base_norm-norm.ensures) refl

pub size-requires-then-size-ge2 : goal.size-requires-then-size-ge2
size-requires-then-size-ge2 c = stored_below w64 (trace_found c.requires c.base_trace-trace.ensures) refl

pub overflow_add-norm : goal.overflow_add-norm
overflow_add-norm c = computed_fits w64 (above c.requires c.base_norm-norm.ensures) refl

pub size-requires-then-size-ge2-2 : goal.size-requires-then-size-ge2-2
size-requires-then-size-ge2-2 c = stored_below w64 (above c.requires c.base_norm-norm.ensures) refl

pub returns-then-size-ge2 : goal.returns-then-size-ge2
unfolding expanding
returns-then-size-ge2 c =
    let a = c.args in
    let size = norm_sized c.requires c.base_norm-norm.ensures c.size.ensures in
    let small = ap₂ ltb (trace_sized c.requires c.base_trace-trace.ensures c.size-then-size-ge2.ensures) (above_sized c.requires c.base_norm-norm.ensures c.size-then-size-ge2-2.ensures) in
    small
    ∙ sym (ap (λ b. b && ltb (nat_abs (base_trace a.s a.u a.v)) (nat_abs (base_norm a.s a.t a.u a.v +ℤ pos 1))) (le-leb 2 _ (subst (λ n. 2 ≤ n) size c.if-size-ge2.true)))

pub returns-else-size-ge2 : goal.returns-else-size-ge2
unfolding expanding
returns-else-size-ge2 c =
    let a = c.args in
    let size = norm_sized c.requires c.base_norm-norm.ensures c.size.ensures in
    let small = lt-leb 2 _ c.if-size-ge2.false in
    small
    ∙ sym (ap (λ b. b && ltb (nat_abs (base_trace a.s a.u a.v)) (nat_abs (base_norm a.s a.t a.u a.v +ℤ pos 1))) (ap (leb 2) (sym size) ∙ small))
