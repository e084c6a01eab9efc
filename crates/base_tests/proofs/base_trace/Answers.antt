-- T is at most 4,224 in size.
use mathlib.Core.Path.{refl}
use mir.Syntax.{w64}
use Rattle.integers.proofs.Machine.{Term, ◌⊗◌, computed_fits, stored_is}
use Rattle.ring.specs.Base.{base_trace}
use Rattle.ring.proofs.Parts.{constant, number, trace_term}
use Rattle.base_tests.proofs.base_trace.Goals as goal

pub overflow_mul-result : goal.overflow_mul-result
overflow_mul-result c = computed_fits w64 (constant 2 ⊗ number c.args.u c.requires.1) refl

pub overflow_mul-result-2 : goal.overflow_mul-result-2
overflow_mul-result-2 c = computed_fits w64 (number c.args.s c.requires.0 ⊗ number c.args.v c.requires.2) refl

pub overflow_add-result : goal.overflow_add-result
overflow_add-result c =
    let whole : Term = let a = c.args in trace_term a.s a.u a.v c.requires.0 c.requires.1 c.requires.2 in
    computed_fits w64 (whole) refl

pub returns : goal.returns
unfolding base_trace
returns c =
    let whole : Term = let a = c.args in trace_term a.s a.u a.v c.requires.0 c.requires.1 c.requires.2 in
    stored_is w64 (whole) refl
