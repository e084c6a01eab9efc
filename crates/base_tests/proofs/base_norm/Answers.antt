-- N is at most 528,384 in size, and so is each product on the way.
use mathlib.Core.Path.{refl}
use mir.Syntax.{w64}
use Rattle.integers.proofs.Machine.{◌⊕◌, ◌⊗◌, computed_fits, stored_is}
use Rattle.ring.specs.Base.{base_norm}
use Rattle.ring.proofs.Parts.{s_term, t_term, u_term, v_term, norm_term}
use Rattle.base_tests.proofs.base_norm.Goals as goal

pub overflow_mul-result : goal.overflow_mul-result
overflow_mul-result c = computed_fits w64 (u_term c.requires ⊗ u_term c.requires) refl

pub overflow_mul-result-2 : goal.overflow_mul-result-2
overflow_mul-result-2 c = computed_fits w64 (s_term c.requires ⊗ u_term c.requires) refl

pub overflow_mul-result-3 : goal.overflow_mul-result-3
overflow_mul-result-3 c = computed_fits w64 (s_term c.requires ⊗ u_term c.requires ⊗ v_term c.requires) refl

pub overflow_add-result : goal.overflow_add-result
overflow_add-result c = let p = c.requires in computed_fits w64 (u_term p ⊗ u_term p ⊕ s_term p ⊗ u_term p ⊗ v_term p) refl

pub overflow_mul-result-4 : goal.overflow_mul-result-4
overflow_mul-result-4 c = computed_fits w64 (t_term c.requires ⊗ v_term c.requires) refl

pub overflow_mul-result-5 : goal.overflow_mul-result-5
overflow_mul-result-5 c = computed_fits w64 (t_term c.requires ⊗ v_term c.requires ⊗ v_term c.requires) refl

pub overflow_sub-result : goal.overflow_sub-result
overflow_sub-result c = computed_fits w64 (norm_term c.requires) refl

pub returns : goal.returns
unfolding base_norm
returns c = stored_is w64 (norm_term c.requires) refl
