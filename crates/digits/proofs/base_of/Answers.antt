-- The two records give the matrix.
use mathlib.Core.Path.{◌≡◌, sym, subst, ◌∙◌}
use Prim.Native.Nat.{◌-◌}
use native.Mathlib.Omega.{arith}
use lib.ListN.{length}
use Rattle.lists.specs.Span.{span}
use Rattle.ring.specs.Degree.{part_count}
use Rattle.ring.specs.Element.{part}
use Rattle.ring.specs.Padded.{padded}
use Rattle.ring.specs.Tests.{BaseSizes}
use Rattle.layout_rules.specs.Section.{Section, of_degree}
use Rattle.digit_rules.specs.Base.{omega_of, beta_of}
use Rattle.digit_rules.proofs.Base.{two_records, omega_turned, beta_record, base_sizes, matrix_read}
use Rattle.digits.proofs.base_of.Goals as goal

pub record_at-requires : goal.record_at-requires
record_at-requires c = let s = c in omega (arith, two_records s.args.degree (length s.args.base.now) s.requires.long)

pub record_at-requires-2 : goal.record_at-requires-2
record_at-requires-2 c = let s = c in omega (arith, two_records s.args.degree (length s.args.base.now) s.requires.long)

pub base_matrix-requires : goal.base_matrix-requires
base_matrix-requires c =
    let base : Section = of_degree c.args.degree c.args.base.now in
    let power : c.turned-omega.result ≡ padded (omega_of (base)) = let s = c in let d = part_count s.args.degree in c.turned-omega.ensures ∙ (λ i. padded (span (λ k. part (c.record_at.ensures.element i) (d - 1 - k)) 0 d)) ∙ sym (omega_turned (base)) in
    let beta : c.record_at-2.result ≡ padded (beta_of (base)) = c.record_at-2.ensures.element ∙ beta_record (base) in
    let s = c in
    let of : BaseSizes s.args.degree (padded (omega_of (base))) (padded (beta_of (base))) = base_sizes (base) s.requires in
    subst (λ x. BaseSizes s.args.degree x c.record_at-2.result) (sym (power)) (subst (BaseSizes s.args.degree (padded (omega_of (base)))) (sym (beta)) of)

pub returns : goal.returns
returns c =
    let base : Section = of_degree c.args.degree c.args.base.now in
    let power : c.turned-omega.result ≡ padded (omega_of (base)) = let s = c in let d = part_count s.args.degree in c.turned-omega.ensures ∙ (λ i. padded (span (λ k. part (c.record_at.ensures.element i) (d - 1 - k)) 0 d)) ∙ sym (omega_turned (base)) in
    let beta : c.record_at-2.result ≡ padded (beta_of (base)) = c.record_at-2.ensures.element ∙ beta_record (base) in
    c.base_matrix.ensures.matrix ∙ matrix_read (base) _ _ (power) (beta)
