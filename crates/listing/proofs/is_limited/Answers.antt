-- The length, then rule 4 on the section.
use Rattle.layout_rules.specs.Section.{of_degree}
use Rattle.listing_rules.proofs.Lines.{limited_not}
use mathlib.Core.Path.{sym, ap, ◌∙◌}
use Prim.Native.Nat.{ℕ, ◌*◌}
use native.Mathlib.Decide.{ℕ_discrete}
use lib.ListN.{length}
use lib.Dec.{eqb}
use Rattle.std.specs.Result.{is_ok}
use Rattle.faults.specs.declared.Refusal.{Refusal}
use Rattle.faults.specs.Passed.{passed}
use Rattle.faults.proofs.Passed.{passed_kept, passed_broken}
use borrow.Author.Tests.{eq-eqb, ne_eqb}
use Rattle.ring.specs.Degree.{part_count}
use Rattle.listing_rules.specs.Listing.{limited_base}
use mathlib.Core.Path.{◌≡◌}
use Rattle.listing.proofs.is_limited.Goals as goal

-- a check finds nothing exactly where its stage is Ok
passed_is_ok : (found : Refusal) → is_ok (passed found) ≡ eqb found.number 0
passed_is_ok found =
    elim (ℕ_discrete found.number 0) [
      | yes e ↦ ap is_ok (passed_kept found e) ∙ sym (eq-eqb found.number 0 e)
      | no e ↦ ap is_ok (passed_broken found e) ∙ sym (ne_eqb found.number 0 e)
    ]

pub returns-then-base-part_count : goal.returns-then-base-part_count
unfolding limited_base
returns-then-base-part_count c =
    let counted : 4 * c.part_count.result ≡ 4 * part_count c.args.degree = ap (λ (n : ℕ). 4 * n) c.part_count.ensures.count in
    rw (eq-eqb (length c.args.base.now) (4 * part_count c.args.degree) (c.if-base-part_count.true ∙ counted)) (c.is_ok.ensures.value ∙ ap is_ok c.limits_in.ensures ∙ passed_is_ok _)

pub returns-else-base-part_count : goal.returns-else-base-part_count
returns-else-base-part_count c =
    let counted : 4 * c.part_count.result ≡ 4 * part_count c.args.degree = ap (λ (n : ℕ). 4 * n) c.part_count.ensures.count in
    ne_eqb _ _ c.if-base-part_count.false ∙ sym (limited_not (of_degree c.args.degree c.args.base.now) (λ e. c.if-base-part_count.false (e ∙ sym (counted))))
