-- The first of the five rules that finds a fault; those before it found none.
use mathlib.Core.Path.{refl, sym, ◌∙◌}
use Rattle.faults.proofs.Passed.{passed_first, passed_next, ok_kept}
use Rattle.prefix_rules.specs.Check.{leaf_check}
use Rattle.prefix_rules.proofs.Stage.{cover_some}
use Rattle.prefix_scan.proofs.first_broken.Goals as goal

pub returns-in_err-places : goal.returns-in_err-places
unfolding leaf_check
returns-in_err-places c = passed_first _ _ c.from_residual.ensures.1 c.in_err-places.ensures

pub returns-in_err-indexes : goal.returns-in_err-indexes
unfolding leaf_check
returns-in_err-indexes c = passed_first _ _ c.from_residual-in_err-indexes.ensures.1 c.in_err-indexes.ensures ∙ passed_next _ _ c.in_ok-places.ensures

pub returns-in_err-order : goal.returns-in_err-order
unfolding leaf_check
returns-in_err-order c =
    passed_first _ _ c.from_residual-in_err-order.ensures.1 c.in_err-order.ensures
    ∙ passed_next _ _ c.in_ok-indexes.ensures
    ∙ passed_next _ _ c.in_ok-places.ensures

pub returns-in_err-cover : goal.returns-in_err-cover
unfolding leaf_check
returns-in_err-cover c =
    passed_first _ _ c.from_residual-in_err-cover.ensures.1 c.in_err-cover.ensures
    ∙ passed_next _ _ c.in_ok-order.ensures
    ∙ passed_next _ _ c.in_ok-indexes.ensures
    ∙ passed_next _ _ c.in_ok-places.ensures

pub zero_weight-requires : goal.zero_weight-requires
zero_weight-requires c = cover_some _ _ _ _ refl (ok_kept _ (sym c.in_ok-cover.ensures))

pub returns : goal.returns
unfolding leaf_check
returns c =
    c.zero_weight.ensures
    ∙ passed_next _ _ c.in_ok-cover.ensures
    ∙ passed_next _ _ c.in_ok-order.ensures
    ∙ passed_next _ _ c.in_ok-indexes.ensures
    ∙ passed_next _ _ c.in_ok-places.ensures
