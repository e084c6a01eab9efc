-- The outcome of the row, with the matrix of the base section.
use mathlib.Core.Path.{sym, ap, subst, ◌∙◌}
use Prim.Native.Nat.{◌^◌}
use Rattle.layout_rules.specs.Section.{of_degree}
use Rattle.ring.specs.Tests.{RowsWithin}
use Rattle.digit_rules.proofs.Base.{base_within}
use Rattle.row_value_rules.specs.Total.{worth_of}
use Rattle.row_value.specs.Answer.{outcome_of}
use Rattle.value_call.proofs.total.Goals as goal

pub row_value_by-requires : goal.row_value_by-requires
row_value_by-requires c = (subst (RowsWithin (2 ^ 21)) (sym c.base_of.ensures) (base_within _ c.requires.0), c.requires.1)

pub returns-in-Ok : goal.returns-in-Ok
returns-in-Ok c =
    sym (ap outcome_of c.in-Ok.is) ∙ c.row_value_by.ensures ∙ (λ i. worth_of (c.base_of.ensures i) (of_degree c.args.degree c.args.alphabet.now) c.args.row.now)

pub returns-in-Err : goal.returns-in-Err
returns-in-Err c =
    sym (ap outcome_of c.in-Err.is) ∙ c.row_value_by.ensures ∙ (λ i. worth_of (c.base_of.ensures i) (of_degree c.args.degree c.args.alphabet.now) c.args.row.now)
