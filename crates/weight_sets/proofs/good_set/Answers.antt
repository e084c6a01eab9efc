use Rattle.layout_rules.specs.Section.{of_degree}
use Rattle.weight_sets.proofs.Bits.{has_none}
use Rattle.weight_sets.proofs.Weights.{good_next}
use Rattle.weight_sets.specs.Weights.{Good}
use lib.Bits.{bit_or}
use mathlib.Core.Path.{subst, sym, ap, ◌∙◌}
use Rattle.weight_sets.proofs.good_set.Goals.{then-gives_digit_by, else-gives_digit_by}
use Rattle.weight_sets.proofs.good_set.Goals as goal

pub loop-number-init : goal.loop-number-init
loop-number-init c = λ j h. absurd (has_none j h)

pub loop-number-preserved : goal.loop-number-preserved
loop-number-preserved c =
    let alphabet = of_degree c.args.degree c.args.alphabet.now in
    let leaves = of_degree c.args.degree c.args.leaves.now in
    let good = c.loop-number.good in
    elim c.if-gives_digit_by.branch [
      | then-gives_digit_by w ↦
          subst (Good alphabet leaves c.args.first.now c.args.part) (sym (w.good-is ∙ ap (bit_or good) w.single-good.ensures))
          (good_next alphabet leaves c.args.first.now c.args.part good c.loop-number.number (sym c.gives_digit_by.ensures ∙ w.if-gives_digit_by.true) c.loop-number.invariant)
      | else-gives_digit_by w ↦ subst (Good alphabet leaves c.args.first.now c.args.part) (sym w.good-is) c.loop-number.invariant
    ]

pub returns : goal.returns
returns c = c.loop-number.invariant
