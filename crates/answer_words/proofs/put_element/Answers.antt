-- Each part widened to 64 bits, and as many written as the degree says.
use mathlib.Core.List.{[], ◌∷◌}
use mathlib.Core.Path.{refl, ap, ◌∙◌}
use lib.IntN.{pos}
use borrow.Author.Rules.{rules}
use Rattle.lists.specs.Overwrite.{overwrite}
use Rattle.ring.specs.Degree.{part_count}
use Rattle.answer_rules.proofs.Parts.{parts_widened, first_words}
use Rattle.answer_words.proofs.put_element.Goals as goal

pub returns : goal.returns
returns c =
    let x = c.args.x in
    let count = c.part_count-end in
    let wide = parts_widened x.a x.b x.c x.d (search rules) (search rules) (search rules) (search rules) in
    record { status = refl; answer = c.put.ensures ∙ ap (overwrite c.args.answer.now 0) (first_words count.result (part_count c.args.degree) _ (pos 0 ∷ []) _ _ count.ensures.count refl wide) }
