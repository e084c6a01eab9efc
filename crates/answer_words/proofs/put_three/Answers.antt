-- The three words, as they were stored.
use mir.ValLaws.{to_z-of_z}
use mir.Syntax.{w64}
use mathlib.Core.Path.{refl, ap, ◌∙◌}
use Rattle.lists.proofs.Cons.{cons≡}
use Rattle.lists.specs.Overwrite.{overwrite}
use Rattle.answer_rules.proofs.Bits.{kept}
use Rattle.answer_words.proofs.put_three.Goals as goal

pub returns : goal.returns
returns c =
    let last = cons≡ (kept _ _ c.word-2.type_inv c.word-2.ensures) refl in
    let words = cons≡ (to_z-of_z w64 c.args.head c.ranges.head) (cons≡ (kept _ _ c.word.type_inv c.word.ensures) last) in
    c.put.ensures ∙ ap (overwrite c.args.answer.now 0) words
