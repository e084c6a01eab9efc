-- The word, as it was stored.
use Rattle.answer_rules.proofs.Bits.{kept}
use Rattle.lists.specs.Overwrite.{overwrite}
use Rattle.lists.proofs.Cons.{cons≡}
use mathlib.Core.Path.{refl, ap, ◌∙◌}
use Rattle.answer_words.proofs.put_number.Goals as goal

pub returns : goal.returns
returns c =
    let words = cons≡ refl (cons≡ (kept _ _ c.word.type_inv c.word.ensures) refl) in
    record { status = refl; answer = c.put.ensures ∙ ap (overwrite c.args.answer.now 0) words }
