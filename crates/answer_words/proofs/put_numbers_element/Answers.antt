-- The numbers as they were stored, each part widened to 64 bits, and as many parts written as the degree says.
use mathlib.Core.Path.{refl, ap, ◌∙◌}
use mathlib.Core.List.{[], ◌∷◌}
use lib.IntN.{pos}
use Rattle.answer_rules.proofs.Parts.{parts_widened, first_words}
use Rattle.answer_rules.proofs.Bits.{kept}
use Rattle.answer_rules.specs.Word.{word_of}
use Rattle.ring.specs.Degree.{part_count}
use Rattle.lists.specs.Overwrite.{overwrite}
use Rattle.lists.proofs.Cons.{cons≡}
use borrow.Author.Rules.{rules}
use Rattle.answer_words.proofs.put_numbers_element.Goals as goal

pub returns : goal.returns
returns c =
    let a = c.args in
    let x = a.x in
    let wide = parts_widened x.a x.b x.c x.d (search rules) (search rules) (search rules) (search rules) in
    let stored = kept _ _ c.word-3.type_inv c.word-3.ensures in
    let last = cons≡ (kept _ _ c.word-2.type_inv c.word-2.ensures) (cons≡ stored refl) in
    let head = cons≡ refl (cons≡ (kept _ _ c.word.type_inv c.word.ensures) last) in
    let told = pos 0 ∷ word_of a.n ∷ word_of a.m ∷ word_of a.k ∷ [] in
    let count = c.part_count-end in
    let words = first_words count.result (part_count a.degree) _ told _ _ count.ensures.count head wide in
    record { status = refl; answer = c.put.ensures ∙ ap (overwrite a.answer.now 0) words }
