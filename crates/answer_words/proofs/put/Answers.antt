-- The words in place of as many from the start on, and the rest as it was.
use Rattle.std.proofs.Common.{◌≡◌, List, ◌++◌, length, drop, sym, ap, ◌∙◌, zero-add}
use Rattle.lists.specs.Overwrite.{overwrite}
use Rattle.answer_words.proofs.put.Goals as goal

at_start : {A : Type 0} (s new : List A) → new ++ drop (length new) s ≡ overwrite s 0 new
unfolding overwrite
at_start s new = ap (λ n. new ++ drop n s) (sym (zero-add (length new)))

pub returns : goal.returns
returns c = ap (λ x. x ++ drop (length c.args.words.now) c.args.answer.now) c.copy_from_slice.ensures.after ∙ at_start c.args.answer.now c.args.words.now
