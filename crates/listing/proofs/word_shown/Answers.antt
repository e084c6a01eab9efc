-- A word longer than eight is left out.
use Rattle.layout_rules.specs.Section.{of_degree}
use Rattle.listing_rules.proofs.Lines.{word_kept, word_unread}
use native.Mathlib.Omega.{arith}
use mathlib.Core.Path.{sym, ◌∙◌}
use Rattle.listing.proofs.word_shown.Goals as goal

pub returns-then-word-gt8 : goal.returns-then-word-gt8
returns-then-word-gt8 c =
    let a = c.args in
    record { word = sym (word_unread (of_degree a.degree a.leaves.now) a.words.now a.leaf (rw c.word-word.ensures at c.if-word-gt8.true)); within = omega arith }

pub returns-else-word-gt8 : goal.returns-else-word-gt8
returns-else-word-gt8 c =
    let a = c.args in
    record { word = c.word-word.ensures ∙ sym (word_kept (of_degree a.degree a.leaves.now) a.words.now a.leaf (rw c.word-word.ensures at c.if-word-gt8.false)); within = c.if-word-gt8.false }
