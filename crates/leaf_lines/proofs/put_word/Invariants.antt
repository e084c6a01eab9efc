-- After some columns their texts are written.
use mathlib.Core.Path.{◌≡◌}
use mathlib.Core.List.{◌++◌}
use Rattle.layout_rules.specs.Section.{of_degree}
use Rattle.listing_rules.specs.Listing.{word_text}
use Rattle.leaf_lines.proofs.put_word.Given as goal

abbrev pub invariant-loop-i : goal.invariant-loop-i
invariant-loop-i g l = l.text ≡ l.initial.text ++ word_text l.width (of_degree l.degree l.inputs) l.word l.i
