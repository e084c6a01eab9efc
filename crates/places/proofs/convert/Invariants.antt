-- Each turn writes the index of one digit, counts the length of the word looked up for it, and hands its leaf on to the next place.
use Rattle.layout_rules.specs.Section.{of_degree}
use Rattle.numeration.specs.Elements.{elements}
use Rattle.places.specs.Helpers.{Firsts}
use Rattle.place_rules.specs.Helpers.{Counted}
use Rattle.places.proofs.Loop.{Converted}
use Rattle.ring.specs.Degree.{part_count}
use Rattle.places.proofs.convert.Given as goal

abbrev pub invariant-loop-k : goal.invariant-loop-k
invariant-loop-k l =
    Converted (elements (part_count l.degree) l.base) (of_degree l.degree l.alphabet) (of_degree l.degree l.inputs) (of_degree l.degree l.leaves) l.words l.row l.from l.count l.initial.out l.out l.below l.reach l.k × Firsts (of_degree l.degree l.alphabet) l.slots × Counted (of_degree l.degree l.leaves) l.found l.reach
