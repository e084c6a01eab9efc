-- All lower leaves before the run and in it so far pass, with every base that gives the upper leaf's part.
use mathlib.Core.Path.{◌≡◌}
use mathlib.Core.Bool.{true}
use mathlib.Core.List.{List}
use Prim.Native.Nat.{ℕ, ◌<◌, ◌≤◌}
use lib.IntN.{ℤ}
use Rattle.ring.specs.Degree.{part_count}
use Rattle.layout_rules.specs.Section.{of_degree}
use Rattle.digit_rules.specs.Record.{record_at}
use Rattle.numeration.specs.Elements.{elements}
use Rattle.numeration.specs.PairTests.{fits, pair_passes}
use Rattle.numeration.specs.Runs.{lowest_fit}
use Rattle.leaf_rules.specs.Leaf.{code_of}
use Rattle.table_rules.specs.Pairs.{in_alphabet, upper_part}
use Rattle.pairs.proofs.bad_lower.Given as goal

abbrev pub invariant-loop-lower : goal.invariant-loop-lower
invariant-loop-lower l =
    (lowest_fit (code_of (of_degree l.degree l.leaves) l.words) l.upper ≤ l.lower) × ((matrix : List (List ℤ)) → l.part ≡ upper_part matrix (of_degree l.degree l.inputs) (of_degree l.degree l.leaves) l.words l.upper → (j : ℕ) → j < l.lower → pair_passes (elements (part_count l.degree) matrix) (record_at (of_degree l.degree l.inputs)) (code_of (of_degree l.degree l.leaves) l.words) (in_alphabet (of_degree l.degree l.alphabet)) l.upper j ≡ true)
    × ((l.start ≡ lowest_fit (code_of (of_degree l.degree l.leaves) l.words) l.upper) × ((j : ℕ) → j < l.lower → lowest_fit (code_of (of_degree l.degree l.leaves) l.words) l.upper ≤ j → fits (code_of (of_degree l.degree l.leaves) l.words) l.upper j ≡ true))
