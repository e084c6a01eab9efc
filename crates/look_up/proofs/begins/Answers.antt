-- A word begins the window where no place of it differs.
use mathlib.Core.Path.{◌≡◌, refl, sym, ap, ◌∙◌}
use mathlib.Core.Bool.{Bool, true, not}
use Prim.Native.Nat.{ℕ, ◌≤◌}
use native.Mathlib.Decide.{dec_lt}
use native.Mathlib.Omega.{arith}
use Rattle.std.specs.Prelude.{Option}
use Rattle.std.specs.Option.{is_some}
use Rattle.lists.specs.Found.{below}
use Rattle.lists.proofs.Found.{below_some}
use Rattle.lists.proofs.Test.{clash}
use Rattle.layout_rules.specs.Section.{of_degree}
use Rattle.look_up.proofs.Comparison.{begins_read}
use Rattle.look_up.proofs.begins.Goals as goal

missing : (n i : ℕ) (found : Option ℕ) (none : Bool) → found ≡ below n i → is_some found ≡ not none → none ≡ true → n ≤ i
missing n i found none is some told =
    elim (dec_lt i n) [
      | yes h ↦ clash (ap is_some (is ∙ sym (below_some n i h))) (some ∙ ap not told)
      | no h ↦ omega arith
    ]

pub returns : goal.returns
returns c =
    let a = c.args in
    λ yes. begins_read (of_degree a.degree a.leaves.now) a.words.now a.window.now a.leaf c.word_start-start.result c.word_length-n.result _ c.word_start-start.ensures.start c.word_length-n.ensures.size refl (missing _ _ _ _ c.first_difference.ensures c.is_none.ensures yes)
