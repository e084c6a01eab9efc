-- What the stage of rules 9 to 13 gives.
use mathlib.Core.Path.{◌≡◌, sym, ap, ◌∙◌}
use mathlib.Core.List.{List}
use Prim.Native.Nat.{ℕ, ◌<◌}
use native.Mathlib.Omega.{arith}
use Rattle.layout_rules.specs.Section.{Section}
use Rattle.faults.specs.declared.Refusal.{Refusal}
use Rattle.faults.proofs.Check.{judge_passed}
use Rattle.leaf_rules.specs.Leaf.{leaf_count}
use Rattle.prefix_rules.specs.Check.{cover_check}
use Rattle.prefix_rules.proofs.Coverage.{covered_some}

-- where rule 12 finds nothing there is a leaf
pub cover_some : (leaves : Section) (words : List ℕ) (m : ℕ) (found : Refusal) → found ≡ cover_check leaves words m → found.number ≡ 0 → 0 < leaf_count leaves
unfolding cover_check
cover_some leaves words m found e h = covered_some _ _ 8 0 0 (leaf_count leaves) (judge_passed 12 _ _ 1 (omega arith) (ap (λ (r : Refusal). r.number) (sym e) ∙ h) 0 (omega arith))
