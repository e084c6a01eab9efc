-- Leaves that are kept in slots, with their words counted in the reach: none at first, and one more.
use mathlib.Core.Path.{◌≡◌, subst, sym, ap, ◌∙◌}
use mathlib.Core.List.{List}
use Prim.Native.Nat.{ℕ, max, ◌<◌, ◌≤◌}
use native.Mathlib.Decide.{ℕ_discrete}
use native.Mathlib.Omega.{arith}
use lib.ListN.{replicate, get_or, set, length-set, length-replicate, get_or-replicate}
use lib.Seq.{get_or-set_same, get_or-set_other}
use Rattle.layout_rules.specs.Section.{Section}
use Rattle.leaf_rules.specs.Leaf.{leaf_count, word_length}
use Rattle.place_rules.specs.Helpers.{Counted}

-- slots that all hold a number that is no leaf's
pub counted_none : (leaves : Section) (v reach : ℕ) → leaf_count leaves ≤ v → Counted leaves (replicate 256 v) reach
counted_none leaves v reach h =
    record { long = length-replicate {A = ℕ} 256 v; counted = λ s l k. absurd (omega (arith, get_or-replicate 256 s v 0 l)) }

-- a leaf that was looked up, put into a slot
pub counted_more : (leaves : Section) (found : List ℕ) (reach s leaf longest : ℕ) → Counted leaves found reach → longest ≡ max reach (word_length leaves leaf) → Counted leaves (set found s leaf) longest
counted_more leaves found reach s leaf longest is e = record { long = length-set found s leaf ∙ is.long; counted = counted }
  where
    kept : (d : ℕ) → word_length leaves d ≤ reach → word_length leaves d ≤ longest
    kept d h = omega arith

    counted : (t : ℕ) → t < 256 → get_or (set found s leaf) t 0 < leaf_count leaves → word_length leaves (get_or (set found s leaf) t 0) ≤ longest
    counted t l k =
        elim (ℕ_discrete t s) [
          | yes q ↦ let here : get_or (set found s leaf) t 0 ≡ leaf = ap (λ (n : ℕ). get_or (set found s leaf) n 0) q ∙ get_or-set_same found s leaf 0 (omega (arith, is.long)) in omega (arith, ap (word_length leaves) here)
          | no q ↦ let other : get_or (set found s leaf) t 0 ≡ get_or found t 0 = get_or-set_other found s t leaf 0 q in
              subst (λ (d : ℕ). word_length leaves d ≤ longest) (sym other) (kept _ (is.counted t l (omega arith)))
        ]
