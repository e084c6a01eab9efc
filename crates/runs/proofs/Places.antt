-- The first place above a bound, between two places that come nearer.
use mathlib.Core.Path.{◌≡◌, subst}
use mathlib.Core.List.{List}
use Prim.Native.Nat.{ℕ, suc, ◌+◌, ◌-◌, ◌<◌, ◌≤◌}
use native.Mathlib.Omega.{arith}
use native.Mathlib.Decide.{dec_lt}
use native.Mathlib.Nat.{le_antisymm}
use lib.ListN.{get_or}
use Rattle.runs.specs.Words.{Between, FirstAbove, LastLow}

module _ (keys : List ℕ) (bound from end : ℕ) where
  pub between_all : from ≤ end → Between keys bound from end from end
  between_all h =
      record { from_low = omega arith; in_order = h; to_end = omega arith; before = λ k l e. absurd (omega arith); above = λ l. absurd (omega arith) }

  module _ (low high : ℕ) (is : Between keys bound from end low high) where
    pub between_above : (k : ℕ) → low ≤ k → k < high → get_or keys k 0 ≤ bound → Between keys bound from end (k + 1) high
    between_above k h l e =
        record {
          from_low = omega (arith, is.from_low);
          in_order = omega arith;
          to_end = is.to_end;
          before = λ j _ same. let at : k ≡ j = omega arith in subst (λ (i : ℕ). get_or keys i 0 ≤ bound) at e;
          above = is.above;
        }

    pub between_below : (k : ℕ) → low ≤ k → k < high → bound < get_or keys k 0 → Between keys bound from end low k
    between_below k h l e =
        record { from_low = is.from_low; in_order = h; to_end = omega (arith, is.to_end); before = is.before; above = λ _. e }

    pub between_met : high ≤ low → FirstAbove keys bound from end low
    between_met h = let same : high ≡ low = le_antisymm h is.in_order in subst (λ (k : ℕ). Between keys bound from end low k) same is

    -- a search between them
    pub between_found : (r : ℕ) → FirstAbove keys bound low high r → FirstAbove keys bound from end r
    between_found r found =
        record {
          from_low = omega (arith, is.from_low, found.from_low);
          in_order = omega arith;
          to_end = omega (arith, is.to_end, found.to_end);
          before = λ k h e. elim (dec_lt k low) [ yes l ↦ is.before k h (omega (arith, found.from_low)) | no l ↦ found.before k (omega arith) e ];
          above = λ h. elim (dec_lt r high) [
            | yes l ↦ found.above l
            | no l ↦ let same : high ≡ r = le_antisymm (omega arith) found.to_end in subst (λ (k : ℕ). bound < get_or keys k 0) same (is.above (omega arith))
          ];
        }

-- the place before the first above the bound
pub last_low : (keys : List ℕ) (bound low end r : ℕ) → (0 < low → get_or keys low 0 ≤ bound) → FirstAbove keys bound (low + 1) end r → LastLow keys bound end (r - 1)
last_low keys bound low end r there found =
    record {
      inside = omega (arith, found.from_low, found.to_end);
      low = λ h. elim (dec_lt low (r - 1)) [
        | yes l ↦ found.before (r - 1) (omega arith) (omega (arith, found.from_low))
        | no l ↦ let at : low ≡ r - 1 = omega (arith, found.from_low) in subst (λ (k : ℕ). get_or keys k 0 ≤ bound) at (there (omega arith))
      ];
      last = λ h. let at : r ≡ suc (r - 1) = omega (arith, found.from_low) in subst (λ (k : ℕ). bound < get_or keys k 0) at (found.above (omega arith));
    }

-- a place at most the bound, whose next one is above it
pub next_above : (keys : List ℕ) (bound end r : ℕ) → r < end → (0 < r → get_or keys r 0 ≤ bound) → (r + 1 < end → bound < get_or keys (r + 1) 0) → LastLow keys bound end r
next_above keys bound end r inside low above =
    record { inside = inside; low = low; last = λ h. let at : r + 1 ≡ suc r = omega arith in subst (λ (k : ℕ). bound < get_or keys k 0) at (above (omega arith)) }
