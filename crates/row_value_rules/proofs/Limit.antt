-- Laws of the limit on a total's parts.
use mathlib.Core.Path.{◌≡◌, refl, sym, ap, ◌∙◌}
use mathlib.Core.Bool.{Bool, true, false, ◌&&◌}
use mathlib.Core.List.{List, [], ◌∷◌}
use mathlib.Core.Logic.{⊎_elim}
use Prim.Native.Nat.{ℕ, zero, suc, ◌<◌, zero-le}
use native.Mathlib.Omega.{arith}
use lib.ListN.{length}
use lib.IntN.{ℤ, pos, negsuc, nat_abs}
use lib.Signed.{lt_z, le_z}
use lib.Dec.{leb}
use borrow.Author.Tests.{ltb-true, ltb-false, leb-true, leb-false, le-leb, lt-leb}
use Rattle.lists.proofs.Test.{clash, both, not_both}
use Rattle.ring.specs.Element.{part}
use Rattle.ring.specs.Tests.{Within}
use Rattle.ring.proofs.Parts.{four_parts, grouped}
use Rattle.row_value_rules.specs.Total.{total_limit, limited}

-- a number within ±(n + 1), from two tests on it
pub too_low : (z : ℤ) (n : ℕ) → lt_z z (negsuc n) ≡ true → false ≡ leb (nat_abs z) (suc n)
too_low (pos a) n h = clash h refl
too_low (negsuc a) n h = sym (lt-leb (suc a) (suc n) (omega (arith, ltb-true n a h)))

pub not_too_low : (z : ℤ) (n : ℕ) → lt_z z (negsuc n) ≡ false → le_z z (pos (suc n)) ≡ leb (nat_abs z) (suc n)
not_too_low (pos a) n h = refl
not_too_low (negsuc a) n h = sym (le-leb (suc a) (suc n) (omega (arith, ltb-false n a h)))

pub limited_four : (x : List ℤ) → length x ≡ 4 → let inside : ℕ → Bool = λ k. leb (nat_abs (part x k)) total_limit in limited x ≡ (inside 0 && inside 1 && inside 2 && inside 3)
unfolding limited
limited_four x h =
    let inside : ℕ → Bool = λ k. leb (nat_abs (part x k)) total_limit in
    ap limited (four_parts x h) ∙ grouped (inside 0) (inside 1) (inside 2) (inside 3)

-- what the test says
pub limited_within : (x : List ℤ) → limited x ≡ true → Within total_limit x
unfolding limited Within
limited_within [] t k = zero-le
limited_within (a ∷ x) t zero = leb-true (nat_abs a) total_limit (both (leb (nat_abs a) total_limit) (limited x) t).0
limited_within (a ∷ x) t (suc k) = limited_within x (both (leb (nat_abs a) total_limit) (limited x) t).1 k

pub limited_fails : (x : List ℤ) → limited x ≡ false → (k : ℕ) × (total_limit < nat_abs (part x k))
unfolding limited
limited_fails [] t = clash refl t
limited_fails (a ∷ x) t =
    ⊎_elim (λ l. (0, leb-false (nat_abs a) total_limit l))
    (λ r. let w : (k : ℕ) × (total_limit < nat_abs (part x k)) = limited_fails x r in (suc w.0, w.1))
    (not_both (leb (nat_abs a) total_limit) (limited x) t)
