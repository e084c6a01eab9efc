-- Laws of `below`: its two answers, what they say, those of a loop that counts i up to n, and those of a search for an element.
use mathlib.Core.Path.{◌≡◌, refl, sym, ap, ◌∙◌}
use mathlib.Core.Bool.{Bool, true, false, not, cond}
use mathlib.Core.List.{List}
use Prim.Native.Nat.{ℕ, ◌-◌, ◌<◌, ◌≤◌}
use native.Mathlib.Decide.{dec_lt}
use native.Mathlib.Omega.{arith}
use borrow.Author.Tests.{lt-ltb, le-ltb}
use lib.ListN.{length, get_or}
use lib.Dec.{ltb}
use Rattle.std.proofs.Common.{Option, Some, None}
use Rattle.std.specs.Option.{is_some}
use Rattle.std.specs.List.{position}
use Rattle.std.proofs.lemmas.Option.{none-some}
use Rattle.std.proofs.lemmas.List.Sums.{position_or_len_is}
use Rattle.lists.specs.Scan.{first_failing}
use Rattle.lists.specs.Found.{below}
use Rattle.lists.proofs.Scan.{scan_here, scan_out, scan_high, scan_passed, scan_failed}

pub below_some : (n i : ℕ) → i < n → Some i ≡ below n i
unfolding below
below_some n i h = rw (lt-ltb _ _ h, below)

pub below_none : (n i : ℕ) → n ≤ i → None ≡ below n i
unfolding below
below_none n i h = rw (le-ltb _ _ h, below)

pub is_some_below : (n i : ℕ) → is_some (below n i) ≡ ltb i n
unfolding below
is_some_below n i = go (ltb i n)
  where
    go : (b : Bool) → is_some (cond b (Some i) None) ≡ b
    go true = refl
    go false = refl

pub not_not : (a b : Bool) → not a ≡ b → a ≡ not b
not_not true b h = ap not h
not_not false b h = ap not h

abbrev place_or : ℕ → Option ℕ → ℕ
place_or d o = elim o [ None ↦ d | Some k ↦ k ]

-- what the two answers say of the place
pub some_below : (n i k : ℕ) → below n i ≡ Some k → (k ≡ i) × (i < n)
some_below n i k e =
    elim (dec_lt i n) [
      | yes h ↦ (ap (place_or i) (sym e ∙ sym (below_some n i h)), h)
      | no h ↦ absurd (none-some k (below_none n i (omega arith) ∙ e))
    ]

pub none_below : (n i : ℕ) → below n i ≡ None → n ≤ i
none_below n i e =
    elim (dec_lt i n) [
      | yes h ↦ absurd (none-some i (sym e ∙ sym (below_some n i h)))
      | no h ↦ omega arith
    ]

-- for a loop that counts i up to n: its hit and its end
pub found_here : (test : ℕ → Bool) (i n : ℕ) → first_failing test i (n - i) ≡ first_failing test 0 n → i < n → test i ≡ false → Some i ≡ below n (first_failing test 0 n)
found_here test i n same h fails =
    let at : i ≡ first_failing test 0 n = sym (scan_here test i n h fails) ∙ same in
    below_some n i h ∙ ap (below n) at

pub found_out : (test : ℕ → Bool) (i n : ℕ) → first_failing test i (n - i) ≡ first_failing test 0 n → n ≤ i → None ≡ below n (first_failing test 0 n)
found_out test i n same h =
    let at : i ≡ first_failing test 0 n = sym (scan_out test i n h) ∙ same in
    below_none n i h ∙ ap (below n) at

-- the first element that passes, where a test of places says the opposite
pub position_below : (p : ℕ → Bool) (test : ℕ → Bool) (xs : List ℕ) → ((k : ℕ) → k < length xs → test k ≡ not (p (get_or xs k 0))) → position p xs ≡ below (length xs) (first_failing test 0 (length xs))
unfolding below
position_below p test xs same = ap (below (length xs)) (position_or_len_is p xs at 0 (omega (arith, scan_high test 0 (length xs))) before here)
  where
    at : ℕ
    at = first_failing test 0 (length xs)

    opposite : (b : Bool) (k : ℕ) → k < length xs → test k ≡ b → p (get_or xs k 0) ≡ not b
    opposite b k h e = not_not _ _ (sym (same k h) ∙ e)

    before : (k : ℕ) → k < at → p (get_or xs k 0) ≡ false
    before k h = opposite true k (omega (arith, scan_high test 0 (length xs))) (scan_passed test 0 (length xs) k (omega arith) h)

    here : at < length xs → p (get_or xs at 0) ≡ true
    here h = opposite false at h (scan_failed test 0 (length xs) (omega arith))
