-- Laws of the tests of rules 20 to 23 for the functions that run them.
use mathlib.Core.Path.{◌≡◌, sym, ◌∙◌}
use mathlib.Core.Bool.{not}
use mathlib.Core.List.{List}
use Prim.Native.Nat.{ℕ, ◌+◌, ◌-◌, ◌<◌, ◌≤◌}
use native.Mathlib.Omega.{arith}
use native.Mathlib.Decide.{dec_lt}
use lib.ListN.{length, get_or}
use lib.Dec.{leb, ltb, eqb}
use Rattle.std.proofs.Common.{Some, None}
use Rattle.std.specs.List.{position}
use Rattle.lists.specs.Scan.{first_failing}
use Rattle.lists.specs.Found.{below}
use Rattle.lists.proofs.Found.{some_below, none_below, position_below}
use borrow.Author.Tests.{lt-ltb, le-ltb, le-leb, lt-leb, leb-true}
use Rattle.lists.proofs.Test.{same_outcome}
use Rattle.row_rules.specs.Check.{lengths_allowed, index_allowed, room_allowed}

pub over : (n m : ℕ) → 256 < n → leb n 256 ≡ lengths_allowed n m
unfolding lengths_allowed
over n m h = rw (lt-leb n 256 h)

pub not_over : (n m : ℕ) → n ≤ 256 → eqb m n ≡ lengths_allowed n m
unfolding lengths_allowed
not_over n m h = rw (le-leb n 256 h)

-- a search for a byte that is no alphabet index, from its two answers
searched : (digits : ℕ) (row : List ℕ) → position (λ d. leb digits d) row ≡ below (length row) (first_failing (index_allowed digits row) 0 (length row))
unfolding index_allowed
searched digits row = position_below (λ d. leb digits d) (index_allowed digits row) row (λ k _. ltb_not (get_or row k 0) digits)
  where
    ltb_not : (a b : ℕ) → ltb a b ≡ not (leb b a)
    ltb_not a b =
        elim (dec_lt a b) [
          | yes h ↦ rw (lt-ltb a b h, lt-leb b a h)
          | no h ↦ rw (le-ltb a b (omega arith), le-leb b a (omega arith))
        ]

pub found_at : (digits : ℕ) (row : List ℕ) (k : ℕ) → Some k ≡ position (λ d. leb digits d) row → (k ≡ first_failing (index_allowed digits row) 0 (length row)) × (k < length row)
found_at digits row k e =
    let at = some_below (length row) (first_failing (index_allowed digits row) 0 (length row)) k (sym (e ∙ searched digits row)) in
    (at.0, rw (sym at.0) at at.1)

pub found_nowhere : (digits : ℕ) (row : List ℕ) → None ≡ position (λ d. leb digits d) row → length row ≤ first_failing (index_allowed digits row) 0 (length row)
found_nowhere digits row e = none_below (length row) (first_failing (index_allowed digits row) 0 (length row)) (sym (e ∙ searched digits row))

pub no_room : (n depth sum : ℕ) → sum < n → leb n sum ≡ room_allowed n depth sum
unfolding room_allowed
no_room n depth sum h = rw (lt-leb (n + depth) sum (omega arith), lt-leb n sum h)

pub some_room : (n depth sum : ℕ) → n ≤ sum → leb depth (sum - n) ≡ room_allowed n depth sum
unfolding room_allowed
some_room n depth sum h =
    same_outcome _ _ (λ t. le-leb (n + depth) sum (omega (arith, leb-true depth (sum - n) t))) (λ t. le-leb depth (sum - n) (omega (arith, leb-true (n + depth) sum t)))
