-- What rows and edits that pass rules 20 to 26 give to later layers.
use mathlib.Core.Path.{◌≡◌}
use mathlib.Core.Bool.{Bool, true}
use mathlib.Core.List.{List}
use Prim.Native.Nat.{ℕ, ◌+◌, ◌<◌, ◌≤◌}
use native.Mathlib.Omega.{arith}
use lib.ListN.{length}
use lib.Dec.{leb, ltb, eqb}
use borrow.Author.Tests.{ltb-true, leb-true, eqb-true}
use Rattle.lists.proofs.Test.{both}
use Rattle.faults.specs.Check.{◌then◌}
use Rattle.faults.proofs.Check.{then_kept, judge_passed}
use Rattle.row_rules.specs.Check.{judge_one, lengths_allowed, index_allowed, index_check, room_allowed, row_check, digits_check, one_row_check, edit_check}
use Rattle.row_rules.specs.Fit.{Indexes, EditFits}
use Rattle.row_rules.specs.Rows.{RowFits, RowsFit}

-- what the tests say
pub lengths_say : (n m : ℕ) → lengths_allowed n m ≡ true → (n ≤ 256) × (m ≡ n)
unfolding lengths_allowed
lengths_say n m t =
    let b : (leb n 256 ≡ true) × (eqb m n ≡ true) = both _ _ t in
    (leb-true _ _ b.0, eqb-true _ _ b.1)

pub room_says : (n depth sum : ℕ) → room_allowed n depth sum ≡ true → n + depth ≤ sum
unfolding room_allowed
room_says n depth sum t = leb-true _ _ t

one_passed : (number : ℕ) (allowed : Bool) → 0 < number → (judge_one number allowed).number ≡ 0 → allowed ≡ true
one_passed number allowed some h = judge_passed number (λ k. k) (λ _. allowed) 1 some h 0 (omega arith)

indexes_say : (number digits : ℕ) (row : List ℕ) → 0 < number → (index_check number digits row).number ≡ 0 → Indexes digits row
unfolding index_check index_allowed
indexes_say number digits row some h k l = ltb-true _ _ (judge_passed number (λ k. k) _ (length row) some h k l)

-- 20 to 23
pub rows_fit : (first second : List ℕ) (sum digits depth : ℕ) → (row_check first second sum digits depth).number ≡ 0 → RowsFit first second sum digits depth
unfolding row_check
rows_fit first second sum digits depth h =
    let a : ((judge_one 20 (lengths_allowed (length first) (length second))).number ≡ 0) × ((index_check 21 digits first then index_check 22 digits second then judge_one 23 (room_allowed (length first) depth sum)).number ≡ 0) = then_kept _ _ h in
    let b : ((index_check 21 digits first).number ≡ 0) × ((index_check 22 digits second then judge_one 23 (room_allowed (length first) depth sum)).number ≡ 0) = then_kept _ _ a.1 in
    let d : ((index_check 22 digits second).number ≡ 0) × ((judge_one 23 (room_allowed (length first) depth sum)).number ≡ 0) = then_kept _ _ b.1 in
    let l : (length first ≤ 256) × (length second ≡ length first) = lengths_say _ _ (one_passed 20 _ (omega arith) a.0) in
    record {
      same_length = l.1;
      short = l.0;
      first_indexes = indexes_say 21 digits first (omega arith) b.0;
      second_indexes = indexes_say 22 digits second (omega arith) d.0;
      room = room_says _ _ _ (one_passed 23 _ (omega arith) d.1);
    }

-- 20 of a number of digits
pub digits_fit : (n : ℕ) → (digits_check n).number ≡ 0 → n ≤ 256
digits_fit n h = leb-true _ _ (one_passed 20 _ (omega arith) h)

-- 20 and 21 of one row
pub row_fits : (row : List ℕ) (digits : ℕ) → (one_row_check row digits).number ≡ 0 → RowFits row digits
unfolding one_row_check
row_fits row digits h =
    let a : ((digits_check (length row)).number ≡ 0) × ((index_check 21 digits row).number ≡ 0) = then_kept _ _ h in
    record { short = digits_fit _ a.0; indexes = indexes_say 21 digits row (omega arith) a.1 }

-- 24 to 26
pub edit_fits : (row place digit n digits : ℕ) → (edit_check row place digit n digits).number ≡ 0 → EditFits row place digit n digits
unfolding edit_check
edit_fits row place digit n digits h =
    let a : ((judge_one 24 (leb row 1)).number ≡ 0) × ((judge_one 25 (ltb place n) then judge_one 26 (ltb digit digits)).number ≡ 0) = then_kept _ _ h in
    let b : ((judge_one 25 (ltb place n)).number ≡ 0) × ((judge_one 26 (ltb digit digits)).number ≡ 0) = then_kept _ _ a.1 in
    record {
      known_row = leb-true _ _ (one_passed 24 _ (omega arith) a.0);
      in_row = ltb-true _ _ (one_passed 25 _ (omega arith) b.0);
      index = ltb-true _ _ (one_passed 26 _ (omega arith) b.1);
    }
