-- Pinned by rows_exact, one_row_exact, digits_decided and edit_exact (proofs/Broken.antt): a reader may skip this file. Rules 20 to 26 of document 01
-- as checks: the rows that are lent and what an editor asks for.
use Rattle.std.specs.Prelude.{List, Bool, ◌&&◌, ℕ, ◌+◌, length, get_or, ltb, leb, eqb}
use Rattle.faults.specs.declared.Refusal.{Refusal}
use Rattle.faults.specs.Check.{judge, ◌then◌}

-- a rule that judges one thing, at place 0
abbrev pub judge_one : ℕ → Bool → Refusal
judge_one number allowed = judge number (λ k. k) (λ _. allowed) 1

-- 20: a row over 256 digits, or lengths differ
unfoldable pub lengths_allowed : ℕ → ℕ → Bool
lengths_allowed n m = leb n 256 && eqb m n

-- 21, 22: a byte of a row is no alphabet index
unfoldable pub index_allowed : ℕ → List ℕ → ℕ → Bool
index_allowed digits row p = ltb (get_or row p 0) digits

unfoldable pub index_check : ℕ → ℕ → List ℕ → Refusal
index_check number digits row = judge number (λ k. k) (index_allowed digits row) (length row)

-- 23: sum buffer under n + h bytes
unfoldable pub room_allowed : ℕ → ℕ → ℕ → Bool
room_allowed n depth sum = leb (n + depth) sum

-- 20 to 23, of two rows, the sum buffer's length, the alphabet's size and the depth
unfoldable pub row_check : List ℕ → List ℕ → ℕ → ℕ → ℕ → Refusal
row_check first second sum digits depth =
    judge_one 20 (lengths_allowed (length first) (length second))
    then index_check 21 digits first
    then index_check 22 digits second
    then judge_one 23 (room_allowed (length first) depth sum)

-- 20, of a number of digits
abbrev pub digits_check : ℕ → Refusal
digits_check n = judge_one 20 (leb n 256)

-- 20 and 21, of the one row of a value call
unfoldable pub one_row_check : List ℕ → ℕ → Refusal
one_row_check row digits = digits_check (length row) then index_check 21 digits row

-- 24: row number above 1. 25: p not below n. 26: new digit no alphabet index
unfoldable pub edit_check : ℕ → ℕ → ℕ → ℕ → ℕ → Refusal
edit_check row place digit n digits =
    judge_one 24 (leb row 1) then judge_one 25 (ltb place n) then judge_one 26 (ltb digit digits)
