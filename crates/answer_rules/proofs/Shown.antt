-- What the call for C that shows a bad row returns and leaves: where one of its arrays is short, and where both have room. The call works on the
-- first nine bytes of the string, which are copied out and written back.
use mathlib.Core.Path.{◌≡◌, refl, sym, ap, ◌∙◌}
use mathlib.Core.Bool.{Bool, true, false}
use mathlib.Core.List.{List, ◌++◌, append_assoc, append-nil}
use Prim.Native.Nat.{ℕ, ◌<◌, ◌≤◌}
use native.Mathlib.Nat.{zero-add}
use native.Mathlib.Omega.{arith}
use lib.IntN.{ℤ}
use lib.Dec.{ltb}
use lib.ListN.{length, take, drop, length-append, take-append-drop, drop_of_length-le}
use lib.Seq.{length-take-le, drop-append-le}
use Rattle.lists.specs.Overwrite.{overwrite}
use Rattle.lists.proofs.Overwrite.{length_overwrite}
use Rattle.faults.specs.Outcome.{Outcome, facts, refused, at_exit}
use Rattle.ring.specs.declared.Degree.{Degree}
use Rattle.bad_row_rules.specs.Shows.{Shows, row, nothing}
use Rattle.table_rules.specs.Check.{bad_pair_of}
use Rattle.bad_row_rules.specs.BadRow.{bad_row_outcome, bad_row_in, shows, string_of, written}
use Rattle.answer_rules.specs.Answer.{outcome_words, outcome_status, if_room, returned, answered, bad_row_words}
use Rattle.answer_rules.proofs.Answer.{no_room, some_room, short, told}

module _ {A : Type 0} where
  at_start : (s new : List A) → overwrite s 0 new ≡ new ++ drop (length new) s
  unfolding overwrite
  at_start s new = ap (λ (n : ℕ). new ++ drop n s) (zero-add (length new))

  -- where a list is as long as the buffer, the buffer is that list
  whole : (lent new : List A) → length lent ≡ length new → overwrite lent 0 new ≡ new
  whole lent new e = at_start lent new ∙ ap (λ (r : List A). new ++ r) (drop_of_length-le lent {i = length new} (omega arith)) ∙ append-nil new

  -- the first entries of a buffer written back
  back : (s front : List A) (n : ℕ) → length front ≡ n → overwrite s 0 front ≡ front ++ drop n s
  back s front n e = at_start s front ∙ ap (λ (k : ℕ). front ++ drop k s) e

  kept_front : (s : List A) (n : ℕ) → n ≤ length s → overwrite s 0 (take n s) ≡ s
  kept_front s n h = back s (take n s) n (length-take-le n s h) ∙ take-append-drop n s

  -- after a run was written into them
  through_front : (s new : List A) (n : ℕ) → length new ≤ n → n ≤ length s → overwrite s 0 (overwrite (take n s) 0 new) ≡ overwrite s 0 new
  through_front s new n l h =
      let front = length-take-le n s h in
      let rest = drop (length new) (take n s) in
      let split = sym (drop-append-le (length new) (take n s) (drop n s) (omega (arith, front))) in
      let again : rest ++ drop n s ≡ drop (length new) s = split ∙ ap (drop (length new)) (take-append-drop n s) in
      back s (overwrite (take n s) 0 new) n (length_overwrite (take n s) 0 new (omega (arith, front)) ∙ front)
      ∙ ap (λ (x : List A). x ++ drop n s) (at_start (take n s) new)
      ∙ append_assoc new rest (drop n s)
      ∙ ap (λ (x : List A). new ++ x) again
      ∙ sym (at_start s new)

-- what a call leaves in a buffer by its outcome, and by what it shows
abbrev left_in : Outcome Shows → Shows → List ℕ → List ℕ → List ℕ
left_in o w string lent = at_exit o lent (written w string lent)

-- the string of a call that worked on the first entries is that of a call that worked on the whole buffer
left : (o : Outcome Shows) (w : Shows) (string s : List ℕ) (n : ℕ) → n ≤ length s → length (left_in o w string (take n s)) ≡ n
    → overwrite s 0 (left_in o w string (take n s)) ≡ left_in o w string s
unfolding at_exit written
left (refused g number place) w string s n h l = kept_front s n h
left (facts f) nothing string s n h l = kept_front s n h
left (facts f) (row r) string s n h l =
    let long = length-append string (drop (length string) (take n s)) in
    through_front s string n (omega (arith, l, ap length (at_start (take n s) string), long)) h

-- what both arrays leave alone is left alone whether or not the second has room
same : {A : Type 0} (b : Bool) (done short : A) → short ≡ done → short ≡ elim b [ true ↦ short | false ↦ done ]
same true done short e = refl
same false done short e = e

either : {A : Type 0} (wanted room : ℕ) (done short : A) → short ≡ done → short ≡ if_room wanted room done short
unfolding if_room
either wanted room done short e = same (ltb room wanted) done short e

module _ (d : Degree) (table string : List ℕ) (answer : List ℤ) where
  abbrev o : Outcome Shows
  o = bad_row_outcome table

  abbrev bytes : ℕ
  bytes = length string

  abbrev words : ℕ
  words = length answer

  abbrev RowLeft : ℕ → List ℤ → List ℕ → Type 0
  RowLeft r last now =
      (r ≡ if_room 9 bytes (returned o answer) 2)
      × ((last ≡ if_room 9 bytes (answered (bad_row_words d) o answer) answer)
      × (now ≡ if_room 9 bytes (if_room 8 words (bad_row_in table string) string) string))

  pub no_words : words < 8 → RowLeft 2 answer string
  no_words h =
      let (status, words_kept) = short (bad_row_words d) o answer h in
      let kept = no_room 8 words (bad_row_in table string) string h in
      (either 9 bytes _ 2 status, (either 9 bytes _ answer words_kept, either 9 bytes _ string kept))

  pub no_bytes : bytes < 9 → RowLeft 2 answer string
  no_bytes h = (no_room 9 bytes _ 2 h, (no_room 9 bytes _ answer h, no_room 9 bytes _ string h))

  -- `lent` is the array of nine bytes that the call was given, `nine` what it left there
  pub as_shown : (given : Outcome Shows) (r : ℕ) (last : List ℤ) (zeros lent nine now : List ℕ) → 8 ≤ words → 9 ≤ bytes
      → lent ≡ overwrite zeros 0 (take 9 string) → length zeros ≡ 9 → length nine ≡ 9 → (given ≡ o) × (nine ≡ bad_row_in table lent)
      → (r ≡ outcome_status given) × (last ≡ overwrite answer 0 (outcome_words (bad_row_words d) given)) → now ≡ overwrite string 0 nine
      → RowLeft r last now
  unfolding bad_row_in
  as_shown given r last zeros lent nine now roomy room copied zeros_nine nine_nine call tells put =
      let (status, words_told) = told (bad_row_words d) o answer given r last roomy call.0 tells.0 tells.1 in
      let is_front : lent ≡ take 9 string = copied ∙ whole zeros (take 9 string) (omega (arith, zeros_nine, length-take-le 9 string room)) in
      let is_nine : nine ≡ bad_row_in table (take 9 string) = call.1 ∙ ap (bad_row_in table) is_front in
      let long = sym (ap length is_nine) ∙ nine_nine in
      let moved = left o (shows table) (string_of table (bad_pair_of table)) string 9 room long in
      let is_now : now ≡ bad_row_in table string = put ∙ ap (overwrite string 0) is_nine ∙ moved in
      let shown = is_now ∙ some_room 8 words (bad_row_in table string) string roomy in
      let done = some_room 9 bytes (if_room 8 words (bad_row_in table string) string) string room in
      let answer_done = some_room 9 bytes (answered (bad_row_words d) o answer) answer room in
      (status ∙ some_room 9 bytes (returned o answer) 2 room, (words_told ∙ answer_done, shown ∙ done))
