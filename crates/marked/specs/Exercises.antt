-- Examples, all computed; no promise rests on them, so a reader may skip this file. Document 01's "Marked table of exercises": a single
-- table, and what it says.
use Rattle.std.specs.Prelude.{◌≡◌, Bool, true, false, List, [], ◌∷◌, ℕ, ℤ, pos, negsuc, set, length}
use Rattle.ring.specs.Product.{product}
use Rattle.ring.specs.Tests.{expanding}
use Rattle.faults.specs.Outcome.{Outcome, author, rows as of_rows, facts, refused}
use Rattle.table_rules.specs.declared.Facts.{Facts}
use Rattle.table_rules.specs.Check.{check_outcome}
use Rattle.adder_rules.specs.declared.AddedFacts.{AddedFacts}
use Rattle.adder_rules.specs.Calls.{add_outcome, add_sum}
use Rattle.forecast_rules.specs.declared.ForecastFacts.{ForecastFacts}
use Rattle.forecast_rules.specs.Forecast.{forecast_outcome}
use Rattle.bad_row_rules.specs.Shows.{Shows, row, nothing}
use Rattle.bad_row_rules.specs.BadRow.{bad_row_outcome, bad_row_in}
use Rattle.row_rules.specs.declared.Change.{Change}
use Rattle.edit_rules.specs.declared.EditedFacts.{EditedFacts}
use Rattle.edit_rules.specs.State.{State, state}
use Rattle.edit_rules.specs.Run.{run}
use Rattle.edit_rules.specs.Orders.{InTurn, in_turn}
use Rattle.runner_rules.specs.declared.RanFacts.{RanFacts}
use Rattle.runner_rules.specs.Told.{groups_of, numbers_of, values_of}
use Rattle.runner_rules.specs.Run.{asked_edits, run_outcome, run_all}
use Rattle.runner_rules.specs.Follows.{told_in}
use Rattle.carried.specs.Tables.{tern_inputs, tern_leaves, tern_file, bin_inputs, bin_leaves, bin_file, whole, whole_file}
use Rattle.marked.specs.Degrees.{cubic_with, cubic, quartic_with, quartic, root, complex_root}

pub data Exercise : Type 0 where
  -- the parts of ω to the power d, lowest power first, and two elements: their product
  product_of : List ℤ → List ℤ → List ℤ → Exercise
  -- s, t, u, v: is the base expanding?
  expands : ℤ → ℤ → ℤ → ℤ → Exercise
  -- a table file: the check's outcome
  checks : List ℕ → Exercise
  -- a table file and a number of digits: the forecast's outcome
  forecasts : List ℕ → ℕ → Exercise
  -- a table file and the bytes for the string: what is shown, and the bytes after it
  shows_row : List ℕ → List ℕ → Exercise
  -- a table file, two rows and the sum buffer: the outcome of addition and the buffer after it
  adds : List ℕ → List ℕ → List ℕ → List ℕ → Exercise
  -- a table file, two rows and the sum buffer, and edits after the addition: the buffers after the list, and the answers
  runs : List ℕ → List ℕ → List ℕ → List ℕ → List Change → Exercise
  -- a table file, the buffers, the row numbers, places and digits of edits, and three slices for the answers: the runner's outcome, the
  -- buffers and the slices after it
  lists : List ℕ → State → List ℕ → List ℕ → List ℕ → List ℕ → List ℕ → List ℕ → Exercise
  -- a table file, the buffers and two edits: their answers and the buffers after them, and the same in the other order
  orders : List ℕ → State → Change → Change → Exercise

pub data Answer : Type 0 where
  element : List ℤ → Answer
  verdict : Bool → Answer
  outcome : Outcome Facts → Answer
  expects : Outcome ForecastFacts → Answer
  shown : Outcome Shows → List ℕ → Answer
  summed : Outcome AddedFacts → List ℕ → Answer
  ran : State → List (Outcome EditedFacts) → Answer
  listed : Outcome RanFacts → State → List ℕ → List ℕ → List ℕ → Answer
  ordered : InTurn → InTurn → Answer

-- by the definitions that the contracts cite
unfoldable pub answer : Exercise → Answer
answer (product_of r x y) = element (product r x y)
answer (expands s t u v) = verdict (expanding s t u v)
answer (checks file) = outcome (check_outcome file)
answer (forecasts file n) = expects (forecast_outcome file n)
answer (shows_row file string) = shown (bad_row_outcome file) (bad_row_in file string)
answer (adds file first second sum) = summed (add_outcome file first second (length sum)) (add_sum file first second sum)
answer (runs file first second sum edits) =
    ran (run file (state first second sum) edits).buffers (run file (state first second sum) edits).answers
answer (lists file s rows places digits whose numbers values) =
    let es = asked_edits rows places digits whose numbers values in
    listed (run_outcome file s (length es)) (run_all file s es).buffers (told_in file s es groups_of whose) (told_in file s es numbers_of numbers) (told_in file s es values_of values)
answer (orders file s e f) = ordered (in_turn file e f s) (in_turn file f e s)

pub record Case : Type 0 where
  pub exercise : Exercise
  pub expected : Answer

abbrev pair : ℤ → ℤ → List ℤ
pair a b = a ∷ b ∷ []

-- TERN with weight 0 at input 2, whose word is leaf 2's
unfoldable pub tern_without : List ℕ
tern_without =
    whole_file (pos 3) (pos 0 ∷ pos 1 ∷ pos 2 ∷ negsuc 0 ∷ negsuc 1 ∷ []) tern_inputs (set tern_leaves 2 (2 ∷ [], whole (pos 0)))

-- BIN with weight 0 at leaf 2, whose word is 1, 1
unfoldable pub bin_without : List ℕ
bin_without = whole_file (pos 2) (pos 0 ∷ pos 1 ∷ negsuc 0 ∷ []) bin_inputs (set bin_leaves 2 (1 ∷ 1 ∷ [], whole (pos 0)))

-- BIN with weight 1 at leaf 1, whose word is 1, 0, and 0 as before at that of −1, 0: not mirrored
unfoldable pub bin_unmirrored : List ℕ
bin_unmirrored = whole_file (pos 2) (pos 0 ∷ pos 1 ∷ negsuc 0 ∷ []) bin_inputs (set bin_leaves 1 (1 ∷ 0 ∷ [], whole (pos 1)))

unfoldable pub table : List Case
table =
    -- M1 and M2
    record { exercise = product_of (pair (negsuc 0) (pos 0)) (pair (negsuc 0) (pos 1)) (pair (pos 1) (pos 1)); expected = element (pair (negsuc 1) (pos 0)) }
    ∷ record { exercise = product_of (pair (negsuc 0) (negsuc 0)) (pair (pos 1) (pos 1)) (pair (pos 1) (pos 1)); expected = element (pair (pos 0) (pos 1)) }
    -- M3 to M6
    ∷ record { exercise = expands (pos 0) (negsuc 0) (negsuc 0) (pos 1); expected = verdict true }
    ∷ record { exercise = expands (pos 0) (pos 2) (pos 2) (pos 1); expected = verdict false }
    ∷ record { exercise = expands (pos 0) (pos 2) (pos 0) (pos 1); expected = verdict true }
    ∷ record { exercise = expands (pos 0) (pos 2) (pos 1) (pos 1); expected = verdict false }
    -- M7 to M11, M8 after its addition: the index of a digit that isn't negative is its value. One byte more than n + h is lent; it stays.
    ∷ record { exercise = adds tern_file (2 ∷ 2 ∷ []) (1 ∷ 2 ∷ []) (9 ∷ 9 ∷ 9 ∷ 9 ∷ []); expected = summed (facts (record { places = 3; reach = 1 })) (0 ∷ 2 ∷ 1 ∷ 9 ∷ []) }
    -- M8: −2 has index 4, −1 has index 3
    ∷ record { exercise = runs tern_file (2 ∷ 2 ∷ []) (1 ∷ 2 ∷ []) (9 ∷ 9 ∷ 9 ∷ 9 ∷ []) (record { row = 0; place = 0; digit = 4 } ∷ []); expected = ran (state (4 ∷ 2 ∷ []) (1 ∷ 2 ∷ []) (3 ∷ 1 ∷ 1 ∷ 9 ∷ [])) (facts (record { count = 2; reach = 1 }) ∷ []) }
    -- M7 and M8 by the runner, between an edit with row number 2 and one at place 5: three are asked for, a fourth has no digit
    ∷ record {
      exercise = lists tern_file (state (2 ∷ 2 ∷ []) (1 ∷ 2 ∷ []) (9 ∷ 9 ∷ 9 ∷ 9 ∷ [])) (2 ∷ 0 ∷ 1 ∷ 0 ∷ []) (0 ∷ 0 ∷ 5 ∷ 1 ∷ []) (0 ∷ 4 ∷ 1 ∷ []) (7 ∷ 7 ∷ 7 ∷ 7 ∷ []) (7 ∷ 7 ∷ 7 ∷ 7 ∷ []) (7 ∷ 7 ∷ 7 ∷ 7 ∷ []);
      expected = listed (facts (record { edits = 3 })) (state (4 ∷ 2 ∷ []) (1 ∷ 2 ∷ []) (3 ∷ 1 ∷ 1 ∷ 9 ∷ [])) (3 ∷ 0 ∷ 3 ∷ 7 ∷ []) (24 ∷ 0 ∷ 25 ∷ 7 ∷ []) (0 ∷ 2 ∷ 0 ∷ 7 ∷ []);
    }
    ∷ record { exercise = adds bin_file (1 ∷ 1 ∷ []) (1 ∷ 0 ∷ []) (9 ∷ 9 ∷ 9 ∷ 9 ∷ 9 ∷ []); expected = summed (facts (record { places = 4; reach = 2 })) (0 ∷ 0 ∷ 1 ∷ 0 ∷ 9 ∷ []) }
    ∷ record { exercise = adds bin_file (0 ∷ 1 ∷ []) (0 ∷ 0 ∷ []) (9 ∷ 9 ∷ 9 ∷ 9 ∷ 9 ∷ []); expected = summed (facts (record { places = 4; reach = 2 })) (0 ∷ 1 ∷ 0 ∷ 0 ∷ 9 ∷ []) }
    ∷ record { exercise = adds tern_file [] [] (9 ∷ 9 ∷ []); expected = summed (facts (record { places = 1; reach = 1 })) (0 ∷ 9 ∷ []) }
    ∷ record { exercise = adds bin_file [] [] (9 ∷ 9 ∷ 9 ∷ []); expected = summed (facts (record { places = 2; reach = 1 })) (0 ∷ 0 ∷ 9 ∷ []) }
    -- the reach: in BIN the words of 1 and −1 have two digits, the others one. The edit at place 1 looks up place 0, where a 1 stands; that at
    -- place 2 doesn't; that at place 0 has the 1 no more.
    ∷ record {
      exercise = runs bin_file (1 ∷ 0 ∷ 0 ∷ []) (0 ∷ 1 ∷ 0 ∷ []) (9 ∷ 9 ∷ 9 ∷ 9 ∷ 9 ∷ []) (record { row = 0; place = 1; digit = 1 } ∷ record { row = 0; place = 2; digit = 0 } ∷ record { row = 0; place = 0; digit = 0 } ∷ []);
      expected = ran (state (0 ∷ 1 ∷ 0 ∷ []) (0 ∷ 1 ∷ 0 ∷ []) (0 ∷ 0 ∷ 1 ∷ 0 ∷ 0 ∷ [])) (facts (record { count = 1; reach = 2 }) ∷ facts (record { count = 0; reach = 1 }) ∷ facts (record { count = 1; reach = 1 }) ∷ []);
    }
    -- Job 3: the rows of M7 and M9 with every digit negated. By an accepted table that isn't mirrored 1 + 0 is −1 1 0, and −1 + 0 is −1 0 0
    ∷ record { exercise = adds tern_file (4 ∷ 4 ∷ []) (3 ∷ 4 ∷ []) (9 ∷ 9 ∷ 9 ∷ 9 ∷ []); expected = summed (facts (record { places = 3; reach = 1 })) (0 ∷ 4 ∷ 3 ∷ 9 ∷ []) }
    ∷ record { exercise = adds bin_file (2 ∷ 2 ∷ []) (2 ∷ 0 ∷ []) (9 ∷ 9 ∷ 9 ∷ 9 ∷ 9 ∷ []); expected = summed (facts (record { places = 4; reach = 2 })) (0 ∷ 0 ∷ 2 ∷ 0 ∷ 9 ∷ []) }
    ∷ record { exercise = checks bin_unmirrored; expected = outcome (facts (record { depth = 2; leaves = 13; digits = 3; pairs = 65 })) }
    ∷ record { exercise = adds bin_unmirrored (1 ∷ []) (0 ∷ []) (9 ∷ 9 ∷ 9 ∷ []); expected = summed (facts (record { places = 3; reach = 2 })) (2 ∷ 1 ∷ 0 ∷ []) }
    ∷ record { exercise = adds bin_unmirrored (2 ∷ []) (0 ∷ []) (9 ∷ 9 ∷ 9 ∷ []); expected = summed (facts (record { places = 3; reach = 2 })) (2 ∷ 0 ∷ 0 ∷ []) }
    -- Job 10, two edits in both orders: at h apart, each alters the place that both reach, and the counts are the same
    ∷ record {
      exercise = orders bin_file (state (1 ∷ 1 ∷ 0 ∷ 1 ∷ []) (0 ∷ 0 ∷ 0 ∷ 0 ∷ []) (1 ∷ 2 ∷ 1 ∷ 1 ∷ 0 ∷ 0 ∷ 9 ∷ [])) (record { row = 0; place = 0; digit = 0 }) (record { row = 1; place = 2; digit = 1 });
      expected = ordered (record { first = facts (record { count = 3; reach = 2 }); second = facts (record { count = 3; reach = 2 }); buffers = state (0 ∷ 1 ∷ 0 ∷ 1 ∷ []) (0 ∷ 0 ∷ 1 ∷ 0 ∷ []) (0 ∷ 1 ∷ 2 ∷ 0 ∷ 1 ∷ 0 ∷ 9 ∷ []) }) (record { first = facts (record { count = 3; reach = 2 }); second = facts (record { count = 3; reach = 2 }); buffers = state (0 ∷ 1 ∷ 0 ∷ 1 ∷ []) (0 ∷ 0 ∷ 1 ∷ 0 ∷ []) (0 ∷ 1 ∷ 2 ∷ 0 ∷ 1 ∷ 0 ∷ 9 ∷ []) });
    }
    -- Why the conditions stand. One place nearer, and at one place of both rows: the counts differ, and the rows don't
    ∷ record {
      exercise = orders bin_file (state (0 ∷ 0 ∷ []) (0 ∷ 0 ∷ []) (0 ∷ 0 ∷ 0 ∷ 0 ∷ 9 ∷ [])) (record { row = 0; place = 0; digit = 1 }) (record { row = 0; place = 1; digit = 1 });
      expected = ordered (record { first = facts (record { count = 1; reach = 2 }); second = facts (record { count = 2; reach = 2 }); buffers = state (1 ∷ 1 ∷ []) (0 ∷ 0 ∷ []) (1 ∷ 2 ∷ 1 ∷ 0 ∷ 9 ∷ []) }) (record { first = facts (record { count = 1; reach = 2 }); second = facts (record { count = 3; reach = 2 }); buffers = state (1 ∷ 1 ∷ []) (0 ∷ 0 ∷ []) (1 ∷ 2 ∷ 1 ∷ 0 ∷ 9 ∷ []) });
    }
    ∷ record {
      exercise = orders tern_file (state (0 ∷ []) (0 ∷ []) (0 ∷ 0 ∷ 9 ∷ [])) (record { row = 0; place = 0; digit = 1 }) (record { row = 1; place = 0; digit = 1 });
      expected = ordered (record { first = facts (record { count = 1; reach = 1 }); second = facts (record { count = 2; reach = 1 }); buffers = state (1 ∷ []) (1 ∷ []) (3 ∷ 1 ∷ 9 ∷ []) }) (record { first = facts (record { count = 1; reach = 1 }); second = facts (record { count = 2; reach = 1 }); buffers = state (1 ∷ []) (1 ∷ []) (3 ∷ 1 ∷ 9 ∷ []) });
    }
    -- of one cell: the rows differ
    ∷ record {
      exercise = orders tern_file (state (0 ∷ []) (0 ∷ []) (0 ∷ 0 ∷ 9 ∷ [])) (record { row = 0; place = 0; digit = 0 }) (record { row = 0; place = 0; digit = 1 });
      expected = ordered (record { first = facts (record { count = 0; reach = 1 }); second = facts (record { count = 1; reach = 1 }); buffers = state (1 ∷ []) (0 ∷ []) (1 ∷ 0 ∷ 9 ∷ []) }) (record { first = facts (record { count = 1; reach = 1 }); second = facts (record { count = 1; reach = 1 }); buffers = state (0 ∷ []) (0 ∷ []) (0 ∷ 0 ∷ 9 ∷ []) });
    }
    -- at h apart: the reach differs, and from a sum that isn't right the counts
    ∷ record {
      exercise = orders bin_file (state (0 ∷ 0 ∷ 0 ∷ []) (0 ∷ 0 ∷ 0 ∷ []) (0 ∷ 0 ∷ 0 ∷ 0 ∷ 0 ∷ 9 ∷ [])) (record { row = 0; place = 0; digit = 0 }) (record { row = 0; place = 2; digit = 1 });
      expected = ordered (record { first = facts (record { count = 0; reach = 1 }); second = facts (record { count = 1; reach = 2 }); buffers = state (0 ∷ 0 ∷ 1 ∷ []) (0 ∷ 0 ∷ 0 ∷ []) (0 ∷ 0 ∷ 1 ∷ 0 ∷ 0 ∷ 9 ∷ []) }) (record { first = facts (record { count = 1; reach = 2 }); second = facts (record { count = 0; reach = 2 }); buffers = state (0 ∷ 0 ∷ 1 ∷ []) (0 ∷ 0 ∷ 0 ∷ []) (0 ∷ 0 ∷ 1 ∷ 0 ∷ 0 ∷ 9 ∷ []) });
    }
    ∷ record {
      exercise = orders tern_file (state (0 ∷ 0 ∷ []) (0 ∷ 0 ∷ []) (0 ∷ 1 ∷ 0 ∷ 9 ∷ [])) (record { row = 0; place = 0; digit = 0 }) (record { row = 0; place = 1; digit = 0 });
      expected = ordered (record { first = facts (record { count = 1; reach = 1 }); second = facts (record { count = 0; reach = 1 }); buffers = state (0 ∷ 0 ∷ []) (0 ∷ 0 ∷ []) (0 ∷ 0 ∷ 0 ∷ 9 ∷ []) }) (record { first = facts (record { count = 1; reach = 1 }); second = facts (record { count = 0; reach = 1 }); buffers = state (0 ∷ 0 ∷ []) (0 ∷ 0 ∷ []) (0 ∷ 0 ∷ 0 ∷ 9 ∷ []) });
    }
    -- M12
    ∷ record { exercise = checks tern_without; expected = outcome (refused author 14 2) }
    -- Job 13: TERN and BIN; M12's table, which 14 refuses; 256 digits and one more; a table's fault comes first
    ∷ record { exercise = forecasts tern_file 2; expected = expects (facts (record { pairs = 81; bytes = 3 })) }
    ∷ record { exercise = forecasts bin_file 2; expected = expects (facts (record { pairs = 65; bytes = 4 })) }
    ∷ record { exercise = forecasts tern_without 256; expected = expects (facts (record { pairs = 81; bytes = 257 })) }
    ∷ record { exercise = forecasts tern_file 257; expected = expects (refused of_rows 20 0) }
    ∷ record { exercise = forecasts [] 257; expected = expects (refused author 1 0) }
    -- Job 5: TERN; M12's table, and BIN with another weight, where the words have two digits; a table's fault
    ∷ record { exercise = shows_row tern_file (9 ∷ 9 ∷ 9 ∷ 9 ∷ []); expected = shown (facts nothing) (9 ∷ 9 ∷ 9 ∷ 9 ∷ []) }
    ∷ record {
      exercise = shows_row tern_without (9 ∷ 9 ∷ 9 ∷ 9 ∷ []);
      expected = shown (facts (row (record { upper = 2; lower = 3; digit = pos 3 ∷ pos 0 ∷ pos 0 ∷ pos 0 ∷ []; bytes = 2 }))) (2 ∷ 3 ∷ 9 ∷ 9 ∷ []);
    }
    ∷ record {
      exercise = shows_row bin_without (9 ∷ 9 ∷ 9 ∷ 9 ∷ []);
      expected = shown (facts (row (record { upper = 2; lower = 3; digit = pos 2 ∷ pos 0 ∷ pos 0 ∷ pos 0 ∷ []; bytes = 3 }))) (1 ∷ 1 ∷ 2 ∷ 9 ∷ []);
    }
    ∷ record { exercise = shows_row [] (9 ∷ []); expected = shown (refused author 1 0) (9 ∷ []) }
    -- M12's and that string as sums of two rows: 27 at the place of the string's top digit
    ∷ record { exercise = adds tern_without (1 ∷ 1 ∷ []) (2 ∷ 1 ∷ []) (9 ∷ 9 ∷ 9 ∷ []); expected = summed (refused author 27 1) (9 ∷ 9 ∷ 9 ∷ []) }
    ∷ record {
      exercise = adds bin_without (1 ∷ 1 ∷ 1 ∷ []) (1 ∷ 0 ∷ 0 ∷ []) (9 ∷ 9 ∷ 9 ∷ 9 ∷ 9 ∷ []);
      expected = summed (refused author 27 2) (9 ∷ 9 ∷ 9 ∷ 9 ∷ 9 ∷ []);
    }
    -- Job 8: ω⁴ is 2·ω + ω² where ω³ is 2 + ω, and in degree four ω³·ω³ is ω²·ω⁴
    ∷ record {
      exercise = product_of (pos 2 ∷ pos 1 ∷ pos 0 ∷ []) (pos 0 ∷ pos 0 ∷ pos 1 ∷ []) (pos 0 ∷ pos 0 ∷ pos 1 ∷ []);
      expected = element (pos 0 ∷ pos 2 ∷ pos 1 ∷ []);
    }
    ∷ record {
      exercise = product_of (pos 3 ∷ negsuc 0 ∷ pos 0 ∷ pos 0 ∷ []) (pos 0 ∷ pos 0 ∷ pos 0 ∷ pos 1 ∷ []) (pos 0 ∷ pos 0 ∷ pos 0 ∷ pos 1 ∷ []);
      expected = element (pos 0 ∷ pos 0 ∷ pos 3 ∷ negsuc 0 ∷ []);
    }
    -- a table of degree three: accepted; a sum and an edit
    ∷ record { exercise = checks cubic; expected = outcome (facts (record { depth = 1; leaves = 9; digits = 5; pairs = 81 })) }
    ∷ record {
      exercise = adds cubic (2 ∷ 1 ∷ 3 ∷ []) (2 ∷ 2 ∷ 4 ∷ []) (9 ∷ 9 ∷ 9 ∷ 9 ∷ 9 ∷ []);
      expected = summed (facts (record { places = 4; reach = 1 })) (1 ∷ 1 ∷ 1 ∷ 3 ∷ 9 ∷ []);
    }
    ∷ record {
      exercise = runs cubic (2 ∷ 1 ∷ 3 ∷ []) (2 ∷ 2 ∷ 4 ∷ []) (9 ∷ 9 ∷ 9 ∷ 9 ∷ 9 ∷ []) (record { row = 1; place = 1; digit = 4 } ∷ []);
      expected = ran (state (2 ∷ 1 ∷ 3 ∷ []) (2 ∷ 4 ∷ 4 ∷ []) (1 ∷ 0 ∷ 0 ∷ 3 ∷ 9 ∷ [])) (facts (record { count = 2; reach = 1 }) ∷ []);
    }
    -- one of degree four, with h = 2
    ∷ record { exercise = checks quartic; expected = outcome (facts (record { depth = 2; leaves = 13; digits = 3; pairs = 65 })) }
    ∷ record {
      exercise = adds quartic (1 ∷ 1 ∷ 2 ∷ []) (1 ∷ 0 ∷ 2 ∷ []) (9 ∷ 9 ∷ 9 ∷ 9 ∷ 9 ∷ 9 ∷ []);
      expected = summed (facts (record { places = 5; reach = 2 })) (0 ∷ 0 ∷ 1 ∷ 2 ∷ 0 ∷ 9 ∷ []);
    }
    ∷ record {
      exercise = runs quartic (1 ∷ 1 ∷ 2 ∷ []) (1 ∷ 0 ∷ 2 ∷ []) (9 ∷ 9 ∷ 9 ∷ 9 ∷ 9 ∷ 9 ∷ []) (record { row = 0; place = 0; digit = 2 } ∷ []);
      expected = ran (state (2 ∷ 1 ∷ 2 ∷ []) (1 ∷ 0 ∷ 2 ∷ []) (0 ∷ 1 ∷ 0 ∷ 2 ∷ 0 ∷ 9 ∷ [])) (facts (record { count = 2; reach = 2 }) ∷ []);
    }
    -- of degree three and four, where ω·ω times a digit is 3 and −3 times it: words of two digits, 81 leaves
    ∷ record { exercise = checks root; expected = outcome (facts (record { depth = 2; leaves = 81; digits = 5; pairs = 729 })) }
    ∷ record {
      exercise = runs root (2 ∷ 1 ∷ 3 ∷ []) (2 ∷ 2 ∷ 4 ∷ []) (9 ∷ 9 ∷ 9 ∷ 9 ∷ 9 ∷ []) (record { row = 1; place = 1; digit = 4 } ∷ []);
      expected = ran (state (2 ∷ 1 ∷ 3 ∷ []) (2 ∷ 4 ∷ 4 ∷ []) (1 ∷ 3 ∷ 1 ∷ 0 ∷ 3 ∷ [])) (facts (record { count = 2; reach = 2 }) ∷ []);
    }
    ∷ record { exercise = checks complex_root; expected = outcome (facts (record { depth = 2; leaves = 81; digits = 5; pairs = 729 })) }
    ∷ record {
      exercise = adds complex_root (2 ∷ 1 ∷ 3 ∷ []) (2 ∷ 2 ∷ 4 ∷ []) (9 ∷ 9 ∷ 9 ∷ 9 ∷ 9 ∷ 9 ∷ []);
      expected = summed (facts (record { places = 5; reach = 2 })) (1 ∷ 0 ∷ 3 ∷ 3 ∷ 1 ∷ 9 ∷ []);
    }
    ∷ record {
      exercise = runs complex_root (2 ∷ 1 ∷ 3 ∷ []) (2 ∷ 2 ∷ 4 ∷ []) (9 ∷ 9 ∷ 9 ∷ 9 ∷ 9 ∷ []) (record { row = 1; place = 1; digit = 4 } ∷ []);
      expected = ran (state (2 ∷ 1 ∷ 3 ∷ []) (2 ∷ 4 ∷ 4 ∷ []) (1 ∷ 3 ∷ 3 ∷ 0 ∷ 1 ∷ [])) (facts (record { count = 2; reach = 2 }) ∷ []);
    }
    -- 6 where the determinant is 1, −1 or 0: β is ω and ω³ is 1 or −1, ω⁴ is 0
    ∷ record { exercise = checks (cubic_with (pos 0 ∷ pos 0 ∷ pos 1 ∷ pos 0 ∷ pos 1 ∷ pos 0 ∷ [])); expected = outcome (refused author 6 0) }
    ∷ record { exercise = checks (cubic_with (pos 0 ∷ pos 0 ∷ negsuc 0 ∷ pos 0 ∷ pos 1 ∷ pos 0 ∷ [])); expected = outcome (refused author 6 0) }
    ∷ record { exercise = checks (quartic_with (pos 0 ∷ pos 0 ∷ pos 0 ∷ pos 0 ∷ pos 0 ∷ pos 1 ∷ pos 0 ∷ pos 0 ∷ [])); expected = outcome (refused author 6 0) }
    -- 4: 64 passes in the base section at degree three, so that another rule is broken, and 65 doesn't; 33 doesn't at degree four
    ∷ record { exercise = checks (cubic_with (pos 64 ∷ pos 0 ∷ pos 1 ∷ pos 0 ∷ pos 1 ∷ pos 0 ∷ [])); expected = outcome (refused author 6 0) }
    ∷ record { exercise = checks (cubic_with (pos 0 ∷ pos 65 ∷ negsuc 0 ∷ pos 2 ∷ negsuc 0 ∷ pos 0 ∷ [])); expected = outcome (refused author 4 22) }
    ∷ record { exercise = checks (quartic_with (pos 32 ∷ pos 0 ∷ pos 0 ∷ pos 1 ∷ pos 3 ∷ negsuc 0 ∷ pos 0 ∷ negsuc 32 ∷ [])); expected = outcome (refused author 4 34) }
    ∷ []

-- every exercise of a table has the answer expected
abbrev pub AllRight : List Case → Type 0
AllRight [] = Unit {0}
AllRight (c ∷ cs) = (answer c.exercise ≡ c.expected) × AllRight cs
