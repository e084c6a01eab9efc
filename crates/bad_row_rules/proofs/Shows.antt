-- What is shown, by whether a pair of leaves fails; and what the failing pair is.
use mathlib.Core.Path.{◌≡◌, sym, ap, subst, ◌∙◌}
use mathlib.Core.List.{List}
use Prim.Native.Nat.{ℕ, ◌<◌, ◌≤◌}
use borrow.Author.Tests.{lt-ltb, le-ltb}
use Rattle.faults.specs.Outcome.{Group, facts, refused, author}
use Rattle.faults.proofs.Exit.{exit_lent, exit_written}
use Rattle.faults.proofs.Unless.{unless_none}
use Rattle.leaf_rules.specs.Leaf.{leaf_count}
use Rattle.reader_rules.specs.Table.{base_part, alphabet_part, input_part, leaf_part, word_part}
use Rattle.reader_rules.specs.Check.{table_check}
use Rattle.table_rules.specs.declared.Pair.{Pair}
use Rattle.table_rules.specs.Check.{bad_pair_of}
use Rattle.table_rules.proofs.Failing.{FirstFailing, failing_first}
use Rattle.bad_row_rules.specs.Shows.{row, nothing}
use Rattle.bad_row_rules.specs.BadRow.{string_of, row_facts, shows, bad_row_outcome, written, bad_row_in}

module _ (table : List ℕ) where
  pub shows_nothing : leaf_count (leaf_part table) ≤ (bad_pair_of table).upper → shows table ≡ nothing
  unfolding shows
  shows_nothing h = rw (le-ltb (bad_pair_of table).upper (leaf_count (leaf_part table)) h, shows)

  shows_row : (bad_pair_of table).upper < leaf_count (leaf_part table) → shows table ≡ row (row_facts table (bad_pair_of table))
  unfolding shows
  shows_row h = rw (lt-ltb (bad_pair_of table).upper (leaf_count (leaf_part table)) h, shows)

  -- the failing pair, however it was found
  abbrev pub Failing : Pair → Type 0
  Failing p = FirstFailing (base_part table) (alphabet_part table) (input_part table) (leaf_part table) (word_part table) p

  pub fails_first : (p : Pair) → p ≡ bad_pair_of table → p.upper < leaf_count (leaf_part table) → Failing p
  fails_first p e h =
      subst Failing (sym e) (failing_first (base_part table) (alphabet_part table) (input_part table) (leaf_part table) (word_part table) (subst (λ (q : Pair). q.upper < leaf_count (leaf_part table)) e h))

  pub shows_pair : (p : Pair) → p ≡ bad_pair_of table → p.upper < leaf_count (leaf_part table) → shows table ≡ row (row_facts table p)
  shows_pair p e h = shows_row (subst (λ (q : Pair). q.upper < leaf_count (leaf_part table)) e h) ∙ ap (λ (q : Pair). row (row_facts table q)) (sym e)

  -- a table that passes 1 to 13
  pub passed_shows : (table_check table).number ≡ 0 → bad_row_outcome table ≡ facts (shows table)
  unfolding bad_row_outcome
  passed_shows passes = unless_none author (table_check table) (facts (shows table)) passes

  -- the lent buffer: with a fault it keeps its contents
  pub lent_kept : (lent : List ℕ) (g : Group) (n p : ℕ) → bad_row_outcome table ≡ refused g n p → lent ≡ bad_row_in table lent
  unfolding bad_row_in
  lent_kept lent g n p e = exit_lent (bad_row_outcome table) g n p lent _ (sym e)

  pub lent_written : (lent : List ℕ) → bad_row_outcome table ≡ facts (shows table) → written (shows table) (string_of table (bad_pair_of table)) lent ≡ bad_row_in table lent
  unfolding bad_row_in
  lent_written lent e = exit_written (bad_row_outcome table) (shows table) lent _ (sym e)
