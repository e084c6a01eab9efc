-- What a row that is shown is, in plain words; that it is shown where the check refuses by 14, and nothing where the check accepts.
use mathlib.Core.Path.{◌≡◌, refl, sym, ap, subst, ◌∙◌}
use mathlib.Core.List.{List}
use mathlib.Core.Logic.{◌↔◌}
use Prim.Native.Nat.{ℕ, suc, ◌+◌, ◌-◌, ◌<◌, ◌≤◌}
use native.Mathlib.Omega.{arith}
use native.Mathlib.Decide.{dec_lt, ℕ_discrete}
use lib.ListN.{length, get_or, take}
use Rattle.lists.specs.Overwrite.{overwrite}
use Rattle.lists.proofs.Overwrite.{length_overwrite}
use Rattle.lists.proofs.Entries.{overwrite_behind}
use Rattle.lists.proofs.Pieces.{put_taken}
use Rattle.faults.specs.declared.Refusal.{Refusal}
use Rattle.faults.specs.Check.{refusal}
use Rattle.faults.specs.Outcome.{facts, refused, author}
use Rattle.faults.specs.Unless.{unless}
use Rattle.faults.proofs.Unless.{unless_found, unless_none}
use Rattle.faults.proofs.Exit.{facts_no_fault, one_fault}
use Rattle.calls.proofs.Answers.{unless_given}
use Rattle.leaf_rules.specs.Leaf.{leaf_count}
use Rattle.numeration.proofs.Pairs.{length_pair_string, pair_string_at, pair_upper, pair_lower}
use Rattle.reader_rules.specs.Table.{leaf_part, leaves_in}
use Rattle.reader_rules.specs.Check.{table_check}
use Rattle.reader_rules.proofs.Ready.{ready_passed}
use Rattle.table_rules.specs.declared.Pair.{Pair}
use Rattle.table_rules.specs.Check.{pair_check_of, bad_pair_of, check_facts, check_outcome}
use Rattle.table_rules.proofs.Bad.{file_broken, file_kept}
use Rattle.bad_row_rules.specs.Shows.{RowFacts, Shows, row, nothing}
use Rattle.bad_row_rules.specs.BadRow.{string_of, row_facts, shows, bad_row_outcome, written, bad_row_in}
use Rattle.bad_row_rules.specs.RowOf.{RowOf}
use Rattle.bad_row_rules.proofs.Shows.{shows_nothing, shows_pair, fails_first, passed_shows, lent_written}
use Rattle.bad_row_rules.proofs.Demand.{demand_1, never_14}

not_nothing : (f : RowFacts) (x : Shows) → x ≡ row f → x ≡ nothing → ⊥
not_nothing f x a b = let z : ◌≡◌ {A = ℕ} 0 1 = cc in omega arith

one_row : (f g : RowFacts) (x : Shows) → x ≡ row f → x ≡ row g → f ≡ g
one_row f g x a b = cc

module _ (table : List ℕ) where
  -- what is told comes of a table that passes 1 to 13
  pub told_passes : (x : Shows) → bad_row_outcome table ≡ facts x → (table_check table).number ≡ 0
  unfolding bad_row_outcome
  told_passes x e = (unless_given author (table_check table) (facts (shows table)) x e).0

  module _ (f : RowFacts) (e : bad_row_outcome table ≡ facts (row f)) where
    is_shown : shows table ≡ row f
    is_shown = sym ((demand_1 table).only_facts (row f) e)

    abbrev pair : Pair
    pair = bad_pair_of table

    -- there is a failing pair
    pub pair_there : pair.upper < leaf_count (leaf_part table)
    pair_there =
        elim (dec_lt pair.upper (leaf_count (leaf_part table))) [
          | yes h ↦ h
          | no h ↦ absurd (not_nothing f (shows table) is_shown (shows_nothing table (omega arith)))
        ]

    -- whose facts these are
    pub row_is : f ≡ row_facts table pair
    row_is = one_row f (row_facts table pair) (shows table) is_shown (shows_pair table pair refl pair_there)

    -- a word has 1 to 8 digits, so the string has 2 to 9
    pub bytes_few : (2 ≤ f.bytes) × (f.bytes ≤ 9)
    bytes_few =
        let first = fails_first table pair refl pair_there in
        let code = (ready_passed table (told_passes (row f) e)).ordered_code in
        let long = ap (λ (g : RowFacts). g.bytes) row_is ∙ length_pair_string (leaves_in table) pair.upper pair.lower in (
          omega (arith, long, code.nonempty pair.lower first.lower_there),
          omega (arith, long, code.short pair.upper first.upper_there, code.short pair.lower first.lower_there),
        )

    -- the string stands in the first bytes of the lent buffer
    pub string_in : (lent : List ℕ) → bad_row_in table lent ≡ overwrite lent 0 (string_of table pair)
    unfolding written
    string_in lent = sym (lent_written table lent (e ∙ ap facts (sym is_shown))) ∙ ap (λ (x : Shows). written x (string_of table pair) lent) is_shown

    pub string_taken : (lent : List ℕ) → take f.bytes (bad_row_in table lent) ≡ string_of table pair
    string_taken lent = put_taken lent (bad_row_in table lent) (string_of table pair) f.bytes (ap (λ (g : RowFacts). g.bytes) row_is) (string_in lent)

    -- "Bytes beyond keep their contents"
    pub rest_kept : (lent : List ℕ) → 9 ≤ length lent → (length (bad_row_in table lent) ≡ length lent) × ((k : ℕ) → f.bytes ≤ k → get_or (bad_row_in table lent) k 0 ≡ get_or lent k 0)
    rest_kept lent room =
        let long = ap (λ (g : RowFacts). g.bytes) row_is in
        let fits : 0 + length (string_of table pair) ≤ length lent = omega (arith, long, bytes_few.1) in (
          ap length (string_in lent) ∙ length_overwrite lent 0 (string_of table pair) fits,
          λ k h. let at : 0 + length (string_of table pair) + (k - f.bytes) ≡ k = omega (arith, long) in
              ap (λ (s : List ℕ). get_or s k 0) (string_in lent) ∙ subst (λ (j : ℕ). get_or (overwrite lent 0 (string_of table pair)) j 0 ≡ get_or lent j 0) at (overwrite_behind lent (string_of table pair) 0 fits (k - f.bytes)),
        )

    facts_of : RowOf table (row_facts table pair) (string_of table pair)
    facts_of =
        let c = leaves_in table in
        let u = pair.upper in
        let l = pair.lower in
        let first = fails_first table pair refl pair_there in
        record {
          fails = ((first.upper_there, first.lower_there, first.fit), first.not_listed);
          lowest_upper = λ v k low w. w.1 (first.uppers_pass v k low w.0.1 w.0.2);
          lowest_lower = λ k low w. w.1 (first.lowers_pass k low w.0.2);
          digit_is = refl;
          bytes_are = refl;
          upper_begins = λ i h. pair_upper c u l first.fit i h ∙ sym (pair_string_at c u l i (omega arith));
          lower_begins = λ i h. pair_lower c u l first.fit i h ∙ sym (pair_string_at c u l (suc i) (omega arith));
          ends_with = length_pair_string c u l;
        }

    -- Where a row is shown, the facts and the first bytes of the lent buffer are what the request calls them.
    pub row_of : (lent : List ℕ) → RowOf table f (take f.bytes (bad_row_in table lent))
    row_of lent =
        subst (λ (g : RowFacts). RowOf table g (take f.bytes (bad_row_in table lent))) (sym row_is) (subst (RowOf table (row_facts table pair)) (sym (string_taken lent)) facts_of)

  -- ---- the check of the same table

  abbrev N : ℕ
  N = leaf_count (leaf_part table)

  -- Nothing is shown exactly where the check accepts.
  pub nothing_accepted : (bad_row_outcome table ≡ facts nothing) ↔ (check_outcome table ≡ facts (check_facts table))
  unfolding check_outcome
  nothing_accepted = (to, from)
    where
      to : bad_row_outcome table ≡ facts nothing → unless author (table_check table) (unless author (pair_check_of table) (facts (check_facts table))) ≡ facts (check_facts table)
      to e =
          unless_none author (table_check table) _ (told_passes nothing e) ∙ unless_none author (pair_check_of table) _ (elim (dec_lt (bad_pair_of table).upper N) [
            | yes h ↦ absurd (not_nothing (row_facts table (bad_pair_of table)) (shows table) (shows_pair table (bad_pair_of table) refl h) (sym ((demand_1 table).only_facts nothing e)))
            | no h ↦ ap (λ (r : Refusal). r.number) (sym (file_kept table (bad_pair_of table) refl (omega arith)))
          ])

      from : unless author (table_check table) (unless author (pair_check_of table) (facts (check_facts table))) ≡ facts (check_facts table) → bad_row_outcome table ≡ facts nothing
      from e =
          let a = unless_given author (table_check table) _ (check_facts table) e in
          let b = unless_given author (pair_check_of table) (facts (check_facts table)) (check_facts table) a.1 in
          passed_shows table a.0 ∙ ap facts (elim (dec_lt (bad_pair_of table).upper N) [
            | yes h ↦ absurd (omega (arith, b.0, ap (λ (r : Refusal). r.number) (file_broken table (bad_pair_of table) refl h)))
            | no h ↦ shows_nothing table (omega arith)
          ])

  -- A row is shown exactly where the check refuses by 14, and both name the same U.
  pub same_leaf : (f : RowFacts) → bad_row_outcome table ≡ facts (row f) → check_outcome table ≡ refused author 14 f.upper
  unfolding check_outcome
  same_leaf f e =
      let broken = file_broken table (bad_pair_of table) refl (pair_there f e) in
      unless_none author (table_check table) _ (told_passes (row f) e)
      ∙ ap (λ (r : Refusal). unless author r (facts (check_facts table))) (sym broken)
      ∙ unless_found author (refusal 14 (bad_pair_of table).upper) (facts (check_facts table)) (λ z. omega (arith, z))
      ∙ ap (λ (g : RowFacts). refused author 14 g.upper) (sym (row_is f e))

  -- a fault of the check's that is one of 1 to 13 is this call's too
  fault_passed : ((table_check table).number ≡ 0 → ⊥) → (p : ℕ) → check_outcome table ≡ refused author 14 p → ⊥
  unfolding check_outcome bad_row_outcome
  fault_passed some p e =
      let a = table_check table in
      let number = (one_fault (check_outcome table) author author a.number 14 a.place p (unless_found author a _ some) e).1 in
      never_14 table author a.place (unless_found author a (facts (shows table)) some ∙ ap (λ (n : ℕ). refused author n a.place) number)

  pub shown_where_14 : (p : ℕ) → check_outcome table ≡ refused author 14 p → (f : RowFacts) × (bad_row_outcome table ≡ facts (row f)) × (f.upper ≡ p)
  shown_where_14 p e =
      elim (ℕ_discrete (table_check table).number 0) [
        | yes z ↦ elim (dec_lt (bad_pair_of table).upper N) [
          | yes h ↦ let f = row_facts table (bad_pair_of table) in
              let shown : bad_row_outcome table ≡ facts (row f) = passed_shows table z ∙ ap facts (shows_pair table (bad_pair_of table) refl h) in
              (f, shown, (one_fault (check_outcome table) author author 14 14 f.upper p (same_leaf f shown) e).2)
          | no h ↦ absurd (facts_no_fault (check_outcome table) (check_facts table) author 14 p (nothing_accepted.0 (passed_shows table z ∙ ap facts (shows_nothing table (omega arith)))) e)
        ]
        | no some ↦ absurd (fault_passed some p e)
      ]
