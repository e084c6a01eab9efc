-- What a file that passes rules 1 and 2 is like: its sections follow one another, from the directory to its end.
use mathlib.Core.Path.{◌≡◌, ap}
use mathlib.Core.Bool.{true}
use mathlib.Core.List.{List}
use mathlib.Core.Logic.{⊎_elim}
use Prim.Native.Nat.{ℕ, zero, suc, ◌<◌, ◌≤◌}
use native.Mathlib.Omega.{arith}
use native.Mathlib.Decide.{dec_lt}
use native.Mathlib.Nat.{le_antisymm}
use lib.ListN.{length, length-take, length-drop}
use lib.Dec.{leb, eqb}
use borrow.Author.Tests.{ltb-true, leb-true, eqb-true}
use Rattle.lists.proofs.Test.{both, either}
use Rattle.faults.specs.Check.{judge}
use Rattle.faults.proofs.Check.{then_kept, judge_passed}
use Rattle.layout_rules.specs.Section.{section_start, section_length, section_end, bytes_of}
use Rattle.layout_rules.specs.Directory.{size_allowed, expected_start, pair_allowed, directory_check}

-- what the tests of rules 1 and 2 say
pub size_says : (n : ℕ) → size_allowed n ≡ true → (20 ≤ n) × (n ≤ 65535)
unfolding size_allowed
size_says n h = let b : (leb 20 n ≡ true) × (leb n 65535 ≡ true) = both _ _ h in (leb-true _ _ b.0, leb-true _ _ b.1)

pub record Placed (file : List ℕ) (section : ℕ) : Type 0 where
  pub follows : section_start file section ≡ expected_start file section
  pub inside : section_end file section ≤ length file
  pub last : 4 ≤ section → section_end file section ≡ length file

pub pair_says : (file : List ℕ) (section : ℕ) → pair_allowed file section ≡ true → Placed file section
unfolding pair_allowed
pair_says file section h =
    let b : (eqb (section_start file section) (expected_start file section) ≡ true) × _ = both _ _ h in
    let d : (leb (section_end file section) (length file) ≡ true) × _ = both _ _ b.1 in
    record {
      follows = eqb-true _ _ b.0;
      inside = leb-true _ _ d.0;
      last = λ l. ⊎_elim (λ s. absurd (not_before l (ltb-true _ _ s))) (eqb-true _ _) (either _ _ d.1);
    }
  where
    not_before : 4 ≤ section → section < 4 → ⊥
    not_before l s = omega arith

pub record Laid (file : List ℕ) : Type 0 where
  pub low : 20 ≤ length file
  pub high : length file ≤ 65535
  pub placed : (section : ℕ) → section < 5 → Placed file section

pub laid : (file : List ℕ) → (directory_check file).number ≡ 0 → Laid file
unfolding directory_check
laid file h =
    let b : ((judge 1 (λ k. k) (λ _. size_allowed (length file)) 1).number ≡ 0) × ((judge 2 (λ k. k) (pair_allowed file) 5).number ≡ 0) = then_kept _ _ h in
    let s : (20 ≤ length file) × (length file ≤ 65535) = size_says _ (judge_passed 1 _ _ 1 (omega arith) b.0 0 (omega arith)) in
    record { low = s.0; high = s.1; placed = λ section l. pair_says file section (judge_passed 2 _ _ 5 (omega arith) b.1 section l) }

module _ (file : List ℕ) (is : Laid file) where
  -- a section's part is as long as its pair says
  pub part_length : (section : ℕ) → section < 5 → length (bytes_of file section) ≡ section_length file section
  part_length section l = simp (length-take, length-drop) (omega (arith, (is.placed section l).inside))

  -- each section ends before the later ones start
  pub rising : (i j : ℕ) → i < j → j < 5 → section_end file i ≤ section_start file j
  unfolding expected_start
  rising i zero h l = absurd (none h)
    where
      none : i < 0 → ⊥
      none h = omega arith
  rising i (suc j) h l =
      elim (dec_lt i j) [
        | yes m ↦ omega (arith, rising i j m (omega arith), (is.placed (suc j) l).follows)
        | no m ↦ omega (arith, (is.placed (suc j) l).follows, ap (section_end file) (le_antisymm {n = i} {m = j} (omega arith) (omega arith)))
      ]
