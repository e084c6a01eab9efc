-- Laws of rules 1 and 2 for the functions that run them: one for each answer.
use mathlib.Core.Path.{◌≡◌, refl, sym, ap, ◌∙◌}
use mathlib.Core.Bool.{true, false}
use mathlib.Core.List.{List}
use Prim.Native.Nat.{ℕ, zero, suc, ◌-◌, ◌<◌, ◌≤◌}
use native.Mathlib.Omega.{arith}
use lib.ListN.{length}
use lib.Dec.{eqb}
use borrow.Author.Tests.{lt-ltb, le-ltb, le-leb, lt-leb, eq-eqb, ne_eqb}
use Rattle.lists.specs.Scan.{first_failing}
use Rattle.faults.specs.Check.{refusal, none, judge}
use Rattle.faults.proofs.Check.{judge_broken, judge_kept, once_broken, once_kept, then_found, then_next}
use Rattle.layout_rules.specs.Section.{section_start, section_end}
use Rattle.layout_rules.specs.Directory.{size_allowed, expected_start, pair_allowed, directory_check}

pub expected_next : (file : List ℕ) (section : ℕ) → (section ≡ 0 → ⊥) → expected_start file section ≡ section_end file (section - 1)
unfolding expected_start
expected_next file zero h = absurd (h refl)
expected_next file (suc section) h = ap (section_end file) (omega arith)

-- a pair whose start, expected start and end were read as a, b and e
module _ (file : List ℕ) (section a b e : ℕ) (starts : a ≡ section_start file section) (expected : b ≡ expected_start file section) (ends : e ≡ section_end file section) where
  pub pair_elsewhere : (a ≡ b → ⊥) → false ≡ pair_allowed file section
  unfolding pair_allowed
  pair_elsewhere h = rw (ne_eqb (section_start file section) (expected_start file section) (λ q. h (starts ∙ q ∙ sym expected)))

  pub pair_past : a ≡ b → length file < e → false ≡ pair_allowed file section
  unfolding pair_allowed
  pair_past q h = rw (eq-eqb _ _ (sym starts ∙ q ∙ expected), lt-leb _ _ (rw ends at h))

  pub pair_inner : a ≡ b → e ≤ length file → section < 4 → true ≡ pair_allowed file section
  unfolding pair_allowed
  pair_inner q h l = rw (eq-eqb _ _ (sym starts ∙ q ∙ expected), le-leb _ _ (rw ends at h), lt-ltb _ _ l)

  pub pair_last : a ≡ b → e ≤ length file → 4 ≤ section → eqb e (length file) ≡ pair_allowed file section
  unfolding pair_allowed
  pair_last q h l = rw (eq-eqb _ _ (sym starts ∙ q ∙ expected), le-leb _ _ (rw ends at h), le-ltb _ _ l, ← ends)

module _ (file : List ℕ) where
  size_broken : size_allowed (length file) ≡ false → refusal 1 0 ≡ directory_check file
  unfolding directory_check
  size_broken e = rw (once_broken 1 (λ k. k) (size_allowed (length file)) e) (sym (then_found (refusal 1 0) _ (λ z. omega arith)))

  pub too_short : length file < 20 → refusal 1 0 ≡ directory_check file
  unfolding size_allowed
  too_short h = size_broken (rw (lt-leb _ _ h))

  pub too_long : 20 ≤ length file → 65535 < length file → refusal 1 0 ≡ directory_check file
  unfolding size_allowed
  too_long l h = size_broken (rw (le-leb _ _ l, lt-leb _ _ h))

  module _ (low : 20 ≤ length file) (high : length file ≤ 65535) (i : ℕ) (first : i ≡ first_failing (pair_allowed file) 0 5) where
    kept : size_allowed (length file) ≡ true
    unfolding size_allowed
    kept = rw (le-leb _ _ low, le-leb _ _ high)

    pairs : directory_check file ≡ judge 2 (λ k. k) (pair_allowed file) 5
    unfolding directory_check
    pairs = rw (once_kept 1 (λ k. k) (size_allowed (length file)) kept) (then_next none _ refl)

    pub pair_broken : i < 5 → refusal 2 i ≡ directory_check file
    pair_broken h = sym (pairs ∙ judge_broken 2 (λ k. k) (pair_allowed file) 5 i first h)

    pub pairs_kept : 5 ≤ i → none ≡ directory_check file
    pairs_kept h = sym (pairs ∙ judge_kept 2 (λ k. k) (pair_allowed file) 5 i first h)
