-- Demand 1 for rules 1 to 4: each stage finds the first broken rule, as the plain statements have it, and nothing else.
use mathlib.Core.Path.{◌≡◌, ap}
use mathlib.Core.Bool.{true, false}
use mathlib.Core.List.{List, [], ◌∷◌, ◌++◌}
use mathlib.Core.Logic.{◌⊎◌, inl, inr, ⊎_elim, ◌↔◌}
use Prim.Native.Nat.{ℕ, zero, suc, ◌+◌, ◌*◌, ◌/◌, ◌%◌, ◌<◌, ◌≤◌}
use native.Mathlib.Omega.{arith}
use native.Mathlib.Nat.{le-div_iff_mul-le, div-le_of_le-mul, div-add-mod', mul_comm, mul-mod_left, mul-le-mul_right}
use lib.ListN.{length}
use lib.Dec.{leb, ltb, eqb}
use borrow.Author.Tests.{ltb-false, leb-true, leb-false, eqb-true, eqb-false, le-leb, eq-eqb}
use Rattle.lists.proofs.Each.{each}
use Rattle.lists.proofs.Test.{clash, not_both, neither, both}
use Rattle.faults.specs.declared.Refusal.{Refusal}
use Rattle.faults.specs.Check.{judge, ◌then◌}
use Rattle.faults.specs.Rule.{rule}
use Rattle.faults.specs.Exact.{Exact}
use Rattle.faults.proofs.Rule.{Decided, exact, places_decided, then_decided}
use Rattle.ring.specs.declared.Degree.{Degree}
use Rattle.ring.specs.declared.Degree.TheVariants.{Two, Three, Four}
use Rattle.layout_rules.specs.Section.{record_size, section_start, section_length, section_end, section_lengths}
use Rattle.layout_rules.specs.Directory.{size_allowed, expected_start, pair_allowed, directory_check}
use Rattle.layout_rules.specs.Length.{least_records, most_records, length_allowed, section_allowed, length_check}
use Rattle.layout_rules.specs.Limit.{limit_check}
use Rattle.layout_rules.specs.Broken.{Broken1, PairFollows, Broken2, Records, Allowed, Broken3, directory_rules, length_rules, limit_rules}
use Rattle.layout_rules.proofs.Laid.{size_says, Placed, pair_says, laid}
use Rattle.layout_rules.proofs.Limit.{some_part}
use Rattle.layout_rules.proofs.Outside.{limit_decided}

-- rule 1
size_fails : (n : ℕ) → size_allowed n ≡ false → (n < 20) ⊎ (65535 < n)
unfolding size_allowed
size_fails n h = ⊎_elim (λ a. inl (leb-false _ _ a)) (λ b. inr (leb-false _ _ b)) (not_both _ _ h)

size_decided : (file : List ℕ) → Decided (rule 1 (Broken1 file) ∷ []) (judge 1 (λ k. k) (λ _. size_allowed (length file)) 1)
size_decided file =
    places_decided (rule 1 (Broken1 file)) (λ _. size_allowed (length file)) 1 (omega arith)
    (λ p b. (omega (arith, b.0), λ t. let s : (20 ≤ length file) × (length file ≤ 65535) = size_says _ t in ⊎_elim (λ l. omega arith) (λ l. omega arith) b.1))
    (λ p h t. (omega arith, size_fails _ t))

-- rule 2
pub follows_expected : (file : List ℕ) (p : ℕ) → PairFollows file p ↔ (section_start file p ≡ expected_start file p)
unfolding expected_start
follows_expected file zero = (λ e. e, λ e. e)
follows_expected file (suc p) = (λ e. e, λ e. e)

pair_fails : (file : List ℕ) (p : ℕ) → p < 5 → pair_allowed file p ≡ false → Broken2 file p
unfolding pair_allowed
pair_fails file p l h =
    (l, ⊎_elim (λ a. inl (λ f. eqb-false _ _ a ((follows_expected file p).0 f))) (λ b. inr (⊎_elim (λ a. inl (leb-false _ _ a)) (λ c. inr (ends (neither _ _ c))) (not_both _ _ b))) (not_both _ _ h))
  where
    ends : (ltb p 4 ≡ false) × (eqb (section_end file p) (length file) ≡ false) → (p ≡ 4) × ¬ (section_end file p ≡ length file)
    ends c = (omega (arith, ltb-false p 4 c.0), eqb-false _ _ c.1)

pair_decided : (file : List ℕ) → Decided (rule 2 (Broken2 file) ∷ []) (judge 2 (λ k. k) (pair_allowed file) 5)
pair_decided file = places_decided (rule 2 (Broken2 file)) (pair_allowed file) 5 (omega arith) (λ p b. (b.0, λ t. refuted p (pair_says file p t) b.1)) (pair_fails file)
  where
    refuted : (p : ℕ) → Placed file p → (¬ (PairFollows file p) ⊎ (length file < section_start file p + section_length file p) ⊎ ((p ≡ 4) × ¬ (section_start file p + section_length file p ≡ length file))) → ⊥
    refuted p is (inl f) = f ((follows_expected file p).1 is.follows)
    refuted p is (inr (inl h)) = omega (arith, is.inside)
    refuted p is (inr (inr h)) = h.1 (is.last (omega (arith, h.0)))

pub directory_decided : (file : List ℕ) → Decided (directory_rules file) (directory_check file)
unfolding directory_check
directory_decided file = then_decided _ _ _ _ (size_decided file) (λ _. pair_decided file)

-- Rules 1 and 2: the file's size and its directory
pub directory_exact : (file : List ℕ) → Exact (directory_rules file) (directory_check file)
directory_exact file = exact _ _ (directory_decided file)

-- rule 3: what its test says
abbrev pub Counted : Degree → ℕ → ℕ → Type 0
Counted d section n = (n % record_size d section ≡ 0) × (least_records section * record_size d section ≤ n) × (n ≤ most_records section * record_size d section)

pub counted : (d : Degree) (section n : ℕ) → (length_allowed d section n ≡ true) ↔ Counted d section n
unfolding length_allowed
counted d section n = (
  λ t. let a : (eqb (n % record_size d section) 0 ≡ true) × _ = both _ _ t in
      let b : (leb (least_records section * record_size d section) n ≡ true) × (leb n (most_records section * record_size d section) ≡ true) = both _ _ a.1 in
      (eqb-true _ _ a.0, leb-true _ _ b.0, leb-true _ _ b.1),
  λ w. rw (eq-eqb _ _ w.0, le-leb _ _ w.1, le-leb _ _ w.2),
)

-- n bytes in records of a size, least to most of them
counted_records : (size least most n : ℕ) → 0 < size → ((n % size ≡ 0) × (least * size ≤ n) × (n ≤ most * size)) ↔ Records size least most n
counted_records size least most n some = (
  λ w. (n / size, (le-div_iff_mul-le some).1 w.1, div-le_of_le-mul size (rw (mul_comm most size) at w.2), omega (arith, div-add-mod' n size, w.0)),
  λ w. rw w.3 (mul-mod_left w.0 size, mul-le-mul_right size w.1, mul-le-mul_right size w.2),
)

pub length_means : (d : Degree) (section n : ℕ) → section < 5 → (length_allowed d section n ≡ true) ↔ Allowed d section n
length_means d section n l = (λ t. (means d section l).0 ((counted d section n).0 t), λ a. (counted d section n).1 ((means d section l).1 a))
  where
    base : (d : Degree) → Counted d 0 n ↔ Allowed d 0 n
    base Two = (λ w. omega arith, λ a. omega arith)
    base Three = (λ w. omega arith, λ a. omega arith)
    base Four = (λ w. omega arith, λ a. omega arith)

    means : (d : Degree) (section : ℕ) → section < 5 → Counted d section n ↔ Allowed d section n
    means d =
        each (λ section. Counted d section n ↔ Allowed d section n) 5
        (((((tt, base d), counted_records _ 2 16 n (some_part d)), counted_records _ 1 136 n (some_part d)), counted_records _ 1 4000 n (omega arith)), (λ w. omega arith, λ a. omega arith))

pub length_decided : (lengths : List ℕ) → Decided (length_rules lengths) (length_check lengths)
unfolding length_check
length_decided lengths =
    places_decided (rule 3 (Broken3 lengths)) (section_allowed lengths) 5 (omega arith)
    (λ p b. (b.0, λ t. b.1 ((length_means _ p _ b.0).0 t)))
    (λ p l t. (l, λ a. clash ((length_means _ p _ l).1 a) t))

-- Rule 3: the lengths of the sections
pub length_exact : (lengths : List ℕ) → Exact (length_rules lengths) (length_check lengths)
length_exact lengths = exact _ _ (length_decided lengths)

-- Rules 1 to 4, in their order
pub layout_decided : (file : List ℕ) → Decided (directory_rules file ++ length_rules (section_lengths file) ++ limit_rules file) (directory_check file then length_check (section_lengths file) then limit_check file)
layout_decided file =
    then_decided _ _ _ _ (directory_decided file)
    (λ kept. then_decided _ _ _ _ (length_decided _) (λ _. limit_decided file (laid file (ap (λ (r : Refusal). r.number) ((directory_exact file).passed.1 kept)))))

pub layout_exact : (file : List ℕ) → Exact (directory_rules file ++ length_rules (section_lengths file) ++ limit_rules file) (directory_check file then length_check (section_lengths file) then limit_check file)
layout_exact file = exact _ _ (layout_decided file)
