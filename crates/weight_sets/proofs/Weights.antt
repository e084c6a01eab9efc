-- Laws of weight numbers and sets: one entry more, sets of twice as many neighbours, good weights, judged sets.
use mathlib.Core.Path.{◌≡◌, sym, ap, subst, ◌∙◌}
use mathlib.Core.Bool.{true}
use mathlib.Core.Logic.{⊎_elim}
use mathlib.Core.List.{List}
use Prim.Native.Nat.{ℕ, ◌+◌, ◌-◌, ◌^◌, ◌<◌, ◌≤◌}
use native.Mathlib.Omega.{arith}
use native.Mathlib.Decide.{dec_lt}
use lib.IntN.{ℤ}
use lib.ListN.{length, get_or, set, length-set, get_or-eq_default, replicate, length-replicate, get_or-replicate}
use lib.Seq.{get_or-set_same, get_or-set_other}
use lib.Bits.{bit_or}
use Rattle.lists.proofs.Entries.{entry_next}
use Rattle.layout_rules.specs.Section.{Section}
use Rattle.ring.specs.Element.{plus}
use Rattle.leaf_rules.specs.Given.{weight_given}
use Rattle.table_rules.specs.Pairs.{in_alphabet}
use Rattle.weight_sets.specs.Bits.{Has}
use Rattle.weight_sets.specs.Weights.{Covers, Good}
use Rattle.weight_sets.proofs.Bits.{has_left, has_right, has_either, single_has}

-- ---- sets of neighbours

module _ (numbers : List ℕ) (count : ℕ) where
  -- the leaves from l + step on are those of another set
  upper_half : (sets : List ℕ) (step : ℕ) → Covers numbers sets count step → (l k : ℕ) → step ≤ k → k < step + step → l + k < count → Has (get_or sets (l + step) 0) (get_or numbers (l + k) 0)
  upper_half sets step covers l k low high there =
      let e : l + step + (k - step) ≡ l + k = omega arith in
      subst (λ (i : ℕ). Has (get_or sets (l + step) 0) (get_or numbers i 0)) e (covers (l + step) (k - step) (omega arith) (omega arith))

  module _ (sets₀ sets : List ℕ) (step leaf : ℕ) (covers : Covers numbers sets₀ count step) (same : (l : ℕ) → leaf ≤ l → get_or sets l 0 ≡ get_or sets₀ l 0) where
    abbrev Twice : List ℕ → ℕ → Type 0
    Twice xs n = (l k : ℕ) → k < step + step → l + k < count → l < n → Has (get_or xs l 0) (get_or numbers (l + k) 0)

    here : (k : ℕ) → k < step + step → leaf + k < count → Has (bit_or (get_or sets leaf 0) (get_or sets (leaf + step) 0)) (get_or numbers (leaf + k) 0)
    here k h there =
        elim (dec_lt k step) [
          | yes l ↦ has_left (get_or sets leaf 0) (get_or sets (leaf + step) 0) _ (subst (λ (x : ℕ). Has x (get_or numbers (leaf + k) 0)) (sym (same leaf (omega arith))) (covers leaf k l there))
          | no l ↦ has_right (get_or sets leaf 0) (get_or sets (leaf + step) 0) _ (subst (λ (x : ℕ). Has x (get_or numbers (leaf + k) 0)) (sym (same (leaf + step) (omega arith))) (upper_half sets₀ step covers leaf k (omega arith) h there))
        ]

    pub double_next : leaf < length sets → Twice sets leaf → Twice (set sets leaf (bit_or (get_or sets leaf 0) (get_or sets (leaf + step) 0))) (leaf + 1)
    double_next inside before l k h there low =
        entry_next (λ i x. (j : ℕ) → j < step + step → i + j < count → Has x (get_or numbers (i + j) 0)) sets leaf _ inside (λ i lower j small within. before i j small within lower) here l low k h there

    -- those whose second half is past the last leaf
    pub double_end : count ≤ leaf + step → Twice sets leaf → Covers numbers sets count (step + step)
    double_end past before l k h there =
        elim (dec_lt l leaf) [
          | yes low ↦ before l k h there low
          | no high ↦ subst (λ (x : ℕ). Has x (get_or numbers (l + k) 0)) (sym (same l (omega arith))) (covers l k (omega arith) there)
        ]

  pub same_next : (sets₀ sets : List ℕ) (leaf v : ℕ) → ((l : ℕ) → leaf ≤ l → get_or sets l 0 ≡ get_or sets₀ l 0) → (l : ℕ) → leaf + 1 ≤ l → get_or (set sets leaf v) l 0 ≡ get_or sets₀ l 0
  same_next sets₀ sets leaf v same l h = get_or-set_other sets leaf l v 0 (λ e. omega arith) ∙ same l (omega arith)

-- ---- good weights

pub good_next : (alphabet leaves : Section) (first : List ℕ) (part : List ℤ) (good number : ℕ) → in_alphabet alphabet (plus part (weight_given leaves (get_or first number 0))) ≡ true → Good alphabet leaves first part good → Good alphabet leaves first part (bit_or good (2 ^ number))
good_next alphabet leaves first part good number holds before j h =
    ⊎_elim (before j) (λ one. ap (λ (i : ℕ). in_alphabet alphabet (plus part (weight_given leaves (get_or first i 0)))) (single_has number j one) ∙ holds) (has_either good (2 ^ number) j h)

-- ---- judged sets

-- an entry written at a place is there, or the list is too short and has none
pub entry_there : (P : ℕ → Type 0) (xs : List ℕ) (n v : ℕ) → P 0 → P v → P (get_or (set xs n v) n 0)
entry_there P xs n v none some =
    elim (dec_lt n (length xs)) [
      | yes l ↦ subst P (sym (get_or-set_same xs n v 0 l)) some
      | no l ↦ subst P (sym (get_or-eq_default (set xs n v) 0 (omega (arith, length-set xs n v)))) none
    ]

-- nothing is judged yet
pub zeros_none : (n i : ℕ) → get_or (replicate {A = ℕ} n 0) i 0 ≡ 0
zeros_none n i =
    elim (dec_lt i n) [
      | yes l ↦ get_or-replicate {A = ℕ} n i 0 0 l
      | no l ↦ get_or-eq_default (replicate {A = ℕ} n 0) 0 (omega (arith, length-replicate {A = ℕ} n 0))
    ]
