-- A leaf's place in the whole table, counted leaf by leaf.
use mathlib.Core.Path.{◌≡◌, refl}
use mathlib.Core.Bool.{true, false, cond}
use mathlib.Core.List.{List}
use Prim.Native.Nat.{ℕ, ◌+◌, ◌*◌}
use lib.Dec.{ltb}
use lib.ListN.{get_or}
use borrow.Author.Tests.{eq-eqb, ne_eqb}
use native.Mathlib.Omega.{arith}
use Rattle.lists.specs.Count.{total}
use Rattle.lists.proofs.Count.{total_next}
use Rattle.mirror_rules.specs.Half.{word_number, images_below, leaf_place, word_place}

module _ (positive width : ℕ) (words : List ℕ) (limit : ℕ) where
  -- the image of a word that begins with zero isn't counted beside it
  pub images_one : (k : ℕ) → get_or words (width * k) 0 ≡ 0 → images_below positive width words limit k ≡ cond (ltb (word_number positive width words false k) limit) 1 0
  unfolding images_below
  images_one k zero = rw (eq-eqb _ 0 zero) (omega arith)

  pub images_two : (k : ℕ) → (get_or words (width * k) 0 ≡ 0 → ⊥) → images_below positive width words limit k ≡ cond (ltb (word_number positive width words false k) limit) 1 0 + cond (ltb (word_number positive width words true k) limit) 1 0
  unfolding images_below
  images_two k some = rw (ne_eqb _ 0 some)

  module _ (lengths : List ℕ) where
    pub places_none : (leaf_place positive width words lengths limit 0 ≡ 0) × (word_place positive width words lengths limit 0 ≡ 0)
    unfolding leaf_place word_place total
    places_none = (refl, refl)

    pub leaf_next : (n : ℕ) → leaf_place positive width words lengths limit (n + 1) ≡ leaf_place positive width words lengths limit n + images_below positive width words limit n
    unfolding leaf_place
    leaf_next n = total_next (images_below positive width words limit) n

    pub word_next : (n : ℕ) → word_place positive width words lengths limit (n + 1) ≡ word_place positive width words lengths limit n + images_below positive width words limit n * get_or lengths n 0
    unfolding word_place
    word_next n = total_next (λ k. images_below positive width words limit k * get_or lengths k 0) n
