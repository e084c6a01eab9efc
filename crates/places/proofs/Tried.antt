-- What is tried before a search: an alphabet digit that was found before.
use mathlib.Core.Path.{◌≡◌, refl, sym, ap, subst, ◌∙◌}
use mathlib.Core.List.{List}
use Prim.Native.Nat.{ℕ, ◌<◌, ◌≤◌}
use native.Mathlib.Decide.{dec_lt, ℕ_discrete}
use native.Mathlib.Omega.{arith}
use lib.ListN.{length, get_or, set, replicate, length-set, get_or-eq_default}
use lib.Seq.{get_or-set_same, get_or-set_other}
use lib.IntN.{ℤ}
use Rattle.layout_rules.specs.Section.{Section}
use Rattle.digit_rules.specs.Record.{record_at, element_count}
use Rattle.digit_rules.proofs.Index.{index_is, index_first}
use Rattle.place_rules.specs.Place.{alphabet_index}
use Rattle.places.specs.Helpers.{Firsts}
use Rattle.lists.proofs.Entries.{zeros_at}

module _ (alphabet : Section) where
  abbrev IsFirst : ℕ → Type 0
  IsFirst k = k < element_count alphabet → alphabet_index alphabet (record_at alphabet k) ≡ k

  -- record 0 is the first of its element
  zero_first : IsFirst 0
  zero_first _ = lowest (index_first alphabet (element_count alphabet) (record_at alphabet 0) 0 refl)
    where
      lowest : {k : ℕ} → k ≤ 0 → k ≡ 0
      lowest h = omega arith

  pub firsts_none : (n : ℕ) → Firsts alphabet (replicate n 0)
  firsts_none n = record { first = λ s. subst IsFirst (sym (zeros_at n s)) zero_first }

  module _ (x : List ℤ) (slots : List ℕ) (is : Firsts alphabet slots) (s : ℕ) where
    pub first_hit : get_or slots s 0 < element_count alphabet → record_at alphabet (get_or slots s 0) ≡ x → get_or slots s 0 ≡ alphabet_index alphabet x
    first_hit h e = sym (is.first s h) ∙ ap (alphabet_index alphabet) e

    pub firsts_more : (v : ℕ) → v ≡ alphabet_index alphabet x → v < element_count alphabet → Firsts alphabet (set slots s v)
    firsts_more v e h = record { first = first }
      where
        found : alphabet_index alphabet (record_at alphabet v) ≡ v
        found = ap (λ (k : ℕ). alphabet_index alphabet (record_at alphabet k)) e ∙ ap (alphabet_index alphabet) (index_is alphabet (element_count alphabet) x (omega arith)) ∙ sym e

        here : IsFirst (get_or (set slots s v) s 0)
        here =
            elim (dec_lt s (length slots)) [
              | yes l ↦ subst IsFirst (sym (get_or-set_same slots s v 0 l)) (λ _. found)
              | no l ↦ subst IsFirst (sym (get_or-eq_default (set slots s v) 0 {n = s} (omega (arith, length-set slots s v)))) zero_first
            ]

        first : (t : ℕ) → IsFirst (get_or (set slots s v) t 0)
        first t =
            elim (ℕ_discrete t s) [
              | yes q ↦ subst (λ (n : ℕ). IsFirst (get_or (set slots s v) n 0)) (sym q) here
              | no q ↦ subst IsFirst (sym (get_or-set_other slots s t v 0 q)) (is.first t)
            ]
