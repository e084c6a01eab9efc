-- What the tests of rules 7, 8 and 42 say: zero first and no repeat, every sum listed, every difference listed.
use mathlib.Core.Path.{◌≡◌, refl, sym, ap, subst, ◌∙◌}
use mathlib.Core.Bool.{Bool, true, false}
use mathlib.Core.List.{List}
use mathlib.Core.Logic.{inl, inr, ⊎_elim}
use Prim.Native.Nat.{ℕ, zero, suc, ◌<◌, ◌≤◌}
use native.Mathlib.Decide.{dec_lt}
use native.Mathlib.Omega.{arith}
use lib.IntN.{ℤ}
use borrow.Author.Tests.{eqb-true, eqb-false, ltb-true, ltb-false}
use Rattle.lists.specs.Scan.{every}
use Rattle.lists.proofs.Scan.{every_sound, every_fails}
use Rattle.lists.proofs.Test.{clash}
use Rattle.ring.specs.Padded.{width}
use Rattle.layout_rules.specs.Section.{Section}
use Rattle.ring.specs.Element.{zeros, plus}
use Rattle.ring.specs.declared.Operation.{Operation}
use Rattle.ring.specs.declared.Operation.TheVariants.{Plus, Minus}
use Rattle.ring.specs.Operation.{combine}
use Rattle.ring.specs.Tests.{same}
use Rattle.ring.proofs.Element.{plus_comm, same_refl, same→≡}
use Rattle.digit_rules.specs.Record.{record_at, element_count}
use Rattle.digit_rules.specs.Digits.{index_in, record_allowed, pair_index, pair_listed, partners, pairs_listed, all_pairs_listed}
use Rattle.digit_rules.specs.Broken.{Broken7, Sum, Listed}
use Rattle.digit_rules.proofs.Index.{index_is, index_first, index_high}

-- ---- rule 7

pub record_says : (part : Section) (p : ℕ) → record_allowed part p ≡ true → ¬ (Broken7 part p)
unfolding record_allowed
record_says part zero t b = ⊎_elim (λ z. z.1 (same→≡ _ _ t)) (λ r. omega (arith, r.1)) b.1
record_says part (suc p) t b =
    ⊎_elim (λ z. omega (arith, z.0))
    (λ r. omega (arith, r.1, eqb-true (index_in part (suc p) (record_at part (suc p))) (suc p) t, index_first part (suc p) (record_at part (suc p)) r.0 (sym r.2)))
    b.1

pub record_fails : (part : Section) (p : ℕ) → p < element_count part → record_allowed part p ≡ false → Broken7 part p
unfolding record_allowed
record_fails part zero l t = (l, inl (refl, λ e. clash (subst (λ x. same x (zeros width) ≡ true) (sym e) (same_refl (zeros width))) t))
record_fails part (suc p) l t = (l, inr (index_in part (suc p) (record_at part (suc p)), below, sym (index_is part (suc p) _ below)))
  where
    below : index_in part (suc p) (record_at part (suc p)) < suc p
    below = omega (arith, index_high part (suc p) (record_at part (suc p)), eqb-false (index_in part (suc p) (record_at part (suc p))) (suc p) t)

-- ---- pairs of alphabet digits

module _ (op : Operation) (alphabet inputs : Section) (i : ℕ) where
  -- what the operation makes of digit i and those that it is taken with is listed
  pub pairs_listed_lem : pairs_listed op alphabet inputs i ≡ true → (j : ℕ) → j < partners op (element_count alphabet) i → Listed inputs (combine op (record_at alphabet i) (record_at alphabet j))
  unfolding pairs_listed pair_listed pair_index
  pairs_listed_lem t j l =
      let h = ltb-true _ _ (every_sound _ 0 (partners op (element_count alphabet) i) t j (omega arith) (omega arith)) in
      (_, h, index_is inputs (element_count inputs) _ h)

  -- or is missing for one of them
  pub pair_missed : pairs_listed op alphabet inputs i ≡ false → (j : ℕ) × (j < partners op (element_count alphabet) i) × ¬ (Listed inputs (combine op (record_at alphabet i) (record_at alphabet j)))
  unfolding pairs_listed pair_listed pair_index
  pair_missed t =
      let w = every_fails (pair_listed op alphabet inputs i) 0 (partners op (element_count alphabet) i) t in
      let x = combine op (record_at alphabet i) (record_at alphabet w.0) in
      (w.0, omega (arith, w.2), λ y. omega (arith, y.1, ltb-false (index_in inputs (element_count inputs) x) (element_count inputs) w.3, index_first inputs (element_count inputs) x y.0 y.2))

-- the digits that one is taken with are alphabet digits
pub partners_most : (op : Operation) (n i : ℕ) → i < n → partners op n i ≤ n
partners_most Plus n i h = omega arith
partners_most Minus n i h = omega arith

-- for functions that count them
pub pairs_by : (op : Operation) (alphabet inputs : Section) (i n end : ℕ) (found : Bool) → end ≡ partners op n i → n ≡ element_count alphabet → every (pair_listed op alphabet inputs i) 0 end ≡ found → pairs_listed op alphabet inputs i ≡ found
unfolding pairs_listed
pairs_by op alphabet inputs i n end found counted counts is =
    ap (every (pair_listed op alphabet inputs i) 0) (sym (counted ∙ ap (λ (m : ℕ). partners op m i) counts)) ∙ is

module _ (alphabet : Section) where
  -- what holds of every sum of a digit and one up to it holds of every sum
  of_sums : (P : List ℤ → Type 0) → ((i j : ℕ) → i < element_count alphabet → j ≤ i → P (plus (record_at alphabet i) (record_at alphabet j))) → (x : List ℤ) → Sum alphabet x → P x
  of_sums P h x s =
      subst P (sym s.4) (elim (dec_lt s.0 s.1) [
        | yes o ↦ subst P (plus_comm (record_at alphabet s.1) (record_at alphabet s.0)) (h s.1 s.0 s.3 (omega arith))
        | no o ↦ h s.0 s.1 s.2 (omega arith)
      ])

  pub sum_listed_in : (inputs : Section) → all_pairs_listed Plus alphabet inputs ≡ true → (x : List ℤ) → Sum alphabet x → Listed inputs x
  unfolding all_pairs_listed
  sum_listed_in inputs t =
      of_sums (Listed inputs) (λ i j l o. pairs_listed_lem Plus alphabet inputs i (every_sound _ 0 (element_count alphabet) t i (omega arith) (omega arith)) j (omega arith))

  -- a sum is missing
  pub sums_missing : (inputs : Section) → all_pairs_listed Plus alphabet inputs ≡ false → (x : List ℤ) × Sum alphabet x × ¬ (Listed inputs x)
  unfolding all_pairs_listed
  sums_missing inputs t =
      let a = every_fails (pairs_listed Plus alphabet inputs) 0 (element_count alphabet) t in
      let b = pair_missed Plus alphabet inputs a.0 a.3 in
      (plus (record_at alphabet a.0) (record_at alphabet b.0), (a.0, b.0, omega arith, omega (arith, b.1), refl), b.2)
