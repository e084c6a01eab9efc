-- The stage of rules 5 to 8 finds nothing exactly where base, alphabet and input digits are as document 01 asks; what its
-- readers then know of indexes.
use mathlib.Core.Path.{◌≡◌, refl, sym, ap, subst, ◌∙◌}
use mathlib.Core.Bool.{true}
use mathlib.Core.Logic.{inl, inr, ⊎_elim}
use Prim.Native.Nat.{ℕ, ◌+◌, ◌<◌, ◌≤◌}
use native.Mathlib.Decide.{dec_lt}
use native.Mathlib.Nat.{le_antisymm}
use native.Mathlib.Omega.{arith}
use Rattle.faults.specs.Check.{none}
use Rattle.faults.specs.Rule.{Kept, rule}
use Rattle.faults.proofs.Check.{then_kept, judge_passed}
use Rattle.faults.proofs.Rule.{exact}
use Rattle.ring.specs.Padded.{width}
use Rattle.layout_rules.specs.Section.{Section}
use Rattle.ring.specs.Element.{zeros, plus, minus}
use Rattle.ring.specs.declared.Operation.{Operation}
use Rattle.ring.specs.declared.Operation.TheVariants.{Plus, Minus}
use Rattle.ring.specs.Operation.{combine}
use Rattle.ring.proofs.Element.{same→≡}
use Rattle.ring.proofs.Combined.{combine_zeros}
use Rattle.digit_rules.specs.Record.{record_at, element_count}
use Rattle.digit_rules.specs.Digits.{index_in, discriminant_allowed, base_allowed, base_check, record_allowed, alphabet_check, pair_index, pairs_listed, inputs_allowed, input_check, digit_check, operation_check}
use Rattle.digit_rules.specs.Broken.{Broken7, Broken8, Broken42, operation_rules, Symmetric}
use Rattle.digit_rules.specs.Formed.{DigitList, DigitsFormed, AllListed}
use Rattle.digit_rules.proofs.Index.{index_is, index_first}
use Rattle.digit_rules.proofs.Allowed.{at_record, after_records}
use Rattle.digit_rules.proofs.Sums.{record_says, pairs_listed_lem, sum_listed_in}
use Rattle.digit_rules.proofs.Broken.{square_says, base_says, operation_decided, digits_exact}

digit_list : (part : Section) → ((k : ℕ) → k < element_count part → record_allowed part k ≡ true) → DigitList part
unfolding record_allowed
digit_list part allowed = record { zero_first = λ h. same→≡ _ _ (allowed 0 h); distinct = distinct }
  where
    apart : (i j : ℕ) → i < j → j < element_count part → record_at part j ≡ record_at part i → ⊥
    apart i j h l e = record_says part j (allowed j l) (l, inr (i, h, e))

    distinct : (i j : ℕ) → i < element_count part → j < element_count part → record_at part i ≡ record_at part j → i ≡ j
    distinct i j l m e =
        elim (dec_lt i j) [
          | yes h ↦ absurd (apart i j h m (sym e))
          | no h ↦ elim (dec_lt j i) [ yes k ↦ absurd (apart j i k l e) | no k ↦ le_antisymm (omega arith) (omega arith) ]
        ]

digits_kept : (part : Section) → DigitList part → Kept (rule 7 (Broken7 part))
digits_kept part list p b =
    ⊎_elim (λ z. z.1 (subst (λ k. record_at part k ≡ zeros width) (sym z.0) (list.zero_first (omega (arith, b.0)))))
    (λ r. omega (arith, r.1, list.distinct p r.0 b.0 (omega (arith, b.0, r.1)) r.2)) b.1

module _ (base alphabet inputs : Section) where
  pub formed : (digit_check base alphabet inputs).number ≡ 0 → DigitsFormed base alphabet inputs
  unfolding digit_check base_check alphabet_check input_check discriminant_allowed base_allowed
  formed h =
      let a = then_kept (base_check base) _ h in
      let b = then_kept _ _ a.0 in
      let d = then_kept (alphabet_check alphabet) (input_check alphabet inputs) a.1 in
      let input = judge_passed 8 (λ k. k) (inputs_allowed alphabet inputs) (element_count inputs + 1) (omega arith) d.1 in
      record {
        no_square = square_says base.degree base (judge_passed 5 _ _ 1 (omega arith) b.0 0 (omega arith));
        good_base = base_says base.degree base (judge_passed 6 _ _ 1 (omega arith) b.1 0 (omega arith));
        alphabet_digits = digit_list alphabet (judge_passed 7 (λ k. k) (record_allowed alphabet) (element_count alphabet) (omega arith) d.0);
        input_digits = digit_list inputs (λ k l. sym (at_record alphabet inputs k l) ∙ input k (omega arith));
        all_sums = sum_listed_in alphabet inputs (sym (after_records alphabet inputs (element_count inputs) (omega arith)) ∙ input (element_count inputs) (omega arith));
      }

  pub formed_passes : DigitsFormed base alphabet inputs → digit_check base alphabet inputs ≡ none
  formed_passes is = (digits_exact base alphabet inputs).passed.1 (λ p b. is.no_square b.1, (λ p b. is.good_base b.1, (digits_kept alphabet is.alphabet_digits, (inputs_are, tt))))
    where
      inputs_are : (p : ℕ) → Broken8 alphabet inputs p → ⊥
      inputs_are p (inl b) = digits_kept inputs is.input_digits p b
      inputs_are p (inr b) = b.1.2 (is.all_sums b.1.0 b.1.1)

-- the index of a digit is found
pub index_unique : (part : Section) → DigitList part → (k : ℕ) → k < element_count part → index_in part (element_count part) (record_at part k) ≡ k
index_unique part list k l =
    let first = index_first part (element_count part) (record_at part k) k refl in
    list.distinct _ k (omega arith) l (index_is part (element_count part) (record_at part k) (omega arith))

-- addition asks nothing
pub nothing_asked : (alphabet inputs : Section) → (operation_check Plus alphabet inputs).number ≡ 0
unfolding operation_check
nothing_asked alphabet inputs = refl

-- what the operation makes of any two alphabet digits is listed, where nothing that it asks is broken
pub operation_listed : (op : Operation) (base alphabet inputs : Section) → DigitsFormed base alphabet inputs → (operation_check op alphabet inputs).number ≡ 0 → AllListed op alphabet inputs
unfolding operation_check
operation_listed Plus base alphabet inputs is none i j l m = is.all_sums _ (i, j, l, m, refl)
operation_listed Minus base alphabet inputs is none i j l m =
    pairs_listed_lem Minus alphabet inputs i (judge_passed 42 (λ k. k) (pairs_listed Minus alphabet inputs) (element_count alphabet) (omega arith) none i l) j m

-- its input index is that of an input digit, and that digit is what the operation makes
module _ (op : Operation) (alphabet inputs : Section) (is : AllListed op alphabet inputs) (i j : ℕ) (l : i < element_count alphabet) (m : j < element_count alphabet) where
  pub pair_index_below : pair_index op alphabet inputs i j < element_count inputs
  unfolding pair_index
  pair_index_below =
      let w = is i j l m in
      omega (arith, w.1, index_first inputs (element_count inputs) (combine op (record_at alphabet i) (record_at alphabet j)) w.0 w.2)

  pub pair_index_is : record_at inputs (pair_index op alphabet inputs i j) ≡ combine op (record_at alphabet i) (record_at alphabet j)
  unfolding pair_index
  pair_index_is = index_is inputs (element_count inputs) _ pair_index_below

-- of zero and zero that of zero, where both lists start with it
pub pair_index_zero : (op : Operation) (alphabet inputs : Section) → record_at alphabet 0 ≡ zeros width → record_at inputs 0 ≡ zeros width → pair_index op alphabet inputs 0 0 ≡ 0
unfolding pair_index
pair_index_zero op alphabet inputs none nothing =
    lowest (index_first inputs (element_count inputs) _ 0 (nothing ∙ sym ((λ i. combine op (none i) (none i)) ∙ combine_zeros op width)))
  where
    lowest : {k : ℕ} → k ≤ 0 → k ≡ 0
    lowest h = omega arith

-- "−a listed for every a listed": then every difference is a sum
pub symmetric_listed : (base alphabet inputs : Section) → DigitsFormed base alphabet inputs → Symmetric alphabet → operation_check Minus alphabet inputs ≡ none
unfolding minus
symmetric_listed base alphabet inputs is mirrored =
    (exact (operation_rules Minus alphabet inputs) _ (operation_decided Minus alphabet inputs)).passed.1 (kept, tt)
  where
    kept : (p : ℕ) → Broken42 alphabet inputs p → ⊥
    kept p b =
        let w = mirrored b.1.0 b.1.1 in
        b.1.2 (is.all_sums _ (p, w.0, b.0, w.1, ap (plus (record_at alphabet p)) (sym w.2)))
