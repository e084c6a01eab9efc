-- Demand 1 for rules 5 to 8, and for 42: the stage finds the first broken rule, as the plain statements have it, and nothing else.
use mathlib.Core.Path.{◌≡◌, refl, sym, ◌∙◌}
use mathlib.Core.Bool.{true, false}
use mathlib.Core.List.{[], ◌∷◌}
use mathlib.Core.Logic.{inl, inr}
use Prim.Native.Nat.{ℕ, ◌+◌, ◌<◌}
use native.Mathlib.Decide.{dec_lt}
use native.Mathlib.Omega.{arith}
use lib.IntN.{nat_abs}
use borrow.Author.Tests.{not-true, not-false, ltb-true, ltb-false}
use Rattle.lists.proofs.Test.{clash}
use Rattle.faults.specs.Check.{judge}
use Rattle.faults.specs.Rule.{rule}
use Rattle.faults.specs.Exact.{Exact}
use Rattle.faults.proofs.Rule.{Decided, passes, exact, places_decided, then_decided}
use Rattle.ring.specs.declared.Degree.{Degree}
use Rattle.ring.specs.declared.Degree.TheVariants.{Two, Three, Four}
use Rattle.ring.specs.Product.{matrix_of}
use Rattle.ring.specs.Determinant.{determinant}
use Rattle.ring.specs.declared.Operation.{Operation}
use Rattle.ring.specs.declared.Operation.TheVariants.{Plus, Minus}
use Rattle.ring.proofs.Base.{expanding_test, square_test}
use Rattle.layout_rules.specs.Section.{Section}
use Rattle.digit_rules.specs.Record.{element_count}
use Rattle.digit_rules.specs.Base.{omega_of, beta_of}
use Rattle.digit_rules.specs.Digits.{discriminant_allowed, base_allowed, square_free, base_good, base_check, record_allowed, alphabet_check, pairs_listed, inputs_allowed, input_check, digit_check, operation_check}
use Rattle.digit_rules.specs.Broken.{BadSquare, Broken5, BadBase, Broken6, Broken7, Broken8, digit_rules, Broken42, operation_rules}
use Rattle.digit_rules.proofs.Allowed.{at_record, after_records}
use Rattle.digit_rules.proofs.Sums.{record_says, record_fails, pairs_listed_lem, pair_missed, sum_listed_in, sums_missing}

-- rule 5
pub square_says : (d : Degree) (base : Section) → square_free d base ≡ true → ¬ (BadSquare d base)
square_says Two base t b = clash ((square_test _).1 b) (not-true _ t)
square_says Three base t b = b
square_says Four base t b = b

square_fails : (d : Degree) (base : Section) → square_free d base ≡ false → BadSquare d base
square_fails Two base t = (square_test _).0 (not-false _ t)
square_fails Three base t = clash refl t
square_fails Four base t = clash refl t

square_decided : (base : Section) → Decided (rule 5 (Broken5 base) ∷ []) (judge 5 (λ k. k) (λ _. discriminant_allowed base) 1)
unfolding discriminant_allowed
square_decided base =
    places_decided (rule 5 (Broken5 base)) (λ _. discriminant_allowed base) 1 (omega arith)
    (λ p b. (omega (arith, b.0), λ t. square_says base.degree base t b.1))
    (λ p l t. (omega arith, square_fails base.degree base t))

-- rule 6
pub base_says : (d : Degree) (base : Section) → base_good d base ≡ true → ¬ (BadBase d base)
base_says Two base t bad = bad ((expanding_test _ _ _ _).0 t)
base_says Three base t low = omega (arith, ltb-true 1 (nat_abs (determinant 3 (matrix_of (omega_of base) (beta_of base)))) t, low)
base_says Four base t low = omega (arith, ltb-true 1 (nat_abs (determinant 4 (matrix_of (omega_of base) (beta_of base)))) t, low)

base_fails : (d : Degree) (base : Section) → base_good d base ≡ false → BadBase d base
base_fails Two base t = λ e. clash ((expanding_test _ _ _ _).1 e) t
base_fails Three base t = omega (arith, ltb-false 1 (nat_abs (determinant 3 (matrix_of (omega_of base) (beta_of base)))) t)
base_fails Four base t = omega (arith, ltb-false 1 (nat_abs (determinant 4 (matrix_of (omega_of base) (beta_of base)))) t)

expanding_decided : (base : Section) → Decided (rule 6 (Broken6 base) ∷ []) (judge 6 (λ k. k) (λ _. base_allowed base) 1)
unfolding base_allowed
expanding_decided base =
    places_decided (rule 6 (Broken6 base)) (λ _. base_allowed base) 1 (omega arith)
    (λ p b. (omega (arith, b.0), λ t. base_says base.degree base t b.1))
    (λ p l t. (omega arith, base_fails base.degree base t))

base_decided : (base : Section) → Decided (rule 5 (Broken5 base) ∷ rule 6 (Broken6 base) ∷ []) (base_check base)
unfolding base_check
base_decided base = then_decided _ _ _ _ (square_decided base) (λ _. expanding_decided base)

-- rule 7
alphabet_decided : (alphabet : Section) → Decided (rule 7 (Broken7 alphabet) ∷ []) (alphabet_check alphabet)
unfolding alphabet_check
alphabet_decided alphabet =
    places_decided (rule 7 (Broken7 alphabet)) (record_allowed alphabet) (element_count alphabet) (omega arith)
    (λ p b. (b.0, λ t. record_says alphabet p t b)) (record_fails alphabet)

-- rule 8
module _ (alphabet inputs : Section) where
  input_says : (p : ℕ) → Broken8 alphabet inputs p → (p < element_count inputs + 1) × (inputs_allowed alphabet inputs p ≡ true → ⊥)
  input_says p (inl b) = (omega (arith, b.0), λ t. record_says inputs p (sym (at_record alphabet inputs p b.0) ∙ t) b)
  input_says p (inr b) = (
    omega (arith, b.0),
    λ t. b.1.2 (sum_listed_in alphabet inputs (sym (after_records alphabet inputs p (omega (arith, b.0))) ∙ t) b.1.0 b.1.1),
  )

  input_fails : (p : ℕ) → p < element_count inputs + 1 → inputs_allowed alphabet inputs p ≡ false → Broken8 alphabet inputs p
  input_fails p l t =
      elim (dec_lt p (element_count inputs)) [
        | yes h ↦ inl (record_fails inputs p h (sym (at_record alphabet inputs p h) ∙ t))
        | no h ↦ inr (omega arith, sums_missing alphabet inputs (sym (after_records alphabet inputs p (omega arith)) ∙ t))
      ]

  input_decided : Decided (rule 8 (Broken8 alphabet inputs) ∷ []) (input_check alphabet inputs)
  unfolding input_check
  input_decided = places_decided (rule 8 (Broken8 alphabet inputs)) (inputs_allowed alphabet inputs) (element_count inputs + 1) (omega arith) input_says input_fails

-- rule 42, of subtraction; addition asks nothing more
pub operation_decided : (op : Operation) (alphabet inputs : Section) → Decided (operation_rules op alphabet inputs) (operation_check op alphabet inputs)
unfolding operation_check
operation_decided Plus alphabet inputs = passes refl tt
operation_decided Minus alphabet inputs =
    places_decided (rule 42 (Broken42 alphabet inputs)) (pairs_listed Minus alphabet inputs) (element_count alphabet) (omega arith)
    (λ p b. (b.0, λ t. b.1.2 (pairs_listed_lem Minus alphabet inputs p t b.1.0 b.1.1))) (λ p l t. (l, pair_missed Minus alphabet inputs p t))

pub digits_decided : (base alphabet inputs : Section) → Decided (digit_rules base alphabet inputs) (digit_check base alphabet inputs)
unfolding digit_check
digits_decided base alphabet inputs =
    then_decided _ _ _ _ (base_decided base) (λ _. then_decided _ _ _ _ (alphabet_decided alphabet) (λ _. input_decided alphabet inputs))

-- Rules 5 to 8: base, alphabet and input digits
pub digits_exact : (base alphabet inputs : Section) → Exact (digit_rules base alphabet inputs) (digit_check base alphabet inputs)
digits_exact base alphabet inputs = exact _ _ (digits_decided base alphabet inputs)
