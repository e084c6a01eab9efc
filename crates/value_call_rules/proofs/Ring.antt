-- The value of a row is taken in the ring of the file's degree: four parts are those d parts and zeros above them.
use mathlib.Core.Path.{◌≡◌, refl, sym, ap, ◌∙◌}
use mathlib.Core.List.{List, [], ◌∷◌, map}
use Prim.Native.Nat.{ℕ, zero, suc, ◌<◌, ◌≤◌}
use native.Mathlib.Omega.{arith}
use lib.ListN.{length, length-replicate, get_or-eq_default}
use lib.IntN.{ℤ, pos}
use Rattle.ring.specs.Degree.{part_count}
use Rattle.ring.specs.Element.{part, plus}
use Rattle.ring.specs.Padded.{width, padded}
use Rattle.ring.proofs.Element.{plus_parts}
use Rattle.ring.proofs.Padded.{part_padded, padded_plus, padded_zeros}
use Rattle.ring.proofs.Product.{length_product}
use Rattle.layout_rules.specs.Section.{degree_in}
use Rattle.layout_rules.proofs.Limit.{some_part}
use Rattle.digit_rules.specs.Base.{omega_of, beta_of}
use Rattle.digit_rules.specs.Record.{element_at, record_at}
use Rattle.digit_rules.proofs.Base.{omega_parts, base_product}
use Rattle.digit_rules.proofs.Record.{parts_counted}
use Rattle.numeration.specs.Elements.{elements}
use Rattle.numeration.specs.Value.{power, value_from, value}
use Rattle.reader_rules.specs.Table.{base_part, alphabet_part, operations_of, value_of}
use Rattle.value_call_rules.specs.Ring.{ring_of, digit_parts}

module _ (file : List ℕ) where
  length_power : (j : ℕ) (x : List ℤ) → length x ≡ part_count (degree_in file) → length (power (ring_of file) j x) ≡ part_count (degree_in file)
  unfolding power
  length_power zero x h = h
  length_power (suc j) x h =
      let r = omega_of (base_part file) in
      length_product r (omega (arith, omega_parts (base_part file), some_part (degree_in file))) (beta_of (base_part file)) (power (ring_of file) j x) (length_power j x h ∙ sym (omega_parts (base_part file)))
      ∙ omega_parts (base_part file)

  padded_power : (j : ℕ) (x : List ℤ) → length x ≡ part_count (degree_in file) → power (operations_of file) j (padded x) ≡ padded (power (ring_of file) j x)
  unfolding power elements
  padded_power zero x h = refl
  padded_power (suc j) x h = ap (operations_of file).base (padded_power j x h) ∙ base_product (base_part file) (power (ring_of file) j x) (length_power j x h)

  padded_from : (j : ℕ) (row : List ℕ) → value_from (operations_of file) j (map (record_at (alphabet_part file)) row) ≡ padded (value_from (ring_of file) j (map (digit_parts file) row))
  unfolding value_from elements element_at
  padded_from j [] = sym (padded_zeros (part_count (degree_in file)))
  padded_from j (index ∷ row) =
      (λ i. plus (padded_power j (digit_parts file index) (parts_counted (alphabet_part file) _) i) (padded_from (suc j) row i)) ∙ sym (padded_plus (power (ring_of file) j (digit_parts file index)) _)

  -- The value of a row, by every file: the sum in the ring of ω of its digits, each of d parts, times β to the power of its place; then zeros.
  pub value_in_ring : (row : List ℕ) → value_of file row ≡ padded (value (ring_of file) (map (digit_parts file) row))
  unfolding value
  value_in_ring row = padded_from 0 row

  length_from : (j : ℕ) (row : List ℕ) → length (value_from (ring_of file) j (map (digit_parts file) row)) ≡ part_count (degree_in file)
  unfolding value_from
  length_from j [] = length-replicate (part_count (degree_in file)) (pos 0)
  length_from j (index ∷ row) = plus_parts (part_count (degree_in file)) _ _ (length_power j (digit_parts file index) (parts_counted (alphabet_part file) _)) (length_from (suc j) row)

  -- So the d parts tell the whole element: those above the degree are zero.
  pub value_above : (row : List ℕ) (k : ℕ) → part_count (degree_in file) ≤ k → k < width → part (value_of file row) k ≡ pos 0
  unfolding value
  value_above row k h l =
      ap (λ x. part x k) (value_in_ring row) ∙ part_padded _ k l ∙ get_or-eq_default (value (ring_of file) (map (digit_parts file) row)) (pos 0) (omega (arith, length_from 0 row))
