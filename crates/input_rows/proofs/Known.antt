-- Pairs that were looked for once: none at first, one more, and what stands there; runs of places whose pairs are known.
use mathlib.Core.Path.{◌≡◌, sym, ap, ap₂, ◌∙◌}
use mathlib.Core.List.{List, replicate}
use Prim.Native.Nat.{ℕ, ◌+◌, ◌*◌, ◌<◌, ◌≤◌}
use native.Mathlib.Decide.{ℕ_discrete}
use native.Mathlib.Omega.{arith}
use lib.ListN.{get_or, set, length-set, length-replicate, get_or-replicate}
use lib.Seq.{get_or-set_same, get_or-set_other}
use Rattle.layout_rules.specs.Section.{Section}
use Rattle.ring.specs.declared.Operation.{Operation}
use Rattle.ring.specs.declared.Operation.TheVariants.{Plus}
use Rattle.ring.proofs.Element.{plus_comm}
use Rattle.digit_rules.specs.Record.{record_at, element_count}
use Rattle.digit_rules.specs.Digits.{index_in, pair_index}
use Rattle.place_rules.proofs.Part.{row_next}
use Rattle.input_rows.specs.Known.{Known, known_at, KnownRun}

module _ (op : Operation) (alphabet inputs : Section) where
  pub known_none : Known op alphabet inputs (replicate 256 255)
  known_none =
      record { long = length-replicate {A = ℕ} 256 255; right = λ i j h l other. absurd (other (get_or-replicate 256 (16 * i + j) 255 0 (omega arith))) }

  pub known_more : (known : List ℕ) (i j v : ℕ) → Known op alphabet inputs known → i < 16 → j < 16 → v ≡ pair_index op alphabet inputs i j → Known op alphabet inputs (set known (16 * i + j) v)
  known_more known i j v is h l e =
      record {
        long = length-set known (16 * i + j) v ∙ is.long;
        right = λ a b u w other. elim (ℕ_discrete (16 * a + b) (16 * i + j)) [
          | yes q ↦ let p : a ≡ i = omega arith in let r : b ≡ j = omega arith in ap (λ (n : ℕ). get_or (set known (16 * i + j) v) n 0) q ∙ get_or-set_same known (16 * i + j) v 0 (omega (arith, is.long)) ∙ e ∙ sym (ap₂ (pair_index op alphabet inputs) p r)
          | no q ↦ let same : get_or (set known (16 * i + j) v) (16 * a + b) 0 ≡ get_or known (16 * a + b) 0 = get_or-set_other known (16 * i + j) (16 * a + b) v 0 q in same ∙ is.right a b u w (λ x. other (same ∙ x))
        ];
      }

-- the digits of a sum may change places
pub either_order : (op : Operation) (alphabet inputs : Section) (i j : ℕ) → op ≡ Plus → pair_index op alphabet inputs i j ≡ pair_index op alphabet inputs j i
unfolding pair_index
either_order op alphabet inputs i j sum =
    ap (λ (o : Operation). pair_index o alphabet inputs i j) sum ∙ ap (index_in inputs (element_count inputs)) (plus_comm (record_at alphabet i) (record_at alphabet j)) ∙ sym (ap (λ (o : Operation). pair_index o alphabet inputs j i) sum)

-- a run of places whose pairs are known, place by place
module _ (known first second : List ℕ) (place : ℕ) (before : List ℕ) where
  pub run_start : KnownRun known first second place before place before
  run_start = λ f i l start holds. start

  pub run_next : (at index pair : ℕ) (row : List ℕ) → place ≤ at → at < 256 → KnownRun known first second place before at row → pair ≡ 16 * get_or first at 0 + get_or second at 0 → index ≡ get_or known pair 0 → (index ≡ 255 → ⊥)
      → KnownRun known first second place before (at + 1) (set row at index)
  run_next at index pair row low high run e is other = λ f i l start holds.
      let here : index ≡ known_at known first second at = is ∙ ap (λ (n : ℕ). get_or known n 0) e in
      row_next f i at row index (omega arith) high (run f i l start (λ k a b c. holds k a (omega arith) c)) (here ∙ holds at low (omega arith) (λ z. other (here ∙ z)))
