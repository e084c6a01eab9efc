-- Laws of a row with one digit changed.
use mathlib.Core.Path.{◌≡◌, sym, ap, ◌∙◌}
use mathlib.Core.List.{List}
use Prim.Native.Nat.{ℕ, ◌<◌, ◌≤◌}
use native.Mathlib.Decide.{ℕ_discrete}
use native.Mathlib.Omega.{arith}
use lib.ListN.{length, get_or, set, length-set, get_or-eq_default}
use lib.Seq.{get_or-set_same, get_or-set_other, set_comm}
use borrow.Author.Tests.{eq-eqb, ne_eqb}
use Rattle.row_rules.specs.declared.Change.{Change}
use Rattle.row_rules.specs.Changed.{changed, no_change}
use Rattle.row_rules.specs.Fit.{Indexes}
use Rattle.row_rules.specs.Rows.{RowsFit}

module _ (change : Change) (number : ℕ) (row : List ℕ) where
  pub changed_own : change.row ≡ number → changed change number row ≡ set row change.place change.digit
  unfolding changed
  changed_own e = rw (eq-eqb _ _ e, changed)

  -- a change of another row leaves it
  pub changed_other : (change.row ≡ number → ⊥) → changed change number row ≡ row
  unfolding changed
  changed_other h = rw (ne_eqb _ _ h, changed)

  pub length_changed : length (changed change number row) ≡ length row
  length_changed =
      elim (ℕ_discrete change.row number) [
        | yes e ↦ ap length (changed_own e) ∙ length-set row change.place change.digit
        | no h ↦ ap length (changed_other h)
      ]

  -- its bytes: none outside the row, those of the row at other places, the new digit at its own
  pub changed_outside : (place : ℕ) → length row ≤ place → get_or (changed change number row) place 0 ≡ 0
  changed_outside place h = get_or-eq_default (changed change number row) 0 {n = place} (omega (arith, length_changed))

  pub changed_elsewhere : (place : ℕ) → (change.place ≡ place → ⊥) → get_or (changed change number row) place 0 ≡ get_or row place 0
  changed_elsewhere place h =
      elim (ℕ_discrete change.row number) [
        | yes e ↦ ap (λ (r : List ℕ). get_or r place 0) (changed_own e) ∙ get_or-set_other row change.place place change.digit 0 (λ q. h (sym q))
        | no m ↦ ap (λ (r : List ℕ). get_or r place 0) (changed_other m)
      ]

  pub changed_here : (place : ℕ) → change.row ≡ number → change.place ≡ place → place < length row → get_or (changed change number row) place 0 ≡ change.digit
  changed_here place e q h =
      ap (λ (r : List ℕ). get_or r place 0) (changed_own e) ∙ ap (λ (p : ℕ). get_or (set row p change.digit) place 0) q ∙ get_or-set_same row place change.digit 0 h

  -- a row of alphabet indexes stays one
  pub changed_indexes : (digits : ℕ) → Indexes digits row → change.digit < digits → Indexes digits (changed change number row)
  changed_indexes digits all new k h =
      elim (ℕ_discrete change.place k) [
        | yes q ↦ elim (ℕ_discrete change.row number) [
          | yes e ↦ rw (changed_here k e q l) new
          | no m ↦ rw (changed_other m) (all k l)
        ]
        | no m ↦ rw (changed_elsewhere k m) (all k l)
      ]
    where
      l : k < length row
      l = omega (arith, length_changed)

-- two changes of a row, unless both name the same place of it, in either order
pub changed_exchange : (one other : Change) (number : ℕ) (row : List ℕ) → (one.row ≡ other.row → one.place ≡ other.place → ⊥)
    → changed other number (changed one number row) ≡ changed one number (changed other number row)
changed_exchange one other number row apart =
    elim (ℕ_discrete one.row number) [
      | yes e ↦ elim (ℕ_discrete other.row number) [
        | yes q ↦ changed_own other number _ q ∙ ap (λ (r : List ℕ). set r other.place other.digit) (changed_own one number row e) ∙ set_comm row _ _ _ _ (apart (e ∙ sym q)) ∙ sym (changed_own one number _ e ∙ ap (λ (r : List ℕ). set r one.place one.digit) (changed_own other number row q))
        | no m ↦ changed_other other number _ m ∙ ap (changed one number) (sym (changed_other other number row m))
      ]
      | no m ↦ ap (changed other number) (changed_other one number row m) ∙ sym (changed_other one number _ m)
    ]

pub unchanged : (number : ℕ) (row : List ℕ) → number < 2 → changed no_change number row ≡ row
unchanged number row h = changed_other no_change number row (λ e. omega arith)

-- rows that pass rules 20 to 23 pass them after a change to an alphabet index
pub changed_fit : (change : Change) (first second : List ℕ) (sum digits depth : ℕ) → RowsFit first second sum digits depth → change.digit < digits
    → RowsFit (changed change 0 first) (changed change 1 second) sum digits depth
changed_fit change first second sum digits depth fit new =
    record {
      same_length = length_changed change 1 second ∙ fit.same_length ∙ sym (length_changed change 0 first);
      short = omega (arith, length_changed change 0 first, fit.short);
      first_indexes = changed_indexes change 0 first digits fit.first_indexes new;
      second_indexes = changed_indexes change 1 second digits fit.second_indexes new;
      room = omega (arith, length_changed change 0 first, fit.room);
    }
