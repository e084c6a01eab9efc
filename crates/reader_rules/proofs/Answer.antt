-- What the reader's answer tells its callers.
use mathlib.Core.Path.{◌≡◌, sym, ap, ◌∙◌}
use mathlib.Core.List.{List}
use Prim.Native.Nat.{ℕ}
use native.Mathlib.Omega.{arith}
use native.Mathlib.Decide.{ℕ_discrete}
use Rattle.faults.specs.Outcome.{Group, Outcome, facts, refused, author}
use Rattle.faults.specs.Unless.{unless}
use Rattle.faults.proofs.Unless.{unless_found, unless_none}
use Rattle.std.proofs.Common.{Result}
use Rattle.std.specs.Result.{IsErrAnd}
use Rattle.faults.specs.declared.Fault.{Fault}
use Rattle.faults.specs.Stated.{refused_by}
use Rattle.faults.specs.Answer.{outcome_by}
use Rattle.faults.proofs.Answer.{exit_states}
use Rattle.digit_rules.specs.Record.{element_count}
use Rattle.reader_rules.specs.declared.Table.{Table}
use Rattle.reader_rules.specs.Table.{alphabet_part}
use Rattle.reader_rules.specs.TableFacts.{table_facts, part_facts}
use Rattle.reader_rules.specs.Check.{table_check, read_outcome}

no_fault : (t : Table) (g : Group) (n p : ℕ) → facts t ≡ refused g n p → ⊥
no_fault t g n p e = let z : ◌≡◌ {A = ℕ} 0 1 = cc in omega arith

same_facts : (t s : Table) → facts t ≡ facts s → t ≡ s
same_facts t s e = cc

-- facts: rules 1 to 13 are kept, and the facts are the table's
pub read_facts : (file : List ℕ) (t : Table) → facts t ≡ read_outcome file → ((table_check file).number ≡ 0) × (t ≡ table_facts file)
unfolding read_outcome
read_facts file t e =
    elim (ℕ_discrete (table_check file).number 0) [
      | yes z ↦ (z, same_facts t (table_facts file) (e ∙ unless_none author (table_check file) (facts (table_facts file)) z))
      | no some ↦ absurd (no_fault t author (table_check file).number (table_check file).place (e ∙ unless_found author (table_check file) (facts (table_facts file)) some))
    ]

-- what the facts that the reader gives tell a call: rules 1 to 13 are kept, and the alphabet's size and the depth are the table's
pub record Told (file : List ℕ) (t : Table) : Type 0 where
  pub passes : (table_check file).number ≡ 0
  pub size : t.alphabet.count ≡ element_count (alphabet_part file)
  pub depth : t.depth ≡ (table_facts file).depth

pub found_facts : (file : List ℕ) (t : Table) → facts t ≡ read_outcome file → Told file t
unfolding table_facts part_facts
found_facts file t e =
    let known = read_facts file t e in
    record { passes = known.0; size = ap (λ (s : Table). s.alphabet.count) known.1; depth = ap (λ (s : Table). s.depth) known.1 }

-- a fault: the call that passes it on refuses as its own definition does
pub read_fault : (F : Type 0) (file : List ℕ) (g : Group) (n p : ℕ) (rest : Outcome F) → refused g n p ≡ read_outcome file → refused g n p ≡ unless author (table_check file) rest
unfolding read_outcome
read_fault F file g n p rest e =
    elim (ℕ_discrete (table_check file).number 0) [
      | yes z ↦ absurd (no_fault (table_facts file) g n p (sym (e ∙ unless_none author (table_check file) (facts (table_facts file)) z)))
      | no some ↦ carried (e ∙ unless_found author (table_check file) (facts (table_facts file)) some) ∙ sym (unless_found author (table_check file) rest some)
    ]
  where
    carried : ◌≡◌ {A = Outcome Table} (refused g n p) (refused author (table_check file).number (table_check file).place) → ◌≡◌ {A = Outcome F} (refused g n p) (refused author (table_check file).number (table_check file).place)
    carried q =
        let a : g ≡ author = cc in
        let b : n ≡ (table_check file).number = cc in
        let c : p ≡ (table_check file).place = cc in
        λ i. refused (a i) (b i) (c i)

-- the same of a call that ends with the reader's fault
pub read_exit : {A F : Type 0} (told : A → F) (file : List ℕ) (rest : Outcome F) (r : Result A Fault) (e : Fault) → IsErrAnd r (λ x. x ≡ e) → refused_by e ≡ read_outcome file → outcome_by told r ≡ unless author (table_check file) rest
read_exit {F = F} told file rest r e ends stated = exit_states told r e ends ∙ read_fault F file _ _ _ rest stated
