-- An accepted table's facts are what document 01 calls them.
use mathlib.Core.Path.{◌≡◌, sym, ap, subst, ◌∙◌}
use mathlib.Core.List.{List}
use Prim.Native.Nat.{ℕ}
use native.Mathlib.Omega.{arith}
use Rattle.faults.specs.Outcome.{facts}
use Rattle.layout_rules.proofs.Passed.{whole_records}
use Rattle.numeration.proofs.PairCount.{pairs_number}
use Rattle.reader_rules.specs.Table.{leaves_in}
use Rattle.reader_rules.specs.TableFacts.{table_facts, part_facts}
use Rattle.reader_rules.specs.Check.{table_check}
use Rattle.reader_rules.proofs.Kept.{layout_kept, table_kept}
use Rattle.reader_rules.proofs.Formed.{well_formed}
use Rattle.reader_rules.proofs.Ready.{ready_passed}
use Rattle.table_rules.specs.declared.Facts.{Facts}
use Rattle.table_rules.specs.Check.{check_facts, check_outcome}
use Rattle.table_rules.specs.FactsOf.{FactsOf}
use Rattle.table_rules.proofs.Demand.{demand_1, demand_2}

pub facts_of : (file : List ℕ) (f : Facts) → check_outcome file ≡ facts f → FactsOf file f
unfolding check_facts table_facts part_facts
facts_of file f e =
    let same : f ≡ check_facts file = (demand_1 file).only_facts f e in
    let passes : (table_check file).number ≡ 0 = (well_formed file).0 ((demand_2 file).0 (e ∙ ap facts same)).0 in
    let r = ready_passed file passes in
    let kept = layout_kept file (table_kept file passes).0 in
    let alphabet = whole_records file kept.0 kept.1 1 (omega arith) in
    let leaves = whole_records file kept.0 kept.1 3 (omega arith) in
    subst (FactsOf file) (sym same) (record {
      deepest = r.deepest;
      none_deeper = r.none_deeper;
      leaf_records = leaves.whole ∙ leaves.long;
      digit_records = alphabet.whole ∙ alphabet.long;
      fitting_pairs = pairs_number (leaves_in file);
    })
