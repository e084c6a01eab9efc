-- The digit that a pair of leaves gives fits 32 bits: how large it can be at each degree.
use mathlib.Core.Path.{◌≡◌, refl, subst}
use mathlib.Core.List.{List}
use Prim.Native.Nat.{ℕ, ◌+◌, ◌<◌, ◌≤◌}
use lib.Dec.{lit≤}
use Rattle.lists.specs.Count.{total}
use Rattle.ring.specs.declared.Degree.{Degree}
use Rattle.ring.specs.declared.Degree.TheVariants.{Two, Three, Four}
use Rattle.ring.specs.Degree.{part_count}
use Rattle.ring.specs.Padded.{padded_times}
use Rattle.ring.specs.Tests.{Within, column_limits}
use Rattle.ring.proofs.Columns.{product_limit, times_limited}
use Rattle.ring.proofs.Element.{within_plus, within_minus, within_le}
use Rattle.layout_rules.specs.Section.{degree_in}
use Rattle.digit_rules.specs.Record.{record_at}
use Rattle.digit_rules.specs.BaseMatrix.{base_matrix}
use Rattle.digit_rules.proofs.Base.{base_columns}
use Rattle.leaf_rules.specs.Leaf.{leaf_count, weight_of}
use Rattle.numeration.specs.Conversion.{out_digit}
use Rattle.numeration.specs.Elements.{elements}
use Rattle.numeration.specs.Pairs.{pair_digit}
use Rattle.reader_rules.specs.Table.{base_part, input_part, leaf_part, operations_of, leaves_in}
use Rattle.reader_rules.specs.Check.{table_check}
use Rattle.reader_rules.proofs.Formed.{well_formed}
use Rattle.reader_rules.proofs.Ready.{ready_passed}

-- the largest part of the base times a weight, whose parts are −1,024 to 1,024
abbrev pub times_limit : Degree → ℕ
times_limit Two = 4325376
times_limit Three = 281214976
times_limit Four = 1214382080

limit_is : (d : Degree) → product_limit (column_limits d) 1024 (part_count d) ≡ times_limit d
unfolding total
limit_is Two = refl
limit_is Three = refl
limit_is Four = refl

-- with an input digit and another weight beside it
digit_below : (d : Degree) → 128 + 1024 + times_limit d ≤ 2147483647
digit_below Two = lit≤ tt
digit_below Three = lit≤ tt
digit_below Four = lit≤ tt

module _ (table : List ℕ) (passes : (table_check table).number ≡ 0) where
  pub base_times_weight : (k : ℕ) → k < leaf_count (leaf_part table) → Within (times_limit (degree_in table)) (padded_times (part_count (degree_in table)) (base_matrix (base_part table)) (weight_of (leaf_part table) k))
  base_times_weight k there =
      subst (λ (n : ℕ). Within n (padded_times (part_count (degree_in table)) (base_matrix (base_part table)) (weight_of (leaf_part table) k))) (limit_is (degree_in table))
      (times_limited (degree_in table) 1024 (base_matrix (base_part table)) (weight_of (leaf_part table) k) (base_columns (base_part table) (ready_passed table passes).base) (((well_formed table).1 passes).weight_limits k there))

  -- an input digit, plus a weight, minus the base times a weight
  pub digit_fits : (u l : ℕ) → u < leaf_count (leaf_part table) → l < leaf_count (leaf_part table) → Within 2147483647 (pair_digit (operations_of table) (record_at (input_part table)) (leaves_in table) u l)
  unfolding pair_digit out_digit elements
  digit_fits u l upper lower =
      let is = (well_formed table).1 passes in
      let code = (ready_passed table passes).code in
      let first = is.input_limits ((leaves_in table).digit u 0) (code.indexes u 0 upper (code.nonempty u upper)) in
      within_le (128 + 1024 + times_limit (degree_in table)) 2147483647 _ (digit_below (degree_in table))
      (within_minus (128 + 1024) (times_limit (degree_in table)) _ _ (within_plus 128 1024 _ _ first (is.weight_limits l lower)) (base_times_weight u upper))
