-- What follows from the statement about a result that was given: its row may be lent in its turn, and the rest of the buffer is its own.
use mathlib.Core.Path.{◌≡◌, sym, subst}
use mathlib.Core.List.{List}
use Prim.Native.Nat.{ℕ, ◌<◌}
use native.Mathlib.Omega.{arith}
use lib.ListN.{length, get_or, take, drop, length-take}
use lib.Seq.{get_or-take}
use Rattle.lists.proofs.Entries.{rest_same}
use Rattle.ring.specs.declared.Operation.{Operation}
use Rattle.row_rules.specs.Fit.{Indexes}
use Rattle.adder_rules.specs.Sum.{digit_count, place_count}
use Rattle.adder_rules.specs.Add.{result_in}
use Rattle.adder_rules.specs.Combined.{Combined}

module _ (op : Operation) (file first second buffer : List ℕ) (is : Combined op file first second buffer) where
  -- the row passes 21 and 22
  pub result_indexes : Indexes (digit_count file) (take (place_count file first) (result_in op file first second buffer))
  result_indexes k h =
      let low : k < place_count file first = omega (arith, length-take (place_count file first) (result_in op file first second buffer)) in
      subst (λ (d : ℕ). d < digit_count file) (sym (get_or-take (place_count file first) (result_in op file first second buffer) k 0 low)) (is.within_alphabet k low)

  -- the bytes behind the sum row, as one part
  pub rest_kept : drop (place_count file first) (result_in op file first second buffer) ≡ drop (place_count file first) buffer
  rest_kept = rest_same (result_in op file first second buffer) buffer (place_count file first) is.long is.further
