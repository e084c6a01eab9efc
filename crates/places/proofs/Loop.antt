-- The loop of conversion: k digits are written, the longest word looked up for them is known, the next gets its weight from below.
use mathlib.Core.Path.{◌≡◌, refl, sym, ap, ◌∙◌}
use mathlib.Core.Bool.{Bool}
use mathlib.Core.List.{List}
use Prim.Native.Nat.{ℕ, ◌+◌, ◌-◌, ◌<◌, ◌≤◌, max}
use native.Mathlib.Nat.{add-zero, add_assoc, sub-zero}
use native.Mathlib.Omega.{arith}
use lib.ListN.{length, set, length-set}
use lib.IntN.{ℤ}
use Rattle.layout_rules.specs.Section.{Section}
use Rattle.lists.specs.Span.{span}
use Rattle.lists.specs.Scan.{first_failing}
use Rattle.lists.specs.Overwrite.{overwrite}
use Rattle.lists.proofs.Scan.{scan_on, scan_here, scan_out}
use Rattle.lists.proofs.Overwrite.{overwrite_none}
use Rattle.digit_rules.specs.Record.{element_count}
use Rattle.numeration.specs.Group.{Operations}
use Rattle.numeration.specs.Conversion.{leaf_into, weight_into}
use Rattle.numeration.specs.ReachOf.{reach_of}
use Rattle.numeration.proofs.Reach.{reach_next}
use Rattle.leaf_rules.specs.Leaf.{leaf_count, code_of}
use Rattle.leaf_rules.specs.Given.{weight_given}
use Rattle.place_rules.specs.Place.{index_at, digit_allowed}
use Rattle.lists.proofs.Entries.{first_written}
use Rattle.place_rules.proofs.Place.{index_in, index_out}

module _ (o : Operations (List ℤ)) (alphabet inputs leaves : Section) (words row : List ℕ) (from count : ℕ) (entry : List ℕ) where
  abbrev pub allowed : ℕ → Bool
  allowed k = digit_allowed o alphabet inputs leaves words row (from + k)

  abbrev pub index : ℕ → ℕ
  index k = index_at o alphabet inputs leaves words row (from + k)

  pub record Converted (out : List ℕ) (below reach k : ℕ) : Type 0 where
    pub passed : first_failing allowed k (count - k) ≡ first_failing allowed 0 count
    pub written : out ≡ overwrite entry 0 (span index 0 k)
    pub long : length out ≡ length entry
    pub weight : weight_given leaves below ≡ weight_into (code_of leaves words) row (from + k)
    pub listed : below < leaf_count leaves
    pub longest : reach ≡ reach_of (code_of leaves words) row from k

  -- what the call gives
  abbrev pub Gives : List ℕ → ℕ → ℕ → Type 0
  Gives out reach r = (r ≡ first_failing allowed 0 count) × ((reach ≡ reach_of (code_of leaves words) row from r) × (out ≡ overwrite entry 0 (span index 0 r)))

  pub converted_start : (below reach : ℕ) → weight_given leaves below ≡ weight_into (code_of leaves words) row from → below < leaf_count leaves → reach ≡ reach_of (code_of leaves words) row from 0 → Converted entry below reach 0
  unfolding span
  converted_start below reach w s l =
      record {
        passed = ap (first_failing allowed 0) (sub-zero count);
        written = sym (overwrite_none entry 0);
        long = refl;
        weight = w ∙ ap (weight_into (code_of leaves words) row) (sym (add-zero from));
        listed = s;
        longest = l;
      }

  module _ (out : List ℕ) (below reach k : ℕ) (is : Converted out below reach k) where
    pub converted_next : (own v size next : ℕ) → k < count → count ≤ length entry → v ≡ index k → v < element_count alphabet → weight_given leaves own ≡ weight_into (code_of leaves words) row (from + k + 1) → own < leaf_count leaves
        → size ≡ (code_of leaves words).size (leaf_into (code_of leaves words) row (from + k + 1)) → next ≡ max reach size → Converted (set out k v) own next (k + 1)
    converted_next own v size next h room e l w s looked longer =
        record {
          passed = sym (scan_on allowed k count h (index_in o alphabet inputs leaves words row (from + k) (omega arith))) ∙ is.passed;
          written = first_written entry out index k v (omega arith) is.written e;
          long = length-set out k v ∙ is.long;
          weight = w ∙ ap (weight_into (code_of leaves words) row) (add_assoc from k 1);
          listed = s;
          longest = longer ∙ (λ i. max (is.longest i) (looked i)) ∙ sym (reach_next (code_of leaves words) row from k);
        }

    pub converted_here : (v : ℕ) → k < count → v ≡ index k → element_count alphabet ≤ v → Gives out reach k
    converted_here v h e l =
        (sym (scan_here allowed k count h (index_out o alphabet inputs leaves words row (from + k) (omega arith))) ∙ is.passed, (is.longest, is.written))

    pub converted_end : count ≤ k → Gives out reach k
    converted_end h = (sym (scan_out allowed k count h) ∙ is.passed, (is.longest, is.written))
