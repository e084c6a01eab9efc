-- The stage of rules 9 to 13 finds nothing exactly where leaves and words are as document 01 asks; what its readers then know: a
-- complete prefix code, its depth, and that the look-up finds the one leaf.
use mathlib.Core.Path.{◌≡◌, sym, ap, ◌∙◌}
use mathlib.Core.List.{List}
use Prim.Native.Nat.{ℕ, suc, ◌+◌, ◌-◌, ◌<◌, ◌≤◌}
use native.Mathlib.Omega.{arith}
use lib.ListN.{length}
use borrow.Author.Tests.{ltb-true}
use Rattle.layout_rules.specs.Section.{Section}
use Rattle.faults.specs.Check.{none}
use Rattle.faults.proofs.Check.{then_kept, judge_passed}
use Rattle.ring.proofs.Element.{same→≡}
use Rattle.numeration.specs.Code.{Code, Agree, Inputs, Precedes, HasLeaf}
use Rattle.numeration.specs.LeafOf.{leaf_of, depth}
use Rattle.numeration.specs.Prefix.{Separate, OrderedCode, PrefixCode}
use Rattle.numeration.proofs.Leaves.{ordered_separate, leaf_of_unique, leaf_of_ext, size_depth, depth_reached, prefix_code, get_d_inputs}
use Rattle.leaf_rules.specs.Leaf.{leaf_count, word_start, word_length, code_of}
use Rattle.prefix_rules.specs.Check.{leaf_allowed, place_check, word_index_allowed, word_index_check, order_allowed, order_check, cover_check, zero_check, leaf_check}
use Rattle.leaf_rules.specs.Given.{length_given}
use Rattle.leaf_rules.specs.Window.{digits, LookedUp}
use Rattle.leaf_rules.proofs.Leaf.{length_there}
use Rattle.prefix_rules.specs.Broken.{Broken12}
use Rattle.prefix_rules.specs.Formed.{OneLeaf, LeavesFormed}
use Rattle.prefix_rules.proofs.Place.{Placed, leaf_says, leaf_refuted, follows_expected}
use Rattle.prefix_rules.proofs.Broken.{strings_say, order_says, leaves_exact}

-- where no word begins another, a leaf that begins a string is the only one
one_leaf : {A : Type 0} (c : Code A) → Separate c → (w : ℕ → ℕ) → HasLeaf c w → OneLeaf c w
one_leaf c apart w (k, h, b) = (k, h, b, λ l i d. sym (leaf_of_unique c apart w l i d) ∙ leaf_of_unique c apart w k h b)

module _ (leaves : Section) (words : List ℕ) (m : ℕ) (input : 0 < m) where
  pub formed : (leaf_check leaves words m).number ≡ 0 → LeavesFormed leaves words m
  unfolding leaf_check place_check word_index_check order_check cover_check zero_check
  formed h =
      let a = then_kept (place_check leaves words) _ h in
      let b = then_kept (word_index_check words m) _ a.1 in
      let d = then_kept (order_check leaves words) _ b.1 in
      let e = then_kept (cover_check leaves words m) (zero_check leaves) d.1 in
      let placed : (k : ℕ) → k < leaf_count leaves → Placed leaves (length words) k = λ k l. leaf_says leaves (length words) k (judge_passed 9 (λ k. k) (leaf_allowed leaves (length words)) (leaf_count leaves) (omega arith) a.0 k l) in
      let ordered : (k : ℕ) → suc k < leaf_count leaves → Precedes (code_of leaves words) k (suc k) = λ k l. order_says leaves words k (judge_passed 11 (λ k. k + 1) (order_allowed leaves words) (leaf_count leaves - 1) (omega arith) d.0 k (omega arith)) in
      let separate : Separate (code_of leaves words) = ordered_separate (code_of leaves words) ordered in
      record {
        some = λ k l. (placed k l).some;
        short = λ k l. (placed k l).short;
        follows = λ k l. (follows_expected leaves k).1 (placed k l).follows;
        inside = λ k l. (placed k l).inside;
        last = λ k l. (placed k (omega arith)).last (omega arith);
        indexes = λ i l. ltb-true _ _ (judge_passed 10 (λ i. i) (word_index_allowed words m) (length words) (omega arith) b.0 i l);
        ordered = ordered;
        separate = separate;
        strings = λ s long inputs. one_leaf (code_of leaves words) separate (digits s) (strings_say (code_of leaves words) m input (judge_passed 12 _ _ 1 (omega arith) e.0 0 (omega arith)) s inputs);
        zero_first = same→≡ _ _ (judge_passed 13 _ _ 1 (omega arith) e.1 0 (omega arith));
      }

  module _ (is : LeavesFormed leaves words m) where
    pub formed_passes : leaf_check leaves words m ≡ none
    formed_passes =
        (leaves_exact leaves words m input).passed.1 (λ p b. leaf_refuted leaves words p (placed p b.0) b, (λ p b. b.1 (is.indexes p b.0), (λ p b. b.3 (is.ordered b.0 b.2), (unbegun, (λ p b. b.1 is.zero_first, tt)))))
      where
        placed : (k : ℕ) → k < leaf_count leaves → Placed leaves (length words) k
        placed k l =
            record {
              some = is.some k l;
              short = is.short k l;
              follows = (follows_expected leaves k).0 (is.follows k l);
              inside = is.inside k l;
              last = λ h. is.last k (omega arith);
            }

        unbegun : (p : ℕ) → Broken12 leaves words m p → ⊥
        unbegun p (z, (s, long, inputs, without)) = let (k, l, b, only) = is.strings s long inputs in without (k, l, b)

    -- the numeration laws have all that they ask
    pub ordered_code : OrderedCode (code_of leaves words) 8 m
    ordered_code =
        record {
          some_input = input;
          nonempty = is.some;
          short = is.short;
          indexes = λ k i l h. is.indexes (word_start leaves k + i) (omega (arith, is.inside k l));
          ordered = is.ordered;
          strings = λ s long inputs. let (k, l, b, only) = is.strings s long inputs in (k, l, b);
        }

    pub complete_prefix_code : PrefixCode (code_of leaves words) m
    complete_prefix_code = prefix_code (code_of leaves words) 8 m ordered_code

    -- Depth: some leaf has that length and none is longer; it is 1 to 8
    pub depth_is : ((k : ℕ) × (k < leaf_count leaves) × (word_length leaves k ≡ depth (code_of leaves words))) × ((k : ℕ) → k < leaf_count leaves → word_length leaves k ≤ depth (code_of leaves words)) × (1 ≤ depth (code_of leaves words)) × (depth (code_of leaves words) ≤ 8)
    depth_is =
        let (k, l, e) = depth_reached (code_of leaves words) complete_prefix_code.some_leaf in
        ((k, l, e), size_depth (code_of leaves words), omega (arith, is.some k l), omega (arith, is.short k l))

    -- the look-up's answer on a window of input indexes is the leaf of every string that starts so, and its word's length
    pub look_up_is : (window : List ℕ) (r : ℕ) → Inputs m window → LookedUp (code_of leaves words) window r → (w : ℕ → ℕ) → Agree (digits window) w 8
        → (r < leaf_count leaves) × (r ≡ leaf_of (code_of leaves words) w) × (length_given leaves r ≡ (code_of leaves words).size (leaf_of (code_of leaves words) w))
    look_up_is window r inputs found w same =
        let listed : r < leaf_count leaves = found.a_leaf complete_prefix_code.some_leaf in
        let the_leaf : r ≡ leaf_of (code_of leaves words) w = found.the_leaf (record { short = is.short; ordered = is.ordered }) (complete_prefix_code.complete (digits window) (get_d_inputs m window input inputs)) ∙ leaf_of_ext (code_of leaves words) (digits window) w (λ i h. same i (omega (arith, depth_is.3))) in
        (listed, the_leaf, sym (length_there leaves r listed) ∙ ap (word_length leaves) the_leaf)
