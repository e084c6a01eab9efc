-- Laws of windows, the leaves that begin them, and the digits that come out, for the functions that compute them.
use mathlib.Core.Path.{◌≡◌, refl, sym, ap, ◌∙◌}
use mathlib.Core.Bool.{true, false}
use mathlib.Core.List.{List}
use Prim.Native.Nat.{ℕ, suc, ◌+◌, ◌-◌, ◌<◌, ◌≤◌}
use native.Mathlib.Nat.{zero-add}
use native.Mathlib.Numerals.{add-one}
use native.Mathlib.Omega.{arith}
use lib.ListN.{get_or}
use lib.IntN.{ℤ}
use borrow.Author.Tests.{lt-ltb, le-ltb}
use Rattle.layout_rules.specs.Section.{Section}
use Rattle.lists.specs.Span.{span}
use Rattle.lists.proofs.Span.{get_d_span}
use Rattle.ring.specs.declared.Operation.{Operation}
use Rattle.ring.specs.Operation.{combine}
use Rattle.digit_rules.specs.Record.{record_at, element_count}
use Rattle.digit_rules.specs.Digits.{pair_index}
use Rattle.digit_rules.specs.Formed.{AllListed}
use Rattle.digit_rules.proofs.Index.{index_high, index_is}
use Rattle.digit_rules.proofs.Formed.{pair_index_is}
use Rattle.numeration.specs.Group.{Operations}
use Rattle.numeration.specs.Code.{Code, Begins, HasLeaf}
use Rattle.numeration.specs.Conversion.{window, out_digit, leaf_into, weight_into, weight_at, convert}
use Rattle.numeration.proofs.Leaves.{leaf_of_ext, leaf_of_unique, ordered_separate, depth_reached}
use Rattle.numeration.proofs.Windows.{window_by_place}
use Rattle.leaf_rules.specs.Leaf.{leaf_count, word_length, weight_of, code_of}
use Rattle.leaf_rules.specs.Given.{length_given, weight_given}
use Rattle.leaf_rules.specs.Window.{digits, LookedUp}
use Rattle.leaf_rules.proofs.Leaf.{length_there, weight_there}
use Rattle.table_rules.specs.Pairs.{in_alphabet}
use Rattle.place_rules.specs.Place.{input_at, alphabet_index, digit_at, index_at, digit_allowed}
use Rattle.place_rules.specs.Helpers.{Begun, IsLeaf}

-- an input index is at most the count of input digits
pub pair_index_high : (op : Operation) (alphabet inputs : Section) (i j : ℕ) → pair_index op alphabet inputs i j ≤ element_count inputs
unfolding pair_index
pair_index_high op alphabet inputs i j = index_high inputs (element_count inputs) _

-- w(j) is what the operation makes of the two digits at place j, where both are alphabet indexes and all that it makes is listed
pub input_is : (op : Operation) (alphabet inputs : Section) → AllListed op alphabet inputs → (first second : List ℕ) (j : ℕ) → get_or first j 0 < element_count alphabet → get_or second j 0 < element_count alphabet
    → record_at inputs (input_at op alphabet inputs first second j) ≡ combine op (record_at alphabet (get_or first j 0)) (record_at alphabet (get_or second j 0))
input_is op alphabet inputs is first second j low also = pair_index_is op alphabet inputs is (get_or first j 0) (get_or second j 0) low also

-- digit k of the window below place j
pub window_outside : (row : List ℕ) (j k : ℕ) → j ≤ k → 0 ≡ window row j k
window_outside row j k h = window_by_place (λ d e. 0 ≡ d) row row j k (λ _. refl) (λ i e. absurd (none i e))
  where
    none : (i : ℕ) → i + suc k ≡ j → ⊥
    none i e = omega arith

pub window_inside : (row : List ℕ) (j k : ℕ) → k < j → get_or row (j - k - 1) 0 ≡ window row j k
window_inside row j k h =
    window_by_place (λ d e. get_or row (j - k - 1) 0 ≡ d) row row j k (λ l. absurd (none l))
    (λ i e. ap (λ (n : ℕ). get_or row n 0) (place i e))
  where
    none : j ≤ k → ⊥
    none l = omega arith

    place : (i : ℕ) → i + suc k ≡ j → j - k - 1 ≡ i
    place i e = omega arith

-- the leaf that the look-up finds in the first eight digits, and its length
pub leaf_found : (leaves : Section) (words row : List ℕ) → Begun leaves words row → (j r size : ℕ) → LookedUp (code_of leaves words) (span (window row j) 0 8) r → size ≡ length_given leaves r → IsLeaf leaves words row j r size
leaf_found leaves words row is j r size found length =
    let (k, h, b) = is.begun j in
    let leaf : HasLeaf c (digits eight) = (k, h, λ i l. b i l ∙ sym (same i (omega (arith, is.sorted.short k h)))) in
    let (deep, d, e) = depth_reached c (omega arith) in
    let listed = found.a_leaf (omega arith) in
    record {
      is_leaf = found.the_leaf is.sorted leaf ∙ leaf_of_ext c (digits eight) (window row j) (λ i l. same i (omega (arith, is.sorted.short deep d)));
      is_size = length ∙ sym (length_there leaves r listed);
      listed = listed;
    }
  where
    c : Code (List ℤ)
    c = code_of leaves words

    eight : List ℕ
    eight = span (window row j) 0 8

    same : (i : ℕ) → i < 8 → digits eight i ≡ window row j i
    same i l = get_d_span (window row j) 0 8 i 0 l ∙ ap (window row j) (zero-add i)

module _ (o : Operations (List ℤ)) (alphabet inputs leaves : Section) (words row : List ℕ) where
  -- the digit at place j, from its input digit, the weight from below and its own
  pub index_from : (j input index : ℕ) (below own : List ℤ) → input ≡ get_or row j 0 → below ≡ weight_into (code_of leaves words) row j → own ≡ weight_into (code_of leaves words) row (j + 1)
      → index ≡ alphabet_index alphabet (out_digit o (record_at inputs input) below own) → index ≡ index_at o alphabet inputs leaves words row j
  unfolding index_at convert weight_at
  index_from j input index below own read b w e =
      e ∙ (λ i. alphabet_index alphabet (out_digit o (record_at inputs (read i)) (b i) ((w ∙ ap (weight_into (code_of leaves words) row) (add-one j)) i)))

  -- an alphabet index of z(j) is that of z(j)
  pub index_names : (j : ℕ) → index_at o alphabet inputs leaves words row j < element_count alphabet → record_at alphabet (index_at o alphabet inputs leaves words row j) ≡ digit_at o alphabet inputs leaves words row j
  unfolding index_at
  index_names j h = index_is alphabet (element_count alphabet) (digit_at o alphabet inputs leaves words row j) h

  pub index_in : (j : ℕ) → index_at o alphabet inputs leaves words row j < element_count alphabet → digit_allowed o alphabet inputs leaves words row j ≡ true
  unfolding index_at in_alphabet
  index_in j h = lt-ltb _ _ h

  pub index_out : (j : ℕ) → element_count alphabet ≤ index_at o alphabet inputs leaves words row j → digit_allowed o alphabet inputs leaves words row j ≡ false
  unfolding index_at in_alphabet
  index_out j h = le-ltb _ _ h

-- the first digit of the window below the next place
pub window_first : (row : List ℕ) (j : ℕ) → get_or row j 0 ≡ window row (j + 1) 0
unfolding window
window_first row j = rw (add-one j, window)

-- a leaf that begins the window is the one
pub leaf_begun : (leaves : Section) (words row : List ℕ) → Begun leaves words row → (j k size : ℕ) → k < leaf_count leaves → Begins (code_of leaves words) k (window row j) → size ≡ word_length leaves k → IsLeaf leaves words row j k size
leaf_begun leaves words row is j k size h b length =
    let c = code_of leaves words in
    record { is_leaf = sym (leaf_of_unique c (ordered_separate c is.sorted.ordered) (window row j) k h b); is_size = length; listed = h }

-- it gives the place its weight from below, and its length counts for the reach
module _ (leaves : Section) (words row : List ℕ) (j k size : ℕ) (is : IsLeaf leaves words row j k size) where
  pub leaf_weight : weight_given leaves k ≡ weight_into (code_of leaves words) row j
  unfolding weight_into
  leaf_weight = sym (weight_there leaves k is.listed) ∙ ap (weight_of leaves) is.is_leaf

  pub leaf_size : size ≡ (code_of leaves words).size (leaf_into (code_of leaves words) row j)
  leaf_size = is.is_size ∙ ap (word_length leaves) is.is_leaf
