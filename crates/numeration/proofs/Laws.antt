-- The laws of conversion, one statement each, in document 01's words. Elements are those of any abelian group with an additive map.
use mathlib.Core.Path.{◌≡◌, sym, ap, ◌∙◌}
use mathlib.Core.Bool.{Bool, true}
use mathlib.Core.Logic.{◌↔◌, ◌⊎◌, inl, inr}
use mathlib.Core.List.{List, map}
use Prim.Native.Nat.{ℕ, suc, ◌+◌, ◌<◌, ◌≤◌}
use native.Mathlib.Omega.{arith}
use lib.ListN.{length, get_or, set}
use lib.Seq.{get_or-set_other, set_comm}
use lib.IntN.{ℤ}
use Rattle.ring.specs.Product.{product}
use Rattle.ring.specs.Padded.{width, padded, padded_matrix}
use Rattle.ring.proofs.Padded.{padded_product}
use Rattle.numeration.specs.Group.{Operations}
use Rattle.numeration.specs.Laws.{AdditiveGroup, Endomorphism, HasParts, convert_row, InGroup, PairsConvert, Elements}
use Rattle.numeration.specs.Elements.{elements}
use Rattle.numeration.proofs.Elements.{elements_group}
use Rattle.numeration.specs.Code.{Code, Begins, Inputs}
use Rattle.numeration.specs.LeafOf.{leaf_of, depth}
use Rattle.numeration.specs.Prefix.{Below, OrderedCode, PrefixCode}
use Rattle.numeration.specs.Conversion.{leaf_into, weight_into, weight_at, convert}
use Rattle.numeration.specs.ReachOf.{reach_of}
use Rattle.numeration.specs.Mirrored.{Mirrors, Mirrored}
use Rattle.numeration.specs.Pairs.{Fits, pair_digit, RowsConvert}
use Rattle.numeration.specs.Held.{Holds}
use Rattle.numeration.specs.PairTests.{pair_string}
use Rattle.numeration.specs.Value.{value, top_down}
use Rattle.numeration.specs.Changes.{Changes}
use Rattle.numeration.specs.Renewal.{Local, row_changes, InputRow, SumFollows}
use Rattle.numeration.proofs.Leaves.{prefix_code, leaf_of_begins, leaf_of_unique}
use Rattle.numeration.proofs.Windows.{convert_ext, convert_set}
use Rattle.numeration.proofs.Ends.{weight_below, weight_above, convert_above, convert_value}
use Rattle.numeration.proofs.Sums.{value_top_down}
use Rattle.numeration.proofs.Pairs.{convert_string, pairs_rows}
use Rattle.numeration.proofs.Mirrored.{leaf_mirrored, convert_mirrored, reach_mirrored}
use Rattle.numeration.proofs.Changes.{change_all_right, row_changes_local}
use Rattle.numeration.proofs.Exchange.{AllBut, change_seen}

-- 1. One leaf. With words of 1 to n input digits, each above the previous one at the first place where they differ and neither
-- beginning the other, and every string of n digits begun by a leaf: no word begins another (`separate` of the record), exactly
-- one leaf begins each string, and leaf 0 is that of zeros.
pub one_leaf : {A : Type 0} (c : Code A) (n m : ℕ) → OrderedCode c n m → PrefixCode c m × ((w : ℕ → ℕ) → Below m w → (leaf_of c w < c.leaves) × Begins c (leaf_of c w) w × ((k : ℕ) → k < c.leaves → Begins c k w → k ≡ leaf_of c w)) × (leaf_of c (λ i. 0) ≡ 0)
one_leaf c n m r =
    let p : PrefixCode c m = prefix_code c n m r in
    (p, (λ w h. let (low, b) = leaf_of_begins c w (p.complete w h) in (low, b, λ k hk d. sym (leaf_of_unique c p.separate w k hk d))), leaf_of_unique c p.separate (λ i. 0) 0 p.some_leaf p.zeros)

module _ {A : Type 0} (o : Operations A) (Element : A → Type 0) (g : AdditiveGroup o Element) (input : ℕ → A) (c : Code A) (m : ℕ) (p : PrefixCode c m) (i : InGroup o Element input c) where
  -- 2. Ends. The weight q(−1) below place 0 is zero; from place n + h − 1 up the weights are zero; digits from n + h on are zero.
  pub ends : (row : List ℕ) → (weight_into c row 0 ≡ o.none) × ((j : ℕ) → length row + depth c ≤ suc j → weight_at c row j ≡ o.none) × ((j : ℕ) → length row + depth c ≤ j → convert o input c row j ≡ o.none)
  unfolding weight_at
  ends row =
      (weight_below c m p row ∙ i.weight_zero, (λ j h. weight_above c m p row (suc j) h ∙ i.weight_zero), convert_above o Element g input c m p i row)

  -- 3. Value. The n + h converted digits have the value of the n input digits; and base times total plus digit, from the top
  -- place down, is the sum of the digits, each times the base to the power of its place.
  pub same_value : ((row : List ℕ) → value o (convert_row o input c row) ≡ value o (map input row)) × ((xs : List A) → Elements o Element xs → top_down o xs ≡ value o xs)
  same_value = (convert_value o Element g input c m p i, λ xs h. sym (value_top_down o Element g xs h))

module _ {A : Type 0} (o : Operations A) (input : ℕ → A) (c : Code A) where
  -- 4. Locality. z(j) depends on the input places j − h to j alone; so an input digit changed at p changes z at p to p + h at most.
  pub locality : ((r s : List ℕ) (j : ℕ) → ((i : ℕ) → i ≤ j → j ≤ i + depth c → get_or r i 0 ≡ get_or s i 0) → convert o input c r j ≡ convert o input c s j) × ((row : List ℕ) (p d j : ℕ) → (p ≤ j → j ≤ p + depth c → ⊥) → convert o input c (set row p d) j ≡ convert o input c row j)
  locality = (convert_ext o input c, convert_set o input c)

  -- 5. Demand 2. Every two leaves that fit give a digit in the alphabet exactly when every finite row of input digits is
  -- converted into alphabet digits at every place.
  pub demand_2 : (m : ℕ) → PrefixCode c m → (Alphabet : A → Type 0) → PairsConvert o input c Alphabet ↔ RowsConvert o input c Alphabet m
  demand_2 m p Alphabet = pairs_rows o input c m p Alphabet

  -- In every row that holds the string of a fitting pair, conversion gives the pair's digit at its top place.
  pub pair_shown : (m : ℕ) → PrefixCode c m → (u l : ℕ) → u < c.leaves → l < c.leaves → Fits c u l → (row : List ℕ) (j : ℕ) → Holds row j (pair_string c u l) → convert o input c row j ≡ pair_digit o input c u l
  pair_shown m p u l hu hl fit row j holds = convert_string o input c m p u l hu hl fit row j holds

-- 6. Lists. For any conversion with locality and alphabet digits: after any list of changes of single digits, each renewing only
-- places p to p + h of the sum, the rows are those with the taken digits stored in turn, the sum is their whole digit row, and
-- what stands behind it is as it was.
pub list_of_changes : {Rows Change Digit : Type 0} (k : Changes Rows Change Digit) (Valid : Rows → Type 0) → Local k Valid → (es : List Change) (r : Rows) (rest : List Digit) → Valid r → SumFollows k es r rest
list_of_changes k Valid local es r rest v = change_all_right k Valid local es r rest v

-- So for changes of the digits of a row of n input digits, where every fitting pair gives an alphabet digit.
pub list_of_digit_changes : {A : Type 0} (o : Operations A) (input : ℕ → A) (c : Code A) (alphabet : A → Bool) (n m : ℕ) → PrefixCode c m → PairsConvert o input c (λ x. alphabet x ≡ true) → (es : List (ℕ × ℕ)) (row : List ℕ) (rest : List A) → InputRow n m row → SumFollows (row_changes o input c alphabet n m) es row rest
list_of_digit_changes o input c alphabet n m p pairs =
    change_all_right (row_changes o input c alphabet n m) (InputRow n m) (row_changes_local o input c alphabet n m ((pairs_rows o input c m p (λ x. alphabet x ≡ true)).0 pairs))

-- 7. Instance. Elements of degree up to four, as four parts, with multiplication by the base β are such a group, the map being the
-- product β · x.
pub elements_of_any_degree : (r β : List ℤ) → 1 ≤ length r → length r ≤ width → length β ≡ length r → AdditiveGroup (elements (length r) (padded_matrix r β)) (HasParts width) × ((x : List ℤ) → HasParts (length r) x → (elements (length r) (padded_matrix r β)).base (padded x) ≡ padded (product r β x))
unfolding elements
elements_of_any_degree r β positive fits h =
    (elements_group (length r) (padded_matrix r β), λ x k. padded_product r β x positive fits h k)

-- 8. Mirrored tables. With each input digit once, and every leaf mirrored by a map f that keeps sums, differences and the base, as
-- negation does: of a row that has f of another row's digit at every place, the leaf looked up at each place mirrors the other row's, each
-- digit that comes out is f of the other's, and the reach is the same.
pub mirrored_rows : {A : Type 0} (o : Operations A) (Element : A → Type 0) → AdditiveGroup o Element → (f : A → A) → Endomorphism o Element f → (input : ℕ → A) (c : Code A) (m : ℕ) → PrefixCode c m → InGroup o Element input c
    → ((i j : ℕ) → i < m → j < m → input i ≡ input j → i ≡ j) → Mirrored f input c → (row other : List ℕ) → Inputs m row → Inputs m other → ((j : ℕ) → input (get_or other j 0) ≡ f (input (get_or row j 0)))
    → ((j : ℕ) → Mirrors f input c (leaf_into c row j) (leaf_into c other j)) × ((j : ℕ) → convert o input c other j ≡ f (convert o input c row j)) × ((from count : ℕ) → reach_of c other from count ≡ reach_of c row from count)
mirrored_rows o Element g f e input c m p i once is row other all also at = (
  leaf_mirrored f input c m p once is row other all also at,
  convert_mirrored f input c m p once is row other all also at o Element g i e,
  reach_mirrored f input c m p once is row other all also at,
)

-- 9. Two changes. Where p and q are at least h apart, a digit stored at p alters z(j) exactly if it does so with another digit stored at q. Both
-- reach one place j at the most, the upper one's own: the lower one alters what j gets from below, q(j−1), and the upper one w(j) − β·q(j).
pub two_changes : {A : Type 0} (o : Operations A) (Element : A → Type 0) → AdditiveGroup o Element → (input : ℕ → A) (c : Code A) → InGroup o Element input c → 0 < depth c
    → (row : List ℕ) (p d q e : ℕ) → (p + depth c ≤ q) ⊎ (q + depth c ≤ p) → (j : ℕ)
    → (convert o input c row j ≡ convert o input c (set row p d) j) ↔ (convert o input c (set row q e) j ≡ convert o input c (set (set row q e) p d) j)
two_changes o Element g input c i some row p d q e apart j = (
  change_seen o Element g input c i some row one other both p q (but row p d) (but row q e) both_one (but other p d) apart j,
  change_seen o Element g input c i some other both row one p q (but other p d) (λ k h. sym (but row q e k h)) (λ k h. sym (both_one k h)) (but row p d) apart j,
)
  where
    one : List ℕ
    one = set row p d

    other : List ℕ
    other = set row q e

    both : List ℕ
    both = set other p d

    but : (r : List ℕ) (k x : ℕ) → AllBut k (set r k x) r
    but r k x n h = get_or-set_other r k n x 0 h

    differ : (p + depth c ≤ q) ⊎ (q + depth c ≤ p) → q ≡ p → ⊥
    differ (inl a) s = omega arith
    differ (inr a) s = omega arith

    both_one : AllBut q both one
    both_one k h = ap (λ (r : List ℕ). get_or r k 0) (set_comm row q p e d (differ apart)) ∙ but one q e k h
