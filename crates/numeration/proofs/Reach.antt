-- The reach: some word looked up has it and none is longer; it is 1 to h; which digits it depends on, and which digits depend on it.
use mathlib.Core.Path.{◌≡◌, refl, sym, ap, ◌∙◌}
use mathlib.Core.List.{List}
use Prim.Native.Nat.{ℕ, zero, suc, ◌+◌, ◌<◌, ◌≤◌, max}
use native.Mathlib.Decide.{dec_lt, dec_le}
use native.Mathlib.Numerals.{add-one}
use native.Mathlib.Omega.{arith}
use lib.ListN.{get_or}
use Rattle.numeration.specs.Group.{Operations}
use Rattle.numeration.specs.Code.{Code, Inputs}
use Rattle.numeration.specs.LeafOf.{depth}
use Rattle.numeration.specs.Prefix.{PrefixCode}
use Rattle.numeration.specs.Conversion.{window, out_digit, leaf_into, weight_into, weight_at, convert}
use Rattle.numeration.specs.Reach.{length_at, Reach}
use Rattle.numeration.specs.ReachOf.{length_below, reach_of}
use Rattle.numeration.proofs.Leaves.{leaf_of_begins, leaf_of_unique, size_depth}
use Rattle.numeration.proofs.Windows.{window_by_place, window_below, leaf_into_ext}
use Rattle.numeration.proofs.Ends.{leaf_zeros}

module _ {A : Type 0} (c : Code A) where
  -- place by place, as a loop computes it: before the first place p the length of the word looked up below it, but for the one below place 0
  pub reach_none : (row : List ℕ) (p r : ℕ) → (p ≡ 0 → r ≡ 0) → (0 < p → r ≡ c.size (leaf_into c row p)) → r ≡ reach_of c row p 0
  unfolding reach_of length_below length_at
  reach_none row zero r none some = none refl
  reach_none row (suc p) r none some = some (omega arith)

  pub reach_next : (row : List ℕ) (p n : ℕ) → reach_of c row p (n + 1) ≡ max (reach_of c row p n) (c.size (leaf_into c row (p + n + 1)))
  unfolding reach_of length_at
  reach_next row p n = rw (add-one n, add-one (p + n))

  module _ (row : List ℕ) (p : ℕ) where
    below_reach : (j : ℕ) → p ≡ suc j → length_at c row j ≡ reach_of c row p 0
    unfolding reach_of length_below
    below_reach j e = sym (ap (length_below c row) e)

    no_longer : (count j : ℕ) → p ≤ suc j → j < p + count → length_at c row j ≤ reach_of c row p count
    unfolding reach_of
    no_longer zero j low high = omega (arith, below_reach j (omega arith))
    no_longer (suc n) j low high =
        elim (dec_lt j (p + n)) [
          | yes h ↦ omega (arith, no_longer n j low h)
          | no h ↦ let at : j ≡ p + n = omega arith in omega (arith, ap (length_at c row) at)
        ]

    nothing_reached : (n : ℕ) → p + n ≡ 0 → reach_of c row p n ≡ 0
    unfolding reach_of length_below
    nothing_reached n e = let low : p ≡ 0 = omega arith in let none : n ≡ 0 = omega arith in λ i. reach_of c row (low i) (none i)

    some_reached : (count : ℕ) → 0 < p + count → (j : ℕ) × (p ≤ suc j) × (j < p + count) × (length_at c row j ≡ reach_of c row p count)
    unfolding reach_of
    some_reached zero h = below p refl
      where
        below : (q : ℕ) → p ≡ q → (j : ℕ) × (p ≤ suc j) × (j < p + 0) × (length_at c row j ≡ reach_of c row p 0)
        below zero e = absurd (omega arith)
        below (suc j) e = (j, omega arith, omega arith, below_reach j e)
    some_reached (suc n) h =
        elim (dec_le (reach_of c row p n) (length_at c row (p + n))) [
          | yes l ↦ (p + n, omega arith, omega arith, omega arith)
          | no l ↦ elim (dec_lt 0 (p + n)) [
            | yes some ↦ let (j, low, high, e) = some_reached n some in (j, low, omega arith, omega arith)
            | no none ↦ absurd (omega (arith, nothing_reached n (omega arith)))
          ]
        ]

    -- Some word looked up at the named places is as long as the reach, and none is longer.
    pub reach_is : (count : ℕ) → 0 < count → Reach c row p count (reach_of c row p count)
    reach_is count some = record { reached = some_reached count (omega arith); none_longer = no_longer count }

    -- That names one number only.
    pub one_reach : (count r s : ℕ) → Reach c row p count r → Reach c row p count s → r ≡ s
    one_reach count r s is also =
        let (j, low, high, e) = is.reached in
        let (k, lowest, highest, d) = also.reached in
        omega (arith, is.none_longer k lowest highest, also.none_longer j low high)

  -- the word looked up at place j reads its own place and the h − 1 places below it
  length_ext : (r s : List ℕ) (j : ℕ) → ((i : ℕ) → i ≤ j → j < i + depth c → get_or r i 0 ≡ get_or s i 0) → length_at c r j ≡ length_at c s j
  unfolding length_at
  length_ext r s j same = ap c.size (leaf_into_ext c r s (suc j) (λ i low high. same i (omega arith) (omega arith)))

  -- rows whose words looked up at the named places have the same lengths have the same reach
  pub reach_lengths : (r s : List ℕ) (p count : ℕ) → ((j : ℕ) → p ≤ suc j → j < p + count → length_at c r j ≡ length_at c s j) → reach_of c r p count ≡ reach_of c s p count
  unfolding reach_of
  reach_lengths r s p zero same = below p refl
    where
      below : (q : ℕ) → p ≡ q → reach_of c r p 0 ≡ reach_of c s p 0
      below zero e = nothing_reached r p 0 (omega arith) ∙ sym (nothing_reached s p 0 (omega arith))
      below (suc j) e = sym (below_reach r p j e) ∙ same j (omega arith) (omega arith) ∙ below_reach s p j e
  reach_lengths r s p (suc n) same =
      (λ i. max (reach_lengths r s p n (λ j low high. same j low (omega arith)) i) (same (p + n) (omega arith) (omega arith) i))

  -- so the reach of rows that agree where the digits depend on them is the same
  pub reach_ext : (r s : List ℕ) (p count : ℕ) → ((i : ℕ) → p ≤ i + depth c → i < p + count → get_or r i 0 ≡ get_or s i 0) → reach_of c r p count ≡ reach_of c s p count
  reach_ext r s p count same = reach_lengths r s p count (λ j low high. length_ext r s j (λ i l h. same i (omega arith) (omega arith)))

  module _ (m : ℕ) (p : PrefixCode c m) where
    -- a word that is looked up has 1 to h digits
    length_range : (row : List ℕ) → Inputs m row → (j : ℕ) → (1 ≤ length_at c row j) × (length_at c row j ≤ depth c)
    unfolding length_at
    length_range row all j =
        let (leaf, _) = leaf_of_begins c (window row (suc j)) (p.complete _ (window_below m row p.some_input all (suc j))) in
        (p.nonempty _ leaf, size_depth c _ leaf)

    -- The reach is 1 to h.
    pub reach_range : (row : List ℕ) → Inputs m row → (from count : ℕ) → 0 < count → (1 ≤ reach_of c row from count) × (reach_of c row from count ≤ depth c)
    reach_range row all from count some =
        let (j, low, high, e) = some_reached row from count (omega arith) in
        let (least, most) = length_range row all j in
        (omega arith, omega arith)

    -- A row of zeros has the length of leaf 0's word.
    pub reach_zeros : (row : List ℕ) → ((i : ℕ) → get_or row i 0 ≡ 0) → (from count : ℕ) → 0 < count → reach_of c row from count ≡ c.size 0
    unfolding length_at
    reach_zeros row zeros from count some =
        let (j, low, high, e) = some_reached row from count (omega arith) in
        sym e ∙ ap c.size (leaf_zeros c m p row (suc j) (λ k _. window_by_place (λ d e. d ≡ 0) row row (suc j) k (λ _. refl) (λ i e. zeros i)))

    -- rows of which the second agrees with the first as far as the word reaches that is looked up in the first
    leaf_near : (r s : List ℕ) → Inputs m r → (j : ℕ) → ((i : ℕ) → i < j → j ≤ i + c.size (leaf_into c r j) → get_or r i 0 ≡ get_or s i 0) → leaf_into c r j ≡ leaf_into c s j
    leaf_near r s all j same =
        let (leaf, begins) = leaf_of_begins c (window r j) (p.complete _ (window_below m r p.some_input all j)) in
        sym (leaf_of_unique c p.separate (window s j) _ leaf (λ k h. begins k h ∙ window_by_place (λ d e. d ≡ e) r s j k (λ low. refl) (λ i e. same i (omega arith) (omega arith))))

    -- A word has h digits only where every other hth digit makes a word too, so its length is told by the h − 1 digits that it begins with.
    length_near : (r s : List ℕ) → Inputs m r → Inputs m s → (j : ℕ) → ((i : ℕ) → i ≤ j → suc j < i + depth c → get_or r i 0 ≡ get_or s i 0) → length_at c r j ≡ length_at c s j
    unfolding length_at
    length_near r s all also j same =
        elim (dec_lt (length_at c r j) (depth c)) [
          | yes short ↦ ap c.size (leaf_near r s all (suc j) (λ i h l. same i (omega arith) (omega arith)))
          | no long ↦ elim (dec_lt (length_at c s j) (depth c)) [
            | yes short ↦ sym (ap c.size (leaf_near s r also (suc j) (λ i h l. sym (same i (omega arith) (omega arith)))))
            | no most ↦ omega (arith, (length_range r all j).1, (length_range s also j).1)
          ]
        ]

    -- So the reach of places from p on doesn't depend on a digit h or more places below p.
    pub reach_near : (r s : List ℕ) → Inputs m r → Inputs m s → (from count : ℕ) → ((i : ℕ) → from < i + depth c → i < from + count → get_or r i 0 ≡ get_or s i 0) → reach_of c r from count ≡ reach_of c s from count
    reach_near r s all also from count same = reach_lengths r s from count (λ j low high. length_near r s all also j (λ i h l. same i (omega arith) (omega arith)))

    module _ (o : Operations A) (input : ℕ → A) (r s : List ℕ) (all : Inputs m r) (j : ℕ) where
      convert_same : get_or r j 0 ≡ get_or s j 0 → leaf_into c r j ≡ leaf_into c s j → leaf_into c r (suc j) ≡ leaf_into c s (suc j) → convert o input c r j ≡ convert o input c s j
      unfolding convert weight_at weight_into
      convert_same digit lower upper = λ i. out_digit o (input (digit i)) (c.weight (lower i)) (c.weight (upper i))

      -- z(j) depends on the input digits from j − r on alone, r being the longer of the two words looked up for it.
      pub convert_near : ((i : ℕ) → i ≤ j → j ≤ i + max (c.size (leaf_into c r j)) (length_at c r j) → get_or r i 0 ≡ get_or s i 0) → convert o input c r j ≡ convert o input c s j
      unfolding length_at
      convert_near same =
          convert_same (same j (omega arith) (omega arith)) (leaf_near r s all j (λ i h l. same i (omega arith) (omega arith))) (leaf_near r s all (suc j) (λ i h l. same i (omega arith) (omega arith)))

      -- So digits further below than the reach of some places have no part in any digit at these places.
      pub convert_within : (from count : ℕ) → from ≤ j → j < from + count → ((i : ℕ) → i ≤ j → j ≤ i + reach_of c r from count → get_or r i 0 ≡ get_or s i 0) → convert o input c r j ≡ convert o input c s j
      unfolding length_at
      convert_within from count low high same =
          convert_same (same j (omega arith) (omega arith)) (lower j refl) (leaf_near r s all (suc j) (λ i h l. same i (omega arith) (omega (arith, no_longer r from count j (omega arith) high))))
        where
          lower : (k : ℕ) → j ≡ k → leaf_into c r j ≡ leaf_into c s j
          lower zero e = leaf_near r s all j (λ i h l. absurd (omega arith))
          lower (suc k) e =
              let longest : c.size (leaf_into c r j) ≤ reach_of c r from count = omega (arith, ap (λ (n : ℕ). c.size (leaf_into c r n)) e, no_longer r from count k (omega arith) (omega arith)) in
              leaf_near r s all j (λ i h l. same i (omega arith) (omega arith))
