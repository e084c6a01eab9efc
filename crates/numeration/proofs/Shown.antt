-- The string of a fitting pair in a row: its look-ups find the pair, and no shorter string of input digits sees to that.
use mathlib.Core.Path.{◌≡◌, refl, subst, ◌∙◌}
use mathlib.Core.List.{List, [], ◌∷◌}
use Prim.Native.Nat.{ℕ, zero, suc, ◌+◌, ◌-◌, ◌<◌, ◌≤◌, pred}
use native.Mathlib.Omega.{arith}
use native.Mathlib.Decide.{dec_lt}
use native.Mathlib.Nat.{not-suc-le-zero}
use lib.ListN.{length, get_or, get_or-eq_default}
use Rattle.lists.specs.Span.{span}
use Rattle.lists.proofs.Span.{length_span, get_d_span}
use Rattle.numeration.specs.Code.{Code, Begins, Inputs}
use Rattle.numeration.specs.Prefix.{PrefixCode}
use Rattle.numeration.specs.Conversion.{window}
use Rattle.numeration.specs.Pairs.{Fits}
use Rattle.numeration.specs.Held.{Holds, Finds}
use Rattle.numeration.specs.PairTests.{pair_bottom, pair_string}
use Rattle.numeration.proofs.Leaves.{leaf_of_unique}
use Rattle.numeration.proofs.Pairs.{length_pair_string, holds_upper, holds_lower, row_read, into_begins}

-- past the end of a list stands the default, before it an entry whatever the default is
other_default : (s : List ℕ) (k a b : ℕ) → k < length s → get_or s k a ≡ get_or s k b
other_default [] k a b h = absurd (not-suc-le-zero h)
other_default (d ∷ s) zero a b h = refl
other_default (d ∷ s) (suc k) a b h = other_default s k a b (omega arith)

each_entry : (P : ℕ → Type 0) (s : List ℕ) (a : ℕ) → P a → ((k : ℕ) → k < length s → P (get_or s k 0)) → (k : ℕ) → P (get_or s k a)
each_entry P s a outside inside k =
    elim (dec_lt k (length s)) [
      | yes h ↦ rw (other_default s k a 0 h) (inside k h)
      | no h ↦ rw (get_or-eq_default s a {n = k} (omega arith)) outside
    ]

-- the lowest digit of a window, read from one place higher
window_next : (row : List ℕ) (n : ℕ) → 0 < n → window row n (pred n) ≡ window row (suc n) n
unfolding window
window_next row zero h = absurd (not-suc-le-zero h)
window_next row (suc n) h = refl

module _ {A : Type 0} (c : Code A) (m : ℕ) (p : PrefixCode c m) (u l : ℕ) where
  pub string_finds : u < c.leaves → l < c.leaves → Fits c u l → (row : List ℕ) (j : ℕ) → Holds row j (pair_string c u l) → Finds c u l row j
  string_finds hu hl fit row j holds =
      (leaf_of_unique c p.separate (window row (suc j)) u hu (holds_upper c u l fit row j holds), leaf_of_unique c p.separate (window row j) l hl (holds_lower c u l fit row j holds))

  module _ (s : List ℕ) (inputs : Inputs m s) (finds : (row : List ℕ) → Inputs m row → (j : ℕ) → Holds row j s → Finds c u l row j) (short : length s ≤ pair_bottom c u l) where
    abbrev n : ℕ
    n = pair_bottom c u l

    -- the row that goes on with a behind the string
    abbrev row : ℕ → List ℕ
    row a = span (λ i. get_or s (n - i) a) 0 (suc n)

    row_inputs : (a : ℕ) → a < m → Inputs m (row a)
    row_inputs a h k l =
        rw (get_d_span (λ i. get_or s (n - i) a) 0 (suc n) k 0 (rw length_span at l)) (each_entry (λ d. d < m) s a h inputs (n - (0 + k)))

    row_holds : (a : ℕ) → Holds (row a) n s
    row_holds a k h = row_read (λ i. get_or s i a) n k (omega arith) ∙ other_default s k a 0 h

    -- its lowest digit is a
    lowest : (a : ℕ) → window (row a) (suc n) n ≡ a
    lowest a = row_read (λ i. get_or s i a) n n (omega arith) ∙ get_or-eq_default s a {n = n} short

    -- which both look-ups together read: it is the last of one word or the other
    found : (a : ℕ) → a < m → Begins c u (window (row a) (suc n)) × Begins c l (window (row a) n) × (0 < c.size l)
    found a h =
        let f = finds (row a) (row_inputs a h) n (row_holds a) in
        let upper = into_begins c m p (row a) (row_inputs a h) (suc n) in
        let lower = into_begins c m p (row a) (row_inputs a h) n in
        (subst (λ k. Begins c k (window (row a) (suc n))) f.0 upper.1, subst (λ k. Begins c k (window (row a) n)) f.1 lower.1, subst (λ k. 0 < c.size k) f.1 (p.nonempty _ lower.0))

    last_lower : pred (c.size u) ≤ c.size l → (a : ℕ) → a < m → c.digit l (pred n) ≡ a
    last_lower longer a h =
        let f = found a h in
        f.1 (pred n) (omega (arith, f.2)) ∙ window_next (row a) n (omega (arith, f.2)) ∙ lowest a

    last_upper : c.size l < pred (c.size u) → (a : ℕ) → a < m → c.digit u n ≡ a
    last_upper longer a h = (found a h).0 n (omega arith) ∙ lowest a

    too_short : 1 < m → ⊥
    too_short two =
        elim (dec_lt (c.size l) (pred (c.size u))) [
          | yes h ↦ omega (arith, last_upper h 0 (omega arith), last_upper h 1 two)
          | no h ↦ omega (arith, last_lower (omega arith) 0 (omega arith), last_lower (omega arith) 1 two)
        ]

  -- the string of a pair is as short as can be: with two input digits or more, a string of them that makes both look-ups find the pair in
  -- every row that holds it is at least as long
  pub string_shortest : 1 < m → (s : List ℕ) → Inputs m s → ((row : List ℕ) → Inputs m row → (j : ℕ) → Holds row j s → Finds c u l row j) → length (pair_string c u l) ≤ length s
  string_shortest two s inputs finds =
      elim (dec_lt (pair_bottom c u l) (length s)) [
        | yes h ↦ omega (arith, length_pair_string c u l)
        | no h ↦ absurd (too_short s inputs finds (omega arith) two)
      ]
