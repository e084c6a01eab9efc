-- The lower leaves that fit an upper leaf are a run of neighbours: the first is the leaf of the upper's tail with zeros behind
-- it, and from there they fit until the first that doesn't.
use mathlib.Core.Path.{◌≡◌, refl, sym, subst, ◌∙◌}
use mathlib.Core.Bool.{Bool, true, false}
use Prim.Native.Nat.{ℕ, suc, ◌<◌, ◌≤◌, min, pred}
use native.Mathlib.Omega.{arith}
use native.Mathlib.Decide.{dec_lt}
use native.Mathlib.Nat.{le_antisymm}
use borrow.Author.Tests.{lt-ltb, le-ltb}
use Rattle.numeration.specs.Group.{Operations}
use Rattle.numeration.specs.Code.{Code, Begins, Precedes}
use Rattle.numeration.specs.Prefix.{PrefixCode, Below}
use Rattle.numeration.specs.Pairs.{tail, Fits}
use Rattle.numeration.specs.PairTests.{fits, pair_passes}
use Rattle.numeration.specs.Runs.{tail_then_zeros, lowest_fit}
use Rattle.numeration.proofs.Agreement.{agree_sound}
use Rattle.numeration.proofs.Leaves.{leaf_of_begins, precedes_all}

module _ {A : Type 0} (c : Code A) (m : ℕ) (p : PrefixCode c m) (ordered : (k : ℕ) → suc k < c.leaves → Precedes c k (suc k)) (u : ℕ) (hu : u < c.leaves) where
  pub in_tail : (i : ℕ) → i < pred (c.size u) → tail_then_zeros c u i ≡ tail c u i
  unfolding tail_then_zeros
  in_tail i h = rw (lt-ltb i (pred (c.size u)) h, tail_then_zeros)

  pub behind_tail : (i : ℕ) → pred (c.size u) ≤ i → tail_then_zeros c u i ≡ 0
  unfolding tail_then_zeros
  behind_tail i h = rw (le-ltb i (pred (c.size u)) h, tail_then_zeros)

  pub string_inputs : Below m (tail_then_zeros c u)
  unfolding tail
  string_inputs i =
      elim (dec_lt i (pred (c.size u))) [
        | yes h ↦ rw (in_tail i h) (p.indexes u (suc i) hu (omega arith))
        | no h ↦ rw (behind_tail i (omega arith)) p.some_input
      ]

  found : (lowest_fit c u < c.leaves) × Begins c (lowest_fit c u) (tail_then_zeros c u)
  unfolding lowest_fit
  found = leaf_of_begins c (tail_then_zeros c u) (p.complete (tail_then_zeros c u) string_inputs)

  -- the lowest one reads the tail as far as both reach
  reads : (i : ℕ) → i < pred (c.size u) → i < c.size (lowest_fit c u) → c.digit (lowest_fit c u) i ≡ tail c u i
  reads i h l = found.1 i l ∙ in_tail i h

  pub run_found : lowest_fit c u < c.leaves
  run_found = found.0

  pub run_begins : Begins c (lowest_fit c u) (tail_then_zeros c u)
  run_begins = found.1

  pub run_first : Fits c u (lowest_fit c u)
  run_first i h = sym (reads i (omega arith) (omega arith))

  -- none below it fits
  pub run_below : (l : ℕ) → l < lowest_fit c u → Fits c u l → ⊥
  run_below l h fit =
      let (i, in_both, same, less) = precedes_all c ordered l (lowest_fit c u) h run_found in
      elim (dec_lt i (pred (c.size u))) [
        | yes k ↦ omega (arith, fit i (omega arith), reads i k (omega arith))
        | no k ↦ omega (arith, found.1 i (omega arith), behind_tail i (omega arith))
      ]

  -- between it and one that fits, all fit
  pub run_on : (k l : ℕ) → lowest_fit c u ≤ k → k < l → l < c.leaves → Fits c u l → Fits c u k
  run_on k l low h high fit =
      elim (dec_lt (lowest_fit c u) k) [
        | yes above ↦ (λ j in_k. agrees above j in_k)
        | no same ↦ subst (Fits c u) (le_antisymm low (omega arith)) run_first
      ]
    where
      -- a leaf above the lowest that leaves the tail stays above every leaf that has it
      leaves_late : lowest_fit c u < k → (i : ℕ) → i < min (c.size (lowest_fit c u)) (c.size k) → ((j : ℕ) → j < i → c.digit (lowest_fit c u) j ≡ c.digit k j) → c.digit (lowest_fit c u) i < c.digit k i → pred (c.size u) ≤ i
      leaves_late above i in_both same less =
          elim (dec_lt i (pred (c.size u))) [
            | yes early ↦
                let (e, in_next, next, further) = precedes_all c ordered k l h high in
                elim (dec_lt e i) [
                  | yes before ↦ omega (arith, same e before, reads e (omega arith) (omega arith), fit e (omega arith))
                  | no after ↦ elim (dec_lt i e) [
                    | yes far ↦ omega (arith, next i far, reads i early (omega arith), fit i (omega arith))
                    | no here ↦
                        let at_i : c.digit k i < c.digit l i = subst (λ (n : ℕ). c.digit k n < c.digit l n) (le_antisymm (omega arith) (omega arith)) further in
                        omega (arith, reads i early (omega arith), fit i (omega arith))
                  ]
                ]
            | no late ↦ omega arith
          ]

      agrees : lowest_fit c u < k → Fits c u k
      agrees above j in_k =
          let (i, in_both, same, less) = precedes_all c ordered (lowest_fit c u) k above (omega arith) in
          let late : pred (c.size u) ≤ i = leaves_late above i in_both same less in
          sym (reads j (omega arith) (omega arith)) ∙ same j (omega arith)

module _ {A : Type 0} (o : Operations A) (input : ℕ → A) (c : Code A) (alphabet : A → Bool) (u : ℕ) where
  -- a pair that doesn't fit passes rule 14
  pub unfit_passes : (l : ℕ) → (Fits c u l → ⊥) → pair_passes o input c alphabet u l ≡ true
  unfolding pair_passes fits
  unfit_passes l apart = go (fits c u l) refl
    where
      go : (b : Bool) → fits c u l ≡ b → pair_passes o input c alphabet u l ≡ true
      go true e = absurd (apart (agree_sound _ _ _ e))
      go false e = rw (e, pair_passes)
