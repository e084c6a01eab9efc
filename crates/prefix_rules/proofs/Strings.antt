-- Rule 12's search is right: where it passes every string has a leaf, and where it fails, over words in order, it has come to a
-- string without one.
use mathlib.Core.Path.{◌≡◌, refl, sym, ap, ◌∙◌}
use mathlib.Core.Bool.{Bool, true, false}
use mathlib.Core.Logic.{◌⊎◌, inl, inr, ⊎_elim}
use Prim.Native.Nat.{ℕ, zero, suc, ◌+◌, ◌-◌, ◌<◌, ◌≤◌}
use native.Mathlib.Nat.{suc-add, add-suc}
use native.Mathlib.Decide.{dec_lt, dec_le}
use native.Mathlib.Omega.{arith}
use lib.Dec.{eqb}
use borrow.Author.Tests.{eqb-true, eqb-false, eq-eqb, ne_eqb}
use Rattle.lists.proofs.Scan.{scan_passed, scan_failed}
use Rattle.lists.proofs.Test.{clash}
use Rattle.numeration.specs.Code.{Code, Agree, Begins, Precedes, HasLeaf}
use Rattle.numeration.specs.Prefix.{Below}
use Rattle.numeration.proofs.Leaves.{precedes_all}
use Rattle.prefix_rules.specs.Coverage.{run_end, every_run, covered}
use Rattle.prefix_rules.proofs.Coverage.{run_low, run_high, covered_leaf, covered_last, covered_runs, covered_some}

-- one more place at which two strings agree
agree_more : (v w : ℕ → ℕ) (p : ℕ) → Agree v w p → v p ≡ w p → Agree v w (suc p)
agree_more v w p same here i h = elim (dec_lt i p) [ yes l ↦ same i l | no l ↦ at (omega arith) ]
  where
    at : i ≡ p → v i ≡ w i
    at e = rw e here

-- a string with another digit at a place
put : (ℕ → ℕ) → ℕ → ℕ → ℕ → ℕ
put q p y i = elim (eqb i p) [ true ↦ y | false ↦ q i ]

put_there : (q : ℕ → ℕ) (p y : ℕ) → put q p y p ≡ y
unfolding put
put_there q p y = rw (eq-eqb p p refl, put)

put_before : (q : ℕ → ℕ) (p y i : ℕ) → i < p → put q p y i ≡ q i
unfolding put
put_before q p y i h = rw (ne_eqb i p (λ e. omega arith), put)

put_below : (m : ℕ) (q : ℕ → ℕ) (p y : ℕ) → Below m q → y < m → Below m (put q p y)
unfolding put
put_below m q p y below h i = go (eqb i p)
  where
    go : (b : Bool) → (elim b as (λ _. ℕ) [ true ↦ y | false ↦ q i ]) < m
    go true = h
    go false = below i

module _ {A : Type 0} (c : Code A) where
  -- the leaves of a run have its digit, and the leaf where it ends hasn't
  run_digit : (p x lo hi k : ℕ) → lo ≤ k → k < run_end c p x lo hi → c.digit k p ≡ x
  unfolding run_end
  run_digit p x lo hi k l h = eqb-true _ _ (scan_passed (λ k. eqb (c.digit k p) x) lo (hi - lo) k l h)

  run_next : (p x lo hi : ℕ) → lo ≤ hi → run_end c p x lo hi < hi → c.digit (run_end c p x lo hi) p ≡ x → ⊥
  unfolding run_end
  run_next p x lo hi l h = eqb-false _ _ (scan_failed (λ k. eqb (c.digit k p) x) lo (hi - lo) (omega arith))

  -- the runs one after the other: by the outcome of the first
  runs_by : (X : Type 0) (test : ℕ → ℕ → Bool) (p x n lo hi : ℕ) (b : Bool) → every_run c test p x (suc n) lo hi ≡ b
      → (test lo (run_end c p x lo hi) ≡ true → every_run c test p (suc x) n (run_end c p x lo hi) hi ≡ b → X) → (test lo (run_end c p x lo hi) ≡ false → b ≡ false → X) → X
  unfolding every_run
  runs_by X test p x n lo hi b e pass fail = go (test lo (run_end c p x lo hi)) refl
    where
      go : (t : Bool) → test lo (run_end c p x lo hi) ≡ t → X
      go true h = pass h (rw (h, every_run) at e)
      go false h = fail h (sym (rw (h, every_run) at e))

  -- where all pass, the run of each digit does
  record Passing (test : ℕ → ℕ → Bool) (p y lo hi : ℕ) : Type 0 where
    first : ℕ
    end : ℕ
    low : lo ≤ first
    high : end ≤ hi
    passes : test first end ≡ true
    digit : (k : ℕ) → first ≤ k → k < end → c.digit k p ≡ y

  runs_passing : (test : ℕ → ℕ → Bool) (p x n lo hi y : ℕ) → lo ≤ hi → every_run c test p x n lo hi ≡ true → x ≤ y → y < x + n → Passing test p y lo hi
  runs_passing test p x zero lo hi y h e l less = absurd (none less)
    where
      none : y < x + 0 → ⊥
      none less = omega arith
  runs_passing test p x (suc n) lo hi y h e l less =
      runs_by (Passing test p y lo hi) test p x n lo hi true e
      (λ t rest. elim (dec_lt x y) [
        | yes m ↦ further (runs_passing test p (suc x) n (run_end c p x lo hi) hi y (run_high c p x lo hi h) rest m (omega arith))
        | no m ↦ let same : x ≡ y = omega arith in record { first = lo; end = run_end c p x lo hi; low = omega arith; high = run_high c p x lo hi h; passes = t; digit = λ k a b. run_digit p x lo hi k a b ∙ same }
      ])
      (λ t f. clash refl f)
    where
      further : Passing test p y (run_end c p x lo hi) hi → Passing test p y lo hi
      further w =
          record { first = w.first; end = w.end; low = omega (arith, run_low c p x lo hi, w.low); high = w.high; passes = w.passes; digit = w.digit }

  -- where the words' digits rise and one run fails, it is that of a digit, and all leaves with that digit are in it
  record Failing (test : ℕ → ℕ → Bool) (p lo hi n : ℕ) : Type 0 where
    digit : ℕ
    first : ℕ
    end : ℕ
    below : digit < n
    low : lo ≤ first
    high : end ≤ hi
    fails : test first end ≡ false
    inside : (k : ℕ) → first ≤ k → k < end → c.digit k p ≡ digit
    outside : (k : ℕ) → lo ≤ k → k < hi → (k < first) ⊎ (end ≤ k) → c.digit k p ≡ digit → ⊥

  module _ (test : ℕ → ℕ → Bool) (p lo hi : ℕ) (rising : (k l : ℕ) → lo ≤ k → k ≤ l → l < hi → c.digit k p ≤ c.digit l p) where
    -- a run, with the lower digits before it and the higher ones from its end on
    module _ (x at : ℕ) (low : lo ≤ at) (high : at ≤ hi) (lower : (k : ℕ) → lo ≤ k → k < at → c.digit k p < x) (higher : (k : ℕ) → at ≤ k → k < hi → x ≤ c.digit k p) where
      passed : (k : ℕ) → lo ≤ k → k < run_end c p x at hi → c.digit k p < suc x
      passed k l h =
          elim (dec_lt k at) [ yes b ↦ omega (arith, lower k l b) | no b ↦ omega (arith, run_digit p x at hi k (omega arith) h) ]

      ahead : (k : ℕ) → run_end c p x at hi ≤ k → k < hi → suc x ≤ c.digit k p
      ahead k l h =
          let end : ℕ = run_end c p x at hi in
          omega (arith, higher end (run_low c p x at hi) (omega arith), run_next p x at hi high (omega arith), rising end k (omega (arith, run_low c p x at hi)) l h)

      this : (n : ℕ) → test at (run_end c p x at hi) ≡ false → Failing test p lo hi (x + suc n)
      this n t =
          record {
            digit = x;
            first = at;
            end = run_end c p x at hi;
            below = omega arith;
            low = low;
            high = run_high c p x at hi high;
            fails = t;
            inside = run_digit p x at hi;
            outside = λ k l h side e. ⊎_elim (λ b. omega (arith, lower k l b)) (λ b. omega (arith, ahead k b h)) side;
          }

    runs_failing : (x n at : ℕ) → lo ≤ at → at ≤ hi → ((k : ℕ) → lo ≤ k → k < at → c.digit k p < x) → ((k : ℕ) → at ≤ k → k < hi → x ≤ c.digit k p) → every_run c test p x n at hi ≡ false → Failing test p lo hi (x + n)
    unfolding every_run
    runs_failing x zero at low high lower higher e = clash refl e
    runs_failing x (suc n) at low high lower higher e =
        runs_by (Failing test p lo hi (x + suc n)) test p x n at hi false e
        (λ t rest. rw (add-suc x n, ← suc-add x n) (runs_failing (suc x) n (run_end c p x at hi) (omega (arith, run_low c p x at hi)) (run_high c p x at hi high) (passed x at low high lower higher) (ahead x at low high lower higher) rest))
        (λ t _. this x at low high lower higher n t)

  module _ (m : ℕ) where
    -- a string whose first p digits the leaves share
    pub covered_sound : (d p lo hi : ℕ) → hi ≤ c.leaves → covered c m d p lo hi ≡ true → (w : ℕ → ℕ) → Below m w → ((k : ℕ) → lo ≤ k → k < hi → Agree (c.digit k) w p) → HasLeaf c w
    covered_sound zero p lo hi high e w below shares =
        let some : lo < hi = covered_some c m 0 p lo hi e in
        elim (dec_le (c.size lo) p) [
          | yes l ↦ (lo, omega arith, λ i h. shares lo (omega arith) some i (omega arith))
          | no l ↦ clash e (covered_last c m 0 p lo hi refl some (omega arith))
        ]
    covered_sound (suc d) p lo hi high e w below shares =
        let some : lo < hi = covered_some c m (suc d) p lo hi e in
        elim (dec_le (c.size lo) p) [
          | yes l ↦ (lo, omega arith, λ i h. shares lo (omega arith) some i (omega arith))
          | no l ↦ let r : Passing (covered c m d (suc p)) p (w p) lo hi = runs_passing (covered c m d (suc p)) p 0 m lo hi (w p) (omega arith) (sym (covered_runs c m d p lo hi some (omega arith)) ∙ e) (omega arith) (omega (arith, below p)) in
              covered_sound d (suc p) r.first r.end (omega (arith, r.high)) r.passes w below (λ k a b. agree_more _ w p (shares k (omega (arith, r.low)) (omega (arith, r.high))) (r.digit k a b))
        ]

    -- of the leaves that share the first p digits of a string, and of all others
    record Run (q : ℕ → ℕ) (p lo hi : ℕ) : Type 0 where
      inside : hi ≤ c.leaves
      shares : (k : ℕ) → lo ≤ k → k < hi → Agree (c.digit k) q p
      others : (k : ℕ) → k < c.leaves → (k < lo) ⊎ (hi ≤ k) → (w : ℕ → ℕ) → Agree q w p → Begins c k w → ⊥

    module _ (ordered : (k : ℕ) → suc k < c.leaves → Precedes c k (suc k)) where
      module _ (q : ℕ → ℕ) (p lo hi : ℕ) (r : Run q p lo hi) where
        -- words that share the first p digits differ later
        later : (k l : ℕ) → lo ≤ k → k < l → l < hi → (p < c.size l) × (c.digit k p ≤ c.digit l p)
        later k l low b high = from (precedes_all c ordered k l b (omega (arith, r.inside)))
          where
            from : Precedes c k l → (p < c.size l) × (c.digit k p ≤ c.digit l p)
            from (j, hj, same, less) =
                elim (dec_lt j p) [
                  | yes a ↦ absurd (omega (arith, r.shares k low (omega arith) j a, r.shares l (omega arith) high j a))
                  | no a ↦ (
                    omega arith,
                    elim (dec_lt p j) [
                      | yes d ↦ omega (arith, same p d)
                      | no d ↦ let e : j ≡ p = omega arith in omega (arith, ap (c.digit k) e, ap (c.digit l) e)
                    ],
                  )
                ]

        rising : (k l : ℕ) → lo ≤ k → k ≤ l → l < hi → c.digit k p ≤ c.digit l p
        rising k l low b high =
            elim (dec_lt k l) [
              | yes d ↦ (later k l low d high).1
              | no d ↦ let e : k ≡ l = omega arith in omega (arith, ap (λ (n : ℕ). c.digit n p) e)
            ]

        -- where the first word is longer, all are
        longer : p < c.size lo → (k : ℕ) → lo ≤ k → k < hi → p < c.size k
        longer h k low high =
            elim (dec_lt lo k) [
              | yes d ↦ (later lo k (omega arith) d high).0
              | no d ↦ let e : lo ≡ k = omega arith in omega (arith, ap c.size e)
            ]

        -- no leaf shares the digits: the string has none
        bare : Below m q → hi ≤ lo → (w : ℕ → ℕ) × Below m w × ¬ (HasLeaf c w)
        bare below h = (q, below, λ l. let (k, leaf, b) = l in r.others k leaf (side k) q (λ i _. refl) b)
          where
            side : (k : ℕ) → (k < lo) ⊎ (hi ≤ k)
            side k = elim (dec_lt k lo) [ yes l ↦ inl l | no l ↦ inr (omega arith) ]

        -- one digit deeper
        deeper : p < c.size lo → (test : ℕ → ℕ → Bool) (n : ℕ) (f : Failing test p lo hi n) → Run (put q p f.digit) (suc p) f.first f.end
        deeper long test n f =
            record {
              inside = omega (arith, r.inside, f.high);
              shares = λ k a b. agree_more _ _ p (λ i h. r.shares k (omega (arith, f.low)) (omega (arith, f.high)) i h ∙ sym (put_before q p f.digit i h)) (f.inside k a b ∙ sym (put_there q p f.digit));
              others = others;
            }
          where
            others : (k : ℕ) → k < c.leaves → (k < f.first) ⊎ (f.end ≤ k) → (w : ℕ → ℕ) → Agree (put q p f.digit) w (suc p) → Begins c k w → ⊥
            others k leaf side w same b =
                elim (dec_lt k lo) [
                  | yes l ↦ r.others k leaf (inl l) w before b
                  | no l ↦ elim (dec_lt k hi) [
                    | yes h ↦ f.outside k (omega arith) h side (b p (longer long k (omega arith) h) ∙ sym (same p (omega arith)) ∙ put_there q p f.digit)
                    | no h ↦ r.others k leaf (inr (omega arith)) w before b
                  ]
                ]
              where
                before : Agree q w p
                before i h = sym (put_before q p f.digit i h) ∙ same i (omega arith)

      -- a string without a leaf
      module _ (short : (k : ℕ) → k < c.leaves → c.size k ≤ 8) where
        gap : (d p lo hi : ℕ) → p + d ≡ 8 → (q : ℕ → ℕ) → Below m q → Run q p lo hi → covered c m d p lo hi ≡ false → (w : ℕ → ℕ) × Below m w × ¬ (HasLeaf c w)
        gap zero p lo hi sum q below r e =
            elim (dec_lt lo hi) [
              | yes h ↦ clash (covered_leaf c m 0 p lo hi h (omega (arith, short lo (omega (arith, r.inside))))) e
              | no h ↦ bare q p lo hi r below (omega arith)
            ]
        gap (suc d) p lo hi sum q below r e =
            elim (dec_lt lo hi) [
              | yes h ↦ elim (dec_le (c.size lo) p) [
                | yes l ↦ clash (covered_leaf c m (suc d) p lo hi h l) e
                | no l ↦ let f : Failing (covered c m d (suc p)) p lo hi (0 + m) = runs_failing (covered c m d (suc p)) p lo hi (rising q p lo hi r) 0 m lo (omega arith) (omega arith) (λ k a b. absurd (none k a b)) (λ k a b. omega arith) (sym (covered_runs c m d p lo hi h (omega arith)) ∙ e) in
                    gap d (suc p) f.first f.end (omega arith) (put q p f.digit) (put_below m q p f.digit below (omega (arith, f.below))) (deeper q p lo hi r (omega arith) _ _ f) f.fails
              ]
              | no h ↦ bare q p lo hi r below (omega arith)
            ]
          where
            none : (k : ℕ) → lo ≤ k → k < lo → ⊥
            none k a b = omega arith

        pub covered_complete : 0 < m → covered c m 8 0 0 c.leaves ≡ false → (w : ℕ → ℕ) × Below m w × ¬ (HasLeaf c w)
        covered_complete some e =
            gap 8 0 0 c.leaves (omega arith) (λ _. 0) (λ _. some)
            (record { inside = omega arith; shares = λ k a b i h. absurd (nothing i h); others = λ k leaf side w same b. outside k leaf side }) e
          where
            nothing : (i : ℕ) → i < 0 → ⊥
            nothing i h = omega arith

            outside : (k : ℕ) → k < c.leaves → (k < 0) ⊎ (c.leaves ≤ k) → ⊥
            outside k leaf (inl h) = omega arith
            outside k leaf (inr h) = omega arith
