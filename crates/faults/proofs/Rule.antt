-- From a test of each place to the plain statement, once for every rule: a scan gives its first offender, checks in turn give
-- that of the rules in turn, and such an answer is the only one.
use mathlib.Core.Path.{◌≡◌, refl, sym, ap, ap₂, ◌∙◌, subst}
use mathlib.Core.Bool.{Bool, true, false}
use mathlib.Core.List.{List, [], ◌∷◌, ◌++◌}
use mathlib.Core.Logic.{◌⊎◌, inl, inr, ⊎_elim, ◌↔◌}
use Prim.Native.Nat.{ℕ, zero, suc, ◌+◌, ◌<◌, ◌≤◌}
use native.Mathlib.Decide.{dec_lt}
use native.Mathlib.Omega.{arith}
use native.Mathlib.Nat.{le_antisymm}
use Rattle.lists.specs.Scan.{first_failing}
use Rattle.lists.proofs.Scan.{scan_passed, scan_failed}
use Rattle.lists.proofs.Test.{clash, not_passed}
use Rattle.faults.specs.declared.Refusal.{Refusal}
use Rattle.faults.specs.Check.{refusal, none, judge, ◌then◌, in_turn}
use Rattle.faults.specs.Rule.{Rule, rule, FirstAt, AllKept, FirstBroken}
use Rattle.faults.specs.Exact.{Exact}
use Rattle.faults.proofs.Check.{judge_broken, judge_kept, then_found, then_next, turn_found, turn_next, turn_end}

-- an answer with what it rests on
pub data Decided (rules : List Rule) (found : Refusal) : Type 0 where
  passes : found ≡ none → AllKept rules → Decided rules found
  refuses : 0 < found.number → FirstBroken rules found.number found.place → Decided rules found

-- one first offender
one_first : (r : Rule) (p q : ℕ) → FirstAt r p → FirstAt r q → p ≡ q
one_first r p q f g =
    elim (dec_lt p q) [
      | yes h ↦ absurd (g.earliest p h f.broken)
      | no h ↦ elim (dec_lt q p) [ yes l ↦ absurd (f.earliest q l g.broken) | no l ↦ le_antisymm (omega arith) (omega arith) ]
    ]

not_both : (rules : List Rule) (n p : ℕ) → AllKept rules → FirstBroken rules n p → ⊥
not_both [] n p k f = f
not_both (r ∷ rest) n p k (inl f) = k.0 p f.1.broken
not_both (r ∷ rest) n p k (inr f) = not_both rest n p k.1 f.1

only : (rules : List Rule) (n p m q : ℕ) → FirstBroken rules n p → FirstBroken rules m q → (n ≡ m) × (p ≡ q)
only [] n p m q f g = absurd f
only (r ∷ rest) n p m q (inl f) (inl g) = (f.0 ∙ sym g.0, one_first r p q f.1 g.1)
only (r ∷ rest) n p m q (inl f) (inr g) = absurd (g.0 p f.1.broken)
only (r ∷ rest) n p m q (inr f) (inl g) = absurd (f.0 q g.1.broken)
only (r ∷ rest) n p m q (inr f) (inr g) = only rest n p m q f.1 g.1

-- the answer is exact
pub exact : (rules : List Rule) (found : Refusal) → Decided rules found → Exact rules found
exact rules found (passes e kept) =
    record {
      refused = λ n p h. (λ same. absurd (zero_not n h (ap (λ (r : Refusal). r.number) (sym e ∙ same))), λ f. absurd (not_both rules n p kept f));
      passed = (λ _. kept, λ _. e);
    }
  where
    zero_not : (n : ℕ) → 0 < n → 0 ≡ n → ⊥
    zero_not n h e = omega arith
exact rules found (refuses some first) =
    record {
      refused = λ n p h. (
        λ same. subst (λ (r : Refusal). FirstBroken rules r.number r.place) same first,
        λ f. let o : (found.number ≡ n) × (found.place ≡ p) = only rules found.number found.place n p first f in ap₂ refusal o.0 o.1,
      );
      passed = (λ same. absurd (zero_not found.number some (ap (λ (r : Refusal). r.number) same)), λ kept. absurd (not_both rules found.number found.place kept first));
    }
  where
    zero_not : (n : ℕ) → 0 < n → n ≡ 0 → ⊥
    zero_not n h e = omega arith

-- a rule that judges n things in turn at rising places, where broken means that a thing's test fails
pub judge_decided : (r : Rule) (at : ℕ → ℕ) (test : ℕ → Bool) (n : ℕ) → 0 < r.number → ((j k : ℕ) → j < k → k < n → at j < at k)
    → ((p : ℕ) → r.Broken p ↔ ((k : ℕ) × (k < n) × (p ≡ at k) × (test k ≡ false))) → Decided (r ∷ []) (judge r.number at test n)
judge_decided r at test n some rising means = elim (dec_lt first n) [ yes h ↦ fails h | no h ↦ holds (omega arith) ]
  where
    Thing : ℕ → Type 0
    Thing p = (k : ℕ) × (k < n) × (p ≡ at k) × (test k ≡ false)

    first : ℕ
    first = first_failing test 0 n

    passed : (k : ℕ) → k < first → test k ≡ false → ⊥
    passed k h t = clash (scan_passed test 0 n k (omega arith) h) t

    not_earlier : first < n → (q : ℕ) → q < at first → Thing q → ⊥
    not_earlier h q l w =
        elim (dec_lt w.0 first) [
          | yes b ↦ passed w.0 b w.3
          | no b ↦ elim (dec_lt first w.0) [
            | yes a ↦ omega (arith, rising first w.0 a w.1, w.2)
            | no a ↦ omega (arith, w.2, ap at (le_antisymm {n = w.0} {m = first} (omega arith) (omega arith)))
          ]
        ]

    fails : first < n → Decided (r ∷ []) (judge r.number at test n)
    fails h =
        rw (judge_broken r.number at test n first refl h)
        (refuses some (inl (
          refl,
          record {
            broken = (means (at first)).1 (first, h, refl, scan_failed test 0 n (omega arith));
            earliest = λ q l b. not_earlier h q l ((means q).0 b);
          },
        )))

    holds : n ≤ first → Decided (r ∷ []) (judge r.number at test n)
    holds h = passes (judge_kept r.number at test n first refl h) (λ p b. let w : Thing p = (means p).0 b in passed w.0 (omega arith) w.3, tt)

-- the same where the things are places, and the test tells apart what is broken and what isn't
pub places_decided : (r : Rule) (test : ℕ → Bool) (n : ℕ) → 0 < r.number → ((p : ℕ) → r.Broken p → (p < n) × (test p ≡ true → ⊥))
    → ((p : ℕ) → p < n → test p ≡ false → r.Broken p) → Decided (r ∷ []) (judge r.number (λ k. k) test n)
places_decided r test n some sound complete =
    judge_decided r (λ k. k) test n some (λ j k h l. h) (λ p. (
      λ b. (p, (sound p b).0, refl, not_passed (test p) (sound p b).1),
      λ w. subst r.Broken (sym w.2) (complete w.0 w.1 w.3),
    ))

-- a rule that judges one thing, at place 0
pub once_decided : (number : ℕ) (Bad : Type 0) (allowed : Bool) → 0 < number → (allowed ≡ true → Bad → ⊥) → (allowed ≡ false → Bad)
    → Decided (rule number (λ p. (p ≡ 0) × Bad) ∷ []) (judge number (λ k. k) (λ _. allowed) 1)
once_decided number Bad allowed some sound complete =
    places_decided (rule number (λ p. (p ≡ 0) × Bad)) (λ _. allowed) 1 some
    (λ p b. (omega (arith, b.0), λ t. sound t b.1))
    (λ p l t. (omega arith, complete t))

-- checks one after the other, the second judged only where the first found nothing
pub then_decided : (rs ss : List Rule) (a b : Refusal) → Decided rs a → (AllKept rs → Decided ss b) → Decided (rs ++ ss) (a then b)
then_decided rs ss a b (passes e kept) next = rw (then_next a b (ap (λ (r : Refusal). r.number) e)) (after (next kept))
  where
    later : (rs : List Rule) (n p : ℕ) → AllKept rs → FirstBroken ss n p → FirstBroken (rs ++ ss) n p
    later [] n p k f = f
    later (r ∷ rest) n p k f = inr (k.0, later rest n p k.1 f)

    both : (rs : List Rule) → AllKept rs → AllKept ss → AllKept (rs ++ ss)
    both [] k l = l
    both (r ∷ rest) k l = (k.0, both rest k.1 l)

    after : Decided ss b → Decided (rs ++ ss) b
    after (passes f l) = passes f (both rs kept l)
    after (refuses some f) = refuses some (later rs b.number b.place kept f)
then_decided rs ss a b (refuses some first) next = rw (then_found a b (λ z. omega arith)) (refuses some (sooner rs a.number a.place first))
  where
    sooner : (rs : List Rule) (n p : ℕ) → FirstBroken rs n p → FirstBroken (rs ++ ss) n p
    sooner [] n p f = absurd f
    sooner (r ∷ rest) n p (inl f) = inl f
    sooner (r ∷ rest) n p (inr f) = inr (f.0, sooner rest n p f.1)

-- another wording of the same rule
pub reworded : (number : ℕ) (A B : ℕ → Type 0) (found : Refusal) → ((p : ℕ) → A p ↔ B p) → Decided (rule number A ∷ []) found → Decided (rule number B ∷ []) found
reworded number A B found same (passes e kept) = passes e (λ p b. kept.0 p ((same p).1 b), tt)
reworded number A B found same (refuses some (inl f)) =
    refuses some (inl (f.0, record { broken = (same _).0 f.1.broken; earliest = λ q l b. f.1.earliest q l ((same q).1 b) }))
reworded number A B found same (refuses some (inr f)) = absurd f.1

-- one rule over several parts, whose places rise from part to part
abbrev pub InPart : (ℕ → ℕ → Type 0) → ℕ → ℕ → ℕ → Type 0
InPart B i n p = (j : ℕ) × (i ≤ j) × (j < i + n) × B j p

pub turn_decided : (number : ℕ) (B : ℕ → ℕ → Type 0) (check : ℕ → Refusal) (i n : ℕ) → ((j : ℕ) → i ≤ j → j < i + n → Decided (rule number (B j) ∷ []) (check j))
    → ((j k p q : ℕ) → i ≤ j → j < k → k < i + n → B j p → B k q → p < q) → Decided (rule number (InPart B i n) ∷ []) (in_turn check i n)
turn_decided number B check i zero each rising = passes (turn_end check i) (λ p w. nothing w.0 w.1 w.2, tt)
  where
    nothing : (j : ℕ) → i ≤ j → j < i + 0 → ⊥
    nothing j l h = omega arith
turn_decided number B check i (suc n) each rising =
    go (each i (omega arith) (omega arith)) (turn_decided number B check (suc i) n (λ j l h. each j (omega arith) (omega arith)) (λ j k p q l m h. rising j k p q (omega arith) m (omega arith)))
  where
    -- of the parts from i on: the i-th itself, or one further on
    part : (p : ℕ) → InPart B i (suc n) p → B i p ⊎ InPart B (suc i) n p
    part p w =
        elim (dec_lt i w.0) [
          | yes h ↦ inr (w.0, h, omega arith, w.3)
          | no h ↦ inl (subst (λ (j : ℕ). B j p) (le_antisymm {n = w.0} {m = i} (omega arith) w.1) w.3)
        ]

    further : (p : ℕ) → InPart B (suc i) n p → InPart B i (suc n) p
    further p w = (w.0, omega arith, omega arith, w.3)

    here : (p : ℕ) → B i p → InPart B i (suc n) p
    here p b = (i, omega arith, omega arith, b)

    after : (p q : ℕ) → B i p → InPart B (suc i) n q → q < p → ⊥
    after p q b w l = omega (arith, rising i w.0 p q (omega arith) w.1 (omega arith) b w.3)

    go : Decided (rule number (B i) ∷ []) (check i) → Decided (rule number (InPart B (suc i) n) ∷ []) (in_turn check (suc i) n) → Decided (rule number (InPart B i (suc n)) ∷ []) (in_turn check i (suc n))
    go (passes e kept) rest =
        rw (turn_next check i n (ap (λ (r : Refusal). r.number) e))
        (reworded number _ _ _ (λ p. (further p, λ w. ⊎_elim (λ b. absurd (kept.0 p b)) (λ u. u) (part p w))) rest)
    go (refuses some (inl f)) rest =
        rw (turn_found check i n (λ z. omega arith))
        (refuses some (inl (
          f.0,
          record {
            broken = here _ f.1.broken;
            earliest = λ q l w. ⊎_elim (f.1.earliest q l) (λ u. after _ q f.1.broken u l) (part q w);
          },
        )))
    go (refuses some (inr f)) rest = absurd f.1
