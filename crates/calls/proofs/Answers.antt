-- From checks that each find their first broken rule to demand 1 of the call that runs them.
use mathlib.Core.Path.{◌≡◌, refl, sym, ap, subst, transport, ◌∙◌}
use mathlib.Core.List.{List, [], ◌∷◌}
use mathlib.Core.Logic.{inl, inr}
use Prim.Native.Nat.{ℕ, ◌<◌}
use native.Mathlib.Decide.{ℕ_discrete}
use native.Mathlib.Omega.{arith}
use Rattle.faults.specs.declared.Refusal.{Refusal}
use Rattle.faults.specs.Check.{refusal, none}
use Rattle.faults.specs.Outcome.{Group, Outcome, facts, refused}
use Rattle.faults.specs.Rule.{Rule, AllKept, FirstBroken}
use Rattle.faults.specs.Unless.{unless}
use Rattle.faults.proofs.Rule.{Decided, passes, refuses, exact}
use Rattle.faults.proofs.Exit.{facts_no_fault, one_fault, one_answer}
use Rattle.faults.proofs.Unless.{unless_found, unless_none}
use Rattle.calls.specs.Answers.{Stage, stage, StagesKept, FirstFault, Answers}

module _ {F : Type 0} where
  -- facts come out of a stage only where it found nothing
  pub unless_given : (g : Group) (a : Refusal) (rest : Outcome F) (f : F) → unless g a rest ≡ facts f → (a.number ≡ 0) × (rest ≡ facts f)
  unless_given g a rest f e =
      elim (ℕ_discrete a.number 0) [
        | yes z ↦ (z, sym (unless_none g a rest z) ∙ e)
        | no some ↦ absurd (facts_no_fault (unless g a rest) f g a.number a.place e (unless_found g a rest some))
      ]

-- of the rules of one stage: kept and broken don't go together, and the first broken one is one
number_is : (a b : Refusal) → a ≡ b → a.number ≡ b.number
number_is a b e = ap (λ (r : Refusal). r.number) e

kept_or_broken : (rules : List Rule) (n p : ℕ) → 0 < n → AllKept rules → FirstBroken rules n p → ⊥
kept_or_broken rules n p h kept first =
    let z = number_is (refusal n p) none ((exact rules (refusal n p) (refuses h first)).passed.1 kept) in
    omega (arith, z)

one_broken : (rules : List Rule) (n p m q : ℕ) → 0 < n → 0 < m → FirstBroken rules n p → FirstBroken rules m q → (n ≡ m) × (p ≡ q)
one_broken rules n p m q h l first other =
    let e = ((exact rules (refusal n p) (refuses h first)).refused m q l).1 other in
    (number_is (refusal n p) (refusal m q) e, ap (λ (r : Refusal). r.place) e)

-- the same of stages in turn
kept_or_fault : (stages : List Stage) (g : Group) (n p : ℕ) → 0 < n → StagesKept stages → FirstFault stages g n p → ⊥
kept_or_fault [] g n p h kept f = f
kept_or_fault (s ∷ rest) g n p h kept (inl f) = kept_or_broken s.rules n p h kept.0 f.1
kept_or_fault (s ∷ rest) g n p h kept (inr f) = kept_or_fault rest g n p h kept.1 f.1

first_fault : (stages : List Stage) (g k : Group) (n m p q : ℕ) → 0 < n → 0 < m → FirstFault stages g n p → FirstFault stages k m q → (g ≡ k) × (n ≡ m) × (p ≡ q)
first_fault [] g k n m p q h l f e = absurd f
first_fault (s ∷ rest) g k n m p q h l (inl f) (inl e) =
    let same = one_broken s.rules n p m q h l f.1 e.1 in
    (f.0 ∙ sym e.0, same.0, same.1)
first_fault (s ∷ rest) g k n m p q h l (inl f) (inr e) = absurd (kept_or_broken s.rules n p h e.0 f.1)
first_fault (s ∷ rest) g k n m p q h l (inr f) (inl e) = absurd (kept_or_broken s.rules m q l f.0 e.1)
first_fault (s ∷ rest) g k n m p q h l (inr f) (inr e) = first_fault rest g k n m p q h l f.1 e.1

-- an outcome with what it rests on
pub data Told {F : Type 0} (stages : List Stage) (answer : F) (outcome : Outcome F) : Type 0 where
  gives : outcome ≡ facts answer → StagesKept stages → Told stages answer outcome
  faults : (g : Group) (n p : ℕ) → outcome ≡ refused g n p → 0 < n → FirstFault stages g n p → Told stages answer outcome

module _ {F : Type 0} where
  -- after the last stage
  pub told_end : (answer : F) → Told [] answer (facts answer)
  told_end answer = gives refl tt

  -- a stage in front of others, which are judged only where it found nothing
  pub told_unless : (whose : Group) (rules : List Rule) (stages : List Stage) (answer : F) (a : Refusal) (rest : Outcome F) → Decided rules a
      → (AllKept rules → Told stages answer rest) → Told (stage whose rules ∷ stages) answer (unless whose a rest)
  told_unless whose rules stages answer a rest (refuses some first) next =
      faults whose a.number a.place (unless_found whose a rest (λ z. omega arith)) some (inl (refl, first))
  told_unless whose rules stages answer a rest (passes e kept) next = after (next kept)
    where
      same : unless whose a rest ≡ rest
      same = unless_none whose a rest (number_is a none e)

      after : Told stages answer rest → Told (stage whose rules ∷ stages) answer (unless whose a rest)
      after (gives is all) = gives (same ∙ is) (kept, all)
      after (faults g n p is some first) = faults g n p (same ∙ is) some (inr (kept, first))

  -- demand 1
  pub told_answers : (stages : List Stage) (answer : F) (o : Outcome F) → Told stages answer o → Answers stages answer o
  told_answers stages answer o (gives is kept) =
      record {
        first = λ g n p h. (λ s. absurd (facts_no_fault o answer g n p is s), λ f. absurd (kept_or_fault stages g n p h kept f));
        passed = (λ _. kept, λ _. is);
        some_number = λ g n p s. absurd (facts_no_fault o answer g n p is s);
        only_facts = λ f s. one_answer o f answer s is;
      }
  told_answers stages answer o (faults g n p is some f) =
      record {
        first = λ k m q h. (
          λ s. let e = one_fault o g k n m p q is s in moved k m q e f,
          λ l. let e = first_fault stages g k n m p q some h f l in is ∙ (λ i. refused (e.0 i) (e.1 i) (e.2 i)),
        );
        passed = (λ s. absurd (facts_no_fault o answer g n p s is), λ kept. absurd (kept_or_fault stages g n p some kept f));
        some_number = λ k m q s. subst (λ (j : ℕ). 0 < j) (one_fault o g k n m p q is s).1 some;
        only_facts = λ x s. absurd (facts_no_fault o x g n p s is);
      }
    where
      moved : (k : Group) (m q : ℕ) → (g ≡ k) × (n ≡ m) × (p ≡ q) → FirstFault stages g n p → FirstFault stages k m q
      moved k m q e y = transport (λ i. FirstFault stages (e.0 i) (e.1 i) (e.2 i)) y

-- demand 1 of a call with one stage
pub stage_answers : {F : Type 0} (whose : Group) (rules : List Rule) (a : Refusal) (answer : F) → Decided rules a → Answers (stage whose rules ∷ []) answer (unless whose a (facts answer))
stage_answers whose rules a answer d = told_answers _ answer _ (told_unless whose rules [] answer a (facts answer) d (λ _. told_end answer))
