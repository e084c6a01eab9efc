-- One edit more at the end of a list: the edits, the buffers, the answers, and the answers written.
use mathlib.Core.Path.{◌≡◌, refl, sym, ap, ◌∙◌}
use mathlib.Core.List.{List, [], ◌∷◌, ◌++◌, map}
use Prim.Native.Nat.{ℕ, suc, ◌+◌, ◌<◌}
use native.Mathlib.Nat.{zero-add}
use native.Mathlib.Omega.{arith}
use lib.ListN.{length, set, length-map}
use Rattle.lists.specs.Span.{span}
use Rattle.lists.specs.Overwrite.{overwrite}
use Rattle.lists.proofs.Span.{length_span, span_add}
use Rattle.lists.proofs.Cons.{cons≡}
use Rattle.lists.proofs.Overwrite.{overwrite_none, overwrite_snoc}
use Rattle.faults.specs.Outcome.{Outcome}
use Rattle.row_rules.specs.declared.Change.{Change}
use Rattle.edit_rules.specs.declared.EditedFacts.{EditedFacts}
use Rattle.edit_rules.specs.Edit.{edit_outcome, edit_state}
use Rattle.edit_rules.specs.State.{State}
use Rattle.edit_rules.specs.Run.{edit_all, edit_answers}
use Rattle.runner_rules.specs.declared.Told.{Told}
use Rattle.runner_rules.specs.Told.{told_of}
use Rattle.runner_rules.specs.List.{listed, edit_list}

map_snoc : {A B : Type 0} (f : A → B) (l : List A) (a : A) → map f (l ++ (a ∷ [])) ≡ map f l ++ (f a ∷ [])
map_snoc f [] a = refl
map_snoc f (x ∷ l) a = cons≡ refl (map_snoc f l a)

module _ (file : List ℕ) where
  all_snoc : (es : List Change) (e : Change) (s : State) → edit_all file (es ++ (e ∷ [])) s ≡ edit_state file e (edit_all file es s)
  unfolding edit_all
  all_snoc [] e s = refl
  all_snoc (x ∷ es) e s = all_snoc es e (edit_state file x s)

  answers_snoc : (es : List Change) (e : Change) (s : State) → edit_answers file (es ++ (e ∷ [])) s ≡ edit_answers file es s ++ (edit_outcome file e (edit_all file es s) ∷ [])
  unfolding edit_all edit_answers
  answers_snoc [] e s = refl
  answers_snoc (x ∷ es) e s = cons≡ refl (answers_snoc es e (edit_state file x s))

  length_answers : (es : List Change) (s : State) → length (edit_answers file es s) ≡ length es
  unfolding edit_answers
  length_answers [] s = refl
  length_answers (x ∷ es) s = ap suc (length_answers es (edit_state file x s))

module _ (rows places digits : List ℕ) where
  pub length_edits : (m : ℕ) → length (edit_list rows places digits m) ≡ m
  unfolding edit_list
  length_edits m = length_span (listed rows places digits) 0 m

  edits_snoc : (i : ℕ) → edit_list rows places digits (i + 1) ≡ edit_list rows places digits i ++ (listed rows places digits i ∷ [])
  unfolding edit_list span
  edits_snoc i =
      span_add (listed rows places digits) 0 i 1 ∙ ap (λ (n : ℕ). span (listed rows places digits) 0 i ++ (listed rows places digits n ∷ [])) (zero-add i)

  module _ (file : List ℕ) (s : State) where
    -- the buffers and the answers after the first i edits
    abbrev pub state_after : ℕ → State
    state_after i = edit_all file (edit_list rows places digits i) s

    abbrev pub answers_after : ℕ → List (Outcome EditedFacts)
    answers_after i = edit_answers file (edit_list rows places digits i) s

    pub state_none : s ≡ state_after 0
    unfolding edit_all edit_list span
    state_none = refl

    pub state_next : (i : ℕ) → edit_state file (listed rows places digits i) (state_after i) ≡ state_after (i + 1)
    state_next i =
        sym (ap (λ (es : List Change). edit_all file es s) (edits_snoc i) ∙ all_snoc file (edit_list rows places digits i) (listed rows places digits i) s)

    -- a number of each answer, written from the start of a slice on
    module _ (f : Outcome EditedFacts → ℕ) (lent : List ℕ) where
      abbrev pub written_after : ℕ → List ℕ
      written_after i = overwrite lent 0 (map f (answers_after i))

      pub written_none : lent ≡ written_after 0
      unfolding edit_answers edit_list span
      written_none = sym (overwrite_none lent 0)

      pub written_next : (i : ℕ) → i < length lent → set (written_after i) i (f (edit_outcome file (listed rows places digits i) (state_after i))) ≡ written_after (i + 1)
      written_next i h =
          let o = edit_outcome file (listed rows places digits i) (state_after i) in
          let long : length (map f (answers_after i)) ≡ i = length-map (answers_after i) f ∙ length_answers file (edit_list rows places digits i) s ∙ length_edits i in
          ap (λ (n : ℕ). set (written_after i) n (f o)) (sym long ∙ sym (zero-add (length (map f (answers_after i)))))
          ∙ overwrite_snoc lent 0 (map f (answers_after i)) (f o) (omega (arith, long))
          ∙ ap (overwrite lent 0) (sym (ap (λ (es : List Change). map f (edit_answers file es s)) (edits_snoc i) ∙ ap (map f) (answers_snoc file (edit_list rows places digits i) (listed rows places digits i) s) ∙ map_snoc f (answers_after i) o))

    -- the buffers and the three slices as the first i edits leave them
    module _ (whose₀ numbers₀ values₀ : List ℕ) where
      pub record AfterEdits (i : ℕ) (now : State) (whose numbers values : List ℕ) : Type 0 where
        pub buffers : now ≡ state_after i
        pub groups : whose ≡ written_after (λ o. (told_of o).whose) whose₀ i
        pub faults : numbers ≡ written_after (λ o. (told_of o).number) numbers₀ i
        pub counts : values ≡ written_after (λ o. (told_of o).value) values₀ i

      pub after_none : AfterEdits 0 s whose₀ numbers₀ values₀
      after_none =
          record {
            buffers = state_none;
            groups = written_none (λ o. (told_of o).whose) whose₀;
            faults = written_none (λ o. (told_of o).number) numbers₀;
            counts = written_none (λ o. (told_of o).value) values₀;
          }

      pub after_next : (i : ℕ) (now next : State) (whose numbers values : List ℕ) (told : Told) → AfterEdits i now whose numbers values
          → i < length whose₀ → i < length numbers₀ → i < length values₀
          → told ≡ told_of (edit_outcome file (listed rows places digits i) now) → next ≡ edit_state file (listed rows places digits i) now → AfterEdits (i + 1) next (set whose i told.whose) (set numbers i told.number) (set values i told.value)
      after_next i now next whose numbers values told so wide_groups wide_faults wide_counts is left =
          let said : told ≡ told_of (edit_outcome file (listed rows places digits i) (state_after i)) = is ∙ ap (λ (x : State). told_of (edit_outcome file (listed rows places digits i) x)) so.buffers in
          record {
            buffers = left ∙ ap (edit_state file (listed rows places digits i)) so.buffers ∙ state_next i;
            groups = (λ k. set (so.groups k) i (said k).whose) ∙ written_next (λ o. (told_of o).whose) whose₀ i wide_groups;
            faults = (λ k. set (so.faults k) i (said k).number) ∙ written_next (λ o. (told_of o).number) numbers₀ i wide_faults;
            counts = (λ k. set (so.counts k) i (said k).value) ∙ written_next (λ o. (told_of o).value) values₀ i wide_counts;
          }
