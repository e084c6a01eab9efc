-- Rule 14 by runs: on leaves and words that pass rules 9 to 13 the lower leaves that fit an upper one are met from the leaf of
-- its tail on, until the first that doesn't fit.
use mathlib.Core.Path.{◌≡◌, sym, ap, subst, ◌∙◌}
use mathlib.Core.Bool.{Bool, true, false}
use mathlib.Core.List.{List}
use Prim.Native.Nat.{ℕ, suc, ◌+◌, ◌-◌, ◌<◌, ◌≤◌, min, pred}
use native.Mathlib.Omega.{arith}
use native.Mathlib.Decide.{dec_lt}
use native.Mathlib.Nat.{add_comm, zero-add, le_antisymm}
use native.Mathlib.Numerals.{add-one}
use lib.IntN.{ℤ}
use lib.ListN.{length, get_or, get_or-eq_default}
use Rattle.lists.specs.Span.{span}
use Rattle.lists.specs.Scan.{first_failing}
use Rattle.lists.proofs.Span.{get_d_span, length_span}
use Rattle.lists.proofs.Scan.{scan_all, scan_unique}
use Rattle.lists.proofs.Test.{same_outcome, clash}
use Rattle.ring.specs.Element.{plus, minus, negative}
use Rattle.ring.specs.Degree.{part_count}
use Rattle.ring.specs.Padded.{padded_times}
use Rattle.ring.proofs.Element.{plus_assoc, plus_comm}
use Rattle.layout_rules.specs.Section.{Section}
use Rattle.digit_rules.specs.Record.{record_at}
use Rattle.numeration.specs.Code.{Code, Inputs}
use Rattle.numeration.specs.LeafOf.{agree}
use Rattle.numeration.specs.Prefix.{PrefixCode}
use Rattle.numeration.specs.Conversion.{out_digit}
use Rattle.numeration.specs.Elements.{elements}
use Rattle.numeration.specs.Pairs.{tail, Fits, pair_digit}
use Rattle.numeration.specs.PairTests.{fits, pair_passes}
use Rattle.numeration.specs.PairCount.{lower_count}
use Rattle.numeration.specs.Runs.{tail_then_zeros, lowest_fit}
use Rattle.numeration.proofs.Agreement.{agree_sound, agree_complete}
use Rattle.numeration.proofs.Runs.{run_found, run_below, run_on, unfit_passes, in_tail, behind_tail, string_inputs}
use Rattle.numeration.proofs.PairCount.{run_count}
use Rattle.leaf_rules.specs.Leaf.{leaf_count, word_length, code_of}
use Rattle.leaf_rules.specs.Given.{word_given, weight_given}
use Rattle.prefix_rules.specs.Formed.{LeavesFormed}
use Rattle.leaf_rules.specs.Window.{digits, LookedUp}
use Rattle.leaf_rules.proofs.Leaf.{word_length_lem, word_digit, weight_there}
use Rattle.prefix_rules.proofs.Formed.{complete_prefix_code, look_up_is}
use Rattle.table_rules.specs.Pairs.{upper_part}

-- the digit of a pair, from the upper leaf's part of it
upper_first : (d : ℕ) (matrix : List (List ℤ)) (x below own : List ℤ) → plus (minus x (padded_times d matrix own)) below ≡ out_digit (elements d matrix) x below own
unfolding out_digit elements minus
upper_first d matrix x below own =
    let other = negative (padded_times d matrix own) in
    plus_assoc x other below ∙ ap (plus x) (plus_comm other below) ∙ sym (plus_assoc x below other)

module _ (leaves : Section) (words : List ℕ) (m : ℕ) (input : 0 < m) (is : LeavesFormed leaves words m) where
  -- a leaf's word as it is handed out
  long : (k : ℕ) → k < leaf_count leaves → length (word_given leaves words k) ≡ word_length leaves k
  long k h = word_length_lem leaves words k h (is.inside k h)

  pub reads : (k i : ℕ) → k < leaf_count leaves → i < word_length leaves k → get_or (word_given leaves words k) i 0 ≡ (code_of leaves words).digit k i
  reads k i h l = word_digit leaves words k h (is.inside k h) i l

  -- the first digit of a word is an input index
  pub first_input : (k : ℕ) → k < leaf_count leaves → get_or (word_given leaves words k) 0 0 < m
  first_input k h = rw (reads k 0 h (is.some k h)) ((complete_prefix_code leaves words m input is).indexes k 0 h (is.some k h))

  module _ (u : ℕ) (hu : u < leaf_count leaves) where
    -- the window of the tail, and zeros behind it
    abbrev pub tail_window : List ℕ
    tail_window = span (λ i. get_or (word_given leaves words u) i 0) 1 8

    tail_reads : (i : ℕ) → suc i < word_length leaves u → get_or (word_given leaves words u) (i + 1) 0 ≡ tail (code_of leaves words) u i
    unfolding tail
    tail_reads i h = reads u (i + 1) hu (omega arith) ∙ ap ((code_of leaves words).digit u) (add-one i)

    window_reads : (i : ℕ) → i < 8 → digits tail_window i ≡ tail_then_zeros (code_of leaves words) u i
    window_reads i h =
        get_d_span (λ k. get_or (word_given leaves words u) k 0) 1 8 i 0 h ∙ ap (λ (k : ℕ). get_or (word_given leaves words u) k 0) (add_comm 1 i) ∙ elim (dec_lt i (pred (word_length leaves u))) [
          | yes l ↦ tail_reads i (omega arith) ∙ sym (in_tail c m p is.ordered u hu i l)
          | no l ↦ get_or-eq_default (word_given leaves words u) 0 (omega (arith, long u hu)) ∙ sym (behind_tail c m p is.ordered u hu i (omega arith))
        ]
      where
        c : Code (List ℤ)
        c = code_of leaves words

        p : PrefixCode c m
        p = complete_prefix_code leaves words m input is

    window_inputs : Inputs m tail_window
    window_inputs i h =
        rw (window_reads i (omega (arith, length_span (λ k. get_or (word_given leaves words u) k 0) 1 8))) (string_inputs (code_of leaves words) m (complete_prefix_code leaves words m input is) is.ordered u hu i)

    pub lowest_found : (r : ℕ) → LookedUp (code_of leaves words) tail_window r → r ≡ lowest_fit (code_of leaves words) u
    unfolding lowest_fit
    lowest_found r found =
        (look_up_is leaves words m input is tail_window r window_inputs found (tail_then_zeros (code_of leaves words) u) window_reads).1

    pub lowest_there : lowest_fit (code_of leaves words) u < leaf_count leaves
    lowest_there = run_found (code_of leaves words) m (complete_prefix_code leaves words m input is) is.ordered u hu

    -- two words fit as they are handed out
    pub fit_is : (l : ℕ) → l < leaf_count leaves → agree (λ i. get_or (word_given leaves words u) (i + 1) 0) (λ i. get_or (word_given leaves words l) i 0) (min (pred (length (word_given leaves words u))) (length (word_given leaves words l))) ≡ fits (code_of leaves words) u l
    unfolding fits
    fit_is l hl =
        rw (long u hu, long l hl) (same_outcome _ _ (λ e. agree_complete _ _ _ (λ i h. sym (tail_reads i (omega arith)) ∙ agree_sound _ _ _ e i h ∙ reads l i hl (omega arith))) (λ e. agree_complete _ _ _ (λ i h. tail_reads i (omega arith) ∙ agree_sound _ _ _ e i h ∙ sym (reads l i hl (omega arith)))))

    apart : (l : ℕ) → fits (code_of leaves words) u l ≡ false → Fits (code_of leaves words) u l → ⊥
    unfolding fits
    apart l e fit = clash (agree_complete _ _ _ fit) e

    -- from a leaf on that stands in the run's way none fits
    behind : (l : ℕ) → lowest_fit (code_of leaves words) u ≤ l → fits (code_of leaves words) u l ≡ false → (j : ℕ) → l ≤ j → j < leaf_count leaves → Fits (code_of leaves words) u j → ⊥
    behind l low e j le hj fit =
        elim (dec_lt l j) [
          | yes lt ↦ apart l e (run_on (code_of leaves words) m (complete_prefix_code leaves words m input is) is.ordered u hu l j low lt hj fit)
          | no ge ↦ apart l e (subst (Fits (code_of leaves words) u) (le_antisymm (omega arith) le) fit)
        ]

    -- so many leaves fit as there are from the lowest that does up to the first that doesn't, or to the last leaf
    pub run_length : (l : ℕ) → lowest_fit (code_of leaves words) u ≤ l → l ≤ leaf_count leaves → (l < leaf_count leaves → fits (code_of leaves words) u l ≡ false)
        → ((j : ℕ) → j < l → lowest_fit (code_of leaves words) u ≤ j → fits (code_of leaves words) u j ≡ true) → lower_count (code_of leaves words) u ≡ l - lowest_fit (code_of leaves words) u
    unfolding fits
    run_length l low high end run =
        run_count (code_of leaves words) u (lowest_fit (code_of leaves words) u) l low high (λ j from upto. agree_sound _ _ _ (run j upto from)) (λ j hj fit. (from j fit, upto j hj fit))
      where
        from : (j : ℕ) → Fits (code_of leaves words) u j → lowest_fit (code_of leaves words) u ≤ j
        from j fit =
            elim (dec_lt j (lowest_fit (code_of leaves words) u)) [
              | yes lt ↦ absurd (run_below (code_of leaves words) m (complete_prefix_code leaves words m input is) is.ordered u hu j lt fit)
              | no ge ↦ omega arith
            ]

        upto : (j : ℕ) → j < leaf_count leaves → Fits (code_of leaves words) u j → j < l
        upto j hj fit = elim (dec_lt j l) [ yes lt ↦ lt | no ge ↦ absurd (behind l low (end (omega arith)) j (omega arith) hj fit) ]

    module _ (matrix : List (List ℤ)) (inputs : Section) (alphabet : List ℤ → Bool) where
      abbrev passes : ℕ → Bool
      passes l = pair_passes (elements (part_count leaves.degree) matrix) (record_at inputs) (code_of leaves words) alphabet u l

      -- all lower leaves up to l pass
      abbrev pub Upto : ℕ → Type 0
      Upto l = (j : ℕ) → j < l → passes j ≡ true

      -- the digit of a fitting pair, from the words and weights as they are handed out
      pub pair_is : (l : ℕ) → l < leaf_count leaves → fits (code_of leaves words) u l ≡ true → alphabet (plus (upper_part matrix inputs leaves words u) (weight_given leaves l)) ≡ passes l
      unfolding pair_passes pair_digit
      pair_is l hl fit =
          rw (fit, pair_passes, upper_first (part_count leaves.degree) matrix (record_at inputs (get_or (word_given leaves words u) 0 0)) (weight_given leaves l) (weight_given leaves u), reads u 0 hu (is.some u hu), sym (weight_there leaves l hl), sym (weight_there leaves u hu))

      pub upto_lowest : Upto (lowest_fit (code_of leaves words) u)
      upto_lowest j h =
          unfit_passes (elements (part_count leaves.degree) matrix) (record_at inputs) (code_of leaves words) alphabet u j (run_below (code_of leaves words) m (complete_prefix_code leaves words m input is) is.ordered u hu j h)

      -- the run ends, with a leaf that doesn't fit, with the last leaf, or with a pair that gives no alphabet digit
      pub ends_unfit : (l : ℕ) → lowest_fit (code_of leaves words) u ≤ l → l < leaf_count leaves → fits (code_of leaves words) u l ≡ false → Upto l → leaf_count leaves ≡ first_failing passes 0 (leaf_count leaves)
      ends_unfit l low h e upto = sym (scan_all passes 0 (leaf_count leaves) all ∙ zero-add (leaf_count leaves))
        where
          all : (j : ℕ) → 0 ≤ j → j < 0 + leaf_count leaves → passes j ≡ true
          all j z hj =
              elim (dec_lt j l) [
                | yes lt ↦ upto j lt
                | no ge ↦ unfit_passes (elements (part_count leaves.degree) matrix) (record_at inputs) (code_of leaves words) alphabet u j (behind l low e j (omega arith) (omega arith))
              ]

      pub ends_all : (l : ℕ) → leaf_count leaves ≤ l → Upto l → leaf_count leaves ≡ first_failing passes 0 (leaf_count leaves)
      ends_all l h upto = sym (scan_all passes 0 (leaf_count leaves) (λ j z hj. upto j (omega arith)) ∙ zero-add (leaf_count leaves))

      pub ends_bad : (l : ℕ) → l < leaf_count leaves → passes l ≡ false → Upto l → l ≡ first_failing passes 0 (leaf_count leaves)
      ends_bad l h bad upto = sym (scan_unique passes 0 (leaf_count leaves) l (omega arith) (omega arith) (λ j z lt. upto j lt) bad)
