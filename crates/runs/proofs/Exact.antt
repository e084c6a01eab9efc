-- The lower leaves that fit an upper one are those from the last leaf at most its tail on, up to the first above all that begin with it.
use mathlib.Core.Path.{◌≡◌, sym, ap, subst, ◌∙◌}
use mathlib.Core.List.{List}
use Prim.Native.Nat.{ℕ, suc, ◌+◌, ◌-◌, ◌*◌, ◌%◌, ◌^◌, ◌<◌, ◌≤◌, pred}
use native.Mathlib.Omega.{arith}
use native.Mathlib.Decide.{dec_lt}
use native.Mathlib.Nat.{le_antisymm}
use lib.IntN.{ℤ}
use lib.ListN.{get_or}
use lib.Bits.{bit_or}
use Rattle.radix.specs.Number.{number, Digits}
use Rattle.radix.proofs.Order.{aligned_agree, aligned_eight, aligned_zeros, begins_number, neither_lower, unit_some}
use Rattle.layout_rules.specs.Section.{Section}
use Rattle.numeration.specs.Code.{Code}
use Rattle.numeration.specs.Prefix.{PrefixCode}
use Rattle.numeration.specs.Pairs.{tail, Fits}
use Rattle.numeration.specs.PairCount.{lower_count}
use Rattle.numeration.specs.Runs.{tail_then_zeros, lowest_fit}
use Rattle.numeration.proofs.Runs.{in_tail, behind_tail, run_found, run_begins, run_first}
use Rattle.numeration.proofs.PairCount.{run_count}
use Rattle.leaf_rules.specs.Leaf.{leaf_count, word_length, code_of}
use Rattle.prefix_rules.specs.Formed.{LeavesFormed}
use Rattle.prefix_rules.proofs.Formed.{complete_prefix_code}
use Rattle.runs.specs.Words.{WordsOrdered, word_number, Keyed}
use Rattle.runs.proofs.Keys.{bytes, rises, tail_number, tail_bytes, tail_is, none_below, last_number, run_within}

module _ (leaves : Section) (words : List ℕ) (m : ℕ) (input : 0 < m) (is : LeavesFormed leaves words m) (ready : WordsOrdered leaves words) (u : ℕ) (hu : u < leaf_count leaves) where
  abbrev c : Code (List ℤ)
  c = code_of leaves words

  code : PrefixCode c m
  code = complete_prefix_code leaves words m input is

  string : ℕ → ℕ
  string = tail_then_zeros c u

  digits : Digits 256 string 8
  unfolding tail string
  digits i h =
      elim (dec_lt i (pred (word_length leaves u))) [
        | yes l ↦ rw (in_tail c m code is.ordered u hu i l) (ready.bytes _)
        | no l ↦ rw (behind_tail c m code is.ordered u hu i (omega arith)) (omega arith)
      ]

  -- the tail's number is that of the tail with zeros behind it
  tail_string : number 256 string 8 ≡ tail_number leaves words ready u hu
  unfolding string
  tail_string =
      sym (aligned_eight 256 string)
      ∙ aligned_zeros 256 string (pred (word_length leaves u)) 8 (omega (arith, ready.short u hu)) (omega arith) (λ i low h. behind_tail c m code is.ordered u hu i low)
      ∙ aligned_agree 256 string (tail c u) (pred (word_length leaves u)) (λ i h. in_tail c m code is.ordered u hu i h)

  there : lowest_fit c u < leaf_count leaves
  there = run_found c m code is.ordered u hu

  lowest_low : word_number leaves words (lowest_fit c u) ≤ tail_number leaves words ready u hu
  unfolding string
  lowest_low =
      omega (arith, tail_string, (begins_number 256 (omega arith) (c.digit (lowest_fit c u)) string (word_length leaves (lowest_fit c u)) (ready.short _ there) digits (run_begins c m code is.ordered u hu)).0)

  module _ (keys : List ℕ) (keyed : Keyed leaves words keys (leaf_count leaves)) (t : ℕ) (tail_is_t : t ≡ (get_or keys u 0 * 2 ^ 8) % 2 ^ 64) (start : ℕ) (inside : start < leaf_count leaves) (low : 0 < start → get_or keys start 0 ≤ t) (next : suc start < leaf_count leaves → t < get_or keys (suc start) 0) where
    same : t ≡ tail_number leaves words ready u hu
    same = tail_is leaves words ready u hu t (tail_is_t ∙ ap (λ (x : ℕ). (x * 2 ^ 8) % 2 ^ 64) (keyed u hu))

    -- the last leaf at most the tail is the lowest that fits
    start_lowest : start ≡ lowest_fit c u
    start_lowest = le_antisymm at_most at_least
      where
        at_most : start ≤ lowest_fit c u
        at_most =
            elim (dec_lt (lowest_fit c u) start) [
              | yes below ↦ absurd (none_below leaves words ready u hu start (lowest_fit c u) inside (omega (arith, same, keyed start inside, low (omega arith))) below (run_first c m code is.ordered u hu))
              | no above ↦ omega arith
            ]

        at_least : lowest_fit c u ≤ start
        at_least =
            elim (dec_lt start (lowest_fit c u)) [
              | yes above ↦ absurd (omega (arith, same, lowest_low, next (omega (arith, there)), keyed (suc start) (omega (arith, there)), rises leaves words ready (suc start) (lowest_fit c u) (omega arith) there))
              | no below ↦ omega arith
            ]

    module _ (behind : ℕ) (rest : behind + 1 ≡ 256 ^ (8 - pred (word_length leaves u))) (end : ℕ) (low_end : start ≤ end) (high_end : end ≤ leaf_count leaves) (before : (k : ℕ) → start < k → suc k ≡ end → get_or keys k 0 ≤ bit_or t behind) (above : end < leaf_count leaves → bit_or t behind < get_or keys end 0) where
      last : bit_or t behind + 1 ≡ tail_number leaves words ready u hu + 256 ^ (8 - pred (word_length leaves u))
      last =
          ap (λ (x : ℕ). bit_or x behind + 1) same ∙ last_number (tail c u) (pred (word_length leaves u)) behind rest

      fits_in : (l : ℕ) → start ≤ l → l < end → Fits c u l
      fits_in l from upto =
          elim (dec_lt start l) [
            | yes later ↦
                let top : suc (pred end) ≡ end = omega arith in
                let key_next = keyed (suc start) (omega arith) in
                let key_top = keyed (pred end) (omega arith) in
                let rise = rises leaves words ready (suc start) l (omega arith) (omega arith) in
                let rise_on = rises leaves words ready l (pred end) (omega arith) (omega arith) in
                neither_lower 256 (omega arith) (tail c u) (c.digit l) (pred (word_length leaves u)) (word_length leaves l) (omega (arith, ready.short u hu)) (ready.short l (omega arith)) (tail_bytes leaves words ready u hu _) (bytes leaves words ready l _)
                (omega (arith, same, next (omega arith), key_next, rise, unit_some 256 (omega arith) (word_length leaves l)))
                (omega (arith, last, before (pred end) (omega arith) top, key_top, rise_on))
            | no here ↦ let e : lowest_fit c u ≡ l = le_antisymm (omega (arith, start_lowest)) (omega (arith, start_lowest)) in subst (Fits c u) e (run_first c m code is.ordered u hu)
          ]

      -- so many lower leaves fit as there are places from the one to the other
      pub run_exact : lower_count c u ≡ end - start
      run_exact =
          run_count c u start end low_end high_end fits_in (run_within leaves words ready u hu keys keyed t behind start end tail_is_t rest inside low above)

  -- a leaf fits alone where the next one is above all that begin with the tail
  pub alone_exact : (keys : List ℕ) → Keyed leaves words keys (leaf_count leaves) → (t : ℕ) → t ≡ (get_or keys u 0 * 2 ^ 8) % 2 ^ 64 → (start : ℕ) → start + 1 < leaf_count leaves → (0 < start → get_or keys start 0 ≤ t)
      → (behind : ℕ) → behind + 1 ≡ 256 ^ (8 - pred (word_length leaves u)) → bit_or t behind < get_or keys (start + 1) 0 → lower_count c u ≡ 1
  alone_exact keys keyed t is_tail start there low behind rest above =
      let at : start + 1 ≡ suc start = omega arith in
      let same : t ≡ tail_number leaves words ready u hu = tail_is leaves words ready u hu t (is_tail ∙ ap (λ (x : ℕ). (x * 2 ^ 8) % 2 ^ 64) (keyed u hu)) in
      let last = ap (λ (x : ℕ). bit_or x behind + 1) same ∙ last_number (tail c u) (pred (word_length leaves u)) behind rest in
      let next : t < get_or keys (suc start) 0 = subst (λ (k : ℕ). t < get_or keys k 0) at (omega (arith, same, last, above, unit_some 256 (omega arith) (pred (word_length leaves u)))) in
      run_exact keys keyed t is_tail start (omega arith) low (λ h. next) behind rest (start + 1) (omega arith) (omega arith) (λ k l e. absurd (omega arith)) (λ h. above) ∙ one_more start
    where
      one_more : (k : ℕ) → k + 1 - k ≡ 1
      one_more k = omega arith
