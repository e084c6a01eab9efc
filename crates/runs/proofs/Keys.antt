-- Words as numbers: which lower leaves may fit an upper one.
use mathlib.Core.Path.{◌≡◌, refl, sym, ap, subst, ◌∙◌}
use mathlib.Core.List.{List}
use Prim.Native.Nat.{ℕ, suc, ◌+◌, ◌-◌, ◌*◌, ◌/◌, ◌%◌, ◌^◌, ◌<◌, ◌≤◌, pred}
use native.Mathlib.Omega.{arith}
use native.Mathlib.Decide.{dec_lt}
use native.Mathlib.Nat.{add-mul, mul_assoc, one-le-pow, mul-lt-mul_of_pos_right}
use lib.ListN.{get_or}
use lib.Dec.{eqb}
use borrow.Author.Tests.{eqb-true}
use Rattle.layout_rules.specs.Section.{Section}
use Rattle.lists.specs.Scan.{first_failing, every}
use Rattle.lists.proofs.Scan.{every_sound}
use lib.Pow.{pow-add}
use lib.Bits.{bit_or, or_shifted}
use Rattle.radix.specs.Number.{number, aligned, Digits}
use Rattle.radix.proofs.Order.{number_zero, number_suc, number_lt, number_split, agree_number, aligned_low, aligned_high, aligned_lower, lower_aligned}
use Rattle.word_numbers.proofs.Shift.{shifted, eight_bits}
use Rattle.numeration.specs.Code.{Agree, Lower}
use Rattle.numeration.specs.Pairs.{tail, Fits}
use Rattle.numeration.proofs.Leaves.{precedes_all}
use Rattle.leaf_rules.specs.Leaf.{leaf_count, word_length, code_of}
use Rattle.prefix_rules.specs.Formed.{LeavesFormed}
use Rattle.runs.specs.Words.{WordsOrdered, word_number, Keyed}

-- all that eight bytes have behind the first k, at most
pub behind_is : (k : ℕ) → k < 8 → 18446744073709551615 / 2 ^ (8 * k) + 1 ≡ 256 ^ (8 - k)
unfolding every first_failing
behind_is k h =
    eqb-true _ _ (every_sound (λ k. eqb (18446744073709551615 / 2 ^ (8 * k) + 1) (256 ^ (8 - k))) 0 8 refl k (omega arith) (omega arith))

-- the tail's number: the word's without its first byte
tail_split : (w : ℕ → ℕ) (k : ℕ) → k < 8 → aligned 256 w (suc k) ≡ number 256 w 1 * 256 ^ 7 + number 256 (λ i. w (1 + i)) k * 256 ^ (7 - k)
unfolding aligned
tail_split w k h =
    let e : 1 + k ≡ suc k = omega arith in
    let f : 8 - suc k ≡ 7 - k = omega arith in
    let g : k + (7 - k) ≡ 7 = omega arith in
    ap (λ (x : ℕ). number 256 w (suc k) * 256 ^ x) f
    ∙ ap (λ (x : ℕ). x * 256 ^ (7 - k)) (ap (number 256 w) (sym e) ∙ number_split 256 w 1 k) ∙ add-mul _ _ _
    ∙ ap (λ (x : ℕ). x + number 256 (λ i. w (1 + i)) k * 256 ^ (7 - k)) (mul_assoc _ _ _ ∙ ap (λ (x : ℕ). number 256 w 1 * x) (sym (pow-add 256 k (7 - k)) ∙ ap (λ (x : ℕ). 256 ^ x) g))

pub tail_number_lem : (w : ℕ → ℕ) (k : ℕ) → k < 8 → Digits 256 w (suc k) → (aligned 256 w (suc k) * 2 ^ 8) % 2 ^ 64 ≡ aligned 256 (λ i. w (suc i)) k
unfolding aligned
tail_number_lem w k h digits =
    let rest : ℕ = number 256 (λ i. w (1 + i)) k in
    let small : rest * 256 ^ (7 - k) < 256 ^ 7 = subst (λ (x : ℕ). rest * 256 ^ (7 - k) < x) (sym (pow-add 256 k (7 - k)) ∙ ap (λ (x : ℕ). 256 ^ x) sum) (mul-lt-mul_of_pos_right (number_lt 256 (λ i. w (1 + i)) k (λ i l. digits (1 + i) (omega arith))) (one-le-pow (7 - k) 256 (omega arith))) in
    ap (λ (x : ℕ). (x * 2 ^ 8) % 2 ^ 64) (tail_split w k h) ∙ shifted _ _ 7 (omega arith) small
    ∙ mul_assoc rest _ _ ∙ ap (λ (x : ℕ). rest * x) (sym (pow-add 256 (7 - k) 1) ∙ ap (λ (x : ℕ). 256 ^ x) more)
    ∙ ap (λ (x : ℕ). x * 256 ^ (8 - k)) (agree_number 256 (λ i. w (1 + i)) (λ i. w (suc i)) k (λ i l. ap w (one_more i)))
  where
    sum : k + (7 - k) ≡ 7
    sum = omega arith

    more : 7 - k + 1 ≡ 8 - k
    more = omega arith

    one_more : (i : ℕ) → 1 + i ≡ suc i
    one_more i = omega arith

-- the highest number that begins with k digits
pub last_number : (w : ℕ → ℕ) (k behind : ℕ) → behind + 1 ≡ 256 ^ (8 - k) → bit_or (aligned 256 w k) behind + 1 ≡ aligned 256 w k + 256 ^ (8 - k)
unfolding aligned
last_number w k behind e =
    let bits : 256 ^ (8 - k) ≡ 2 ^ (8 * (8 - k)) = sym (eight_bits (8 - k)) in
    let joined : bit_or (number 256 w k * 256 ^ (8 - k)) behind ≡ number 256 w k * 256 ^ (8 - k) + behind =
    ap (λ (x : ℕ). bit_or (number 256 w k * x) behind) bits ∙ or_shifted (number 256 w k) (8 * (8 - k)) behind (omega arith) ∙ ap (λ (x : ℕ). number 256 w k * x + behind) (sym bits) in
    omega arith

-- the first digit stands above all that seven others can make
alone : (w : ℕ → ℕ) → aligned 256 w 1 ≡ w 0 * 72057594037927936
unfolding aligned
alone w = ap (λ (x : ℕ). x * 72057594037927936) (omega (arith, number_suc 256 w 0, number_zero 256 w))

first_of : (w : ℕ → ℕ) (n : ℕ) → 1 ≤ n → n ≤ 8 → Digits 256 w n → aligned 256 w n / 72057594037927936 ≡ w 0
first_of w n some short digits = omega (arith, alone w, aligned_low 256 w 1 n some short, aligned_high 256 w 1 n some short digits, one-le-pow (8 - n) 256 (omega arith))

module _ (leaves : Section) (words : List ℕ) (ready : WordsOrdered leaves words) where
  abbrev N : ℕ
  N = leaf_count leaves

  pub bytes : (k n : ℕ) → Digits 256 ((code_of leaves words).digit k) n
  bytes k n i h = ready.bytes _

  pub first_digit : (k : ℕ) → k < N → word_number leaves words k / 72057594037927936 ≡ (code_of leaves words).digit k 0
  first_digit k h = first_of ((code_of leaves words).digit k) (word_length leaves k) (ready.some k h) (ready.short k h) (bytes k _)

  -- words rise, and so do their numbers
  rising : (k l : ℕ) → k < l → l < N → word_number leaves words k + 256 ^ (8 - word_length leaves k) ≤ word_number leaves words l
  rising k l h there =
      lower_aligned 256 (omega arith) _ _ _ _ (ready.short k (omega arith)) (ready.short l there) (bytes k _) (bytes l _) (precedes_all (code_of leaves words) ready.ordered k l h there)

  pub rises : (k l : ℕ) → k ≤ l → l < N → word_number leaves words k ≤ word_number leaves words l
  rises k l h there =
      elim (dec_lt k l) [
        | yes less ↦ omega (arith, rising k l less there)
        | no same ↦ let e : k ≡ l = omega arith in omega (arith, ap (word_number leaves words) e)
      ]

  module _ (u : ℕ) (hu : u < N) where
    abbrev pub tail_number : ℕ
    tail_number = aligned 256 (tail (code_of leaves words) u) (pred (word_length leaves u))

    pub tail_bytes : (n : ℕ) → Digits 256 (tail (code_of leaves words) u) n
    unfolding tail
    tail_bytes n i h = ready.bytes _

    apart : (v w : ℕ → ℕ) (n : ℕ) → Lower v w n → Agree v w n → ⊥
    apart v w n (i, h, same, less) agree = omega (arith, agree i h)

    -- below a leaf whose number is at most the tail's none fits
    pub none_below : (start l : ℕ) → start < N → word_number leaves words start ≤ tail_number → l < start → Fits (code_of leaves words) u l → ⊥
    none_below start l there low h fit =
        apart _ _ _
        (aligned_lower 256 (omega arith) _ (tail (code_of leaves words) u) (word_length leaves l) (pred (word_length leaves u)) (ready.short l (omega arith)) (omega (arith, ready.short u hu)) (bytes l _) (tail_bytes _) (omega (arith, rising l start h there)))
        (λ i k. sym (fit i (omega arith)))

    -- nor from a leaf on whose number is past the tail's last
    pub none_behind : (end l : ℕ) → tail_number + 256 ^ (8 - pred (word_length leaves u)) ≤ word_number leaves words end → end ≤ l → l < N → Fits (code_of leaves words) u l → ⊥
    none_behind end l past h there fit =
        apart _ _ _
        (aligned_lower 256 (omega arith) (tail (code_of leaves words) u) _ (pred (word_length leaves u)) (word_length leaves l) (omega (arith, ready.short u hu)) (ready.short l there) (tail_bytes _) (bytes l _) (omega (arith, rises end l h there)))
        fit

    pub tail_is : (t : ℕ) → t ≡ (word_number leaves words u * 2 ^ 8) % 2 ^ 64 → t ≡ tail_number
    unfolding tail
    tail_is t e =
        let long : word_length leaves u ≡ suc (pred (word_length leaves u)) = omega (arith, ready.some u hu) in
        e ∙ ap (λ (n : ℕ). (aligned 256 ((code_of leaves words).digit u) n * 2 ^ 8) % 2 ^ 64) long ∙ tail_number_lem ((code_of leaves words).digit u) (pred (word_length leaves u)) (omega (arith, ready.short u hu)) (bytes u _)

    -- a run that starts early enough and ends late enough has all leaves that fit
    pub run_within : (keys : List ℕ) → Keyed leaves words keys N
        → (t behind start end : ℕ) → t ≡ (get_or keys u 0 * 2 ^ 8) % 2 ^ 64 → behind + 1 ≡ 256 ^ (8 - pred (word_length leaves u))
        → start < N → (0 < start → get_or keys start 0 ≤ t) → (end < N → bit_or t behind < get_or keys end 0)
        → (l : ℕ) → l < N → Fits (code_of leaves words) u l → (start ≤ l) × (l < end)
    run_within keys keyed t behind start end is rest inside early late l there fit =
        let same : t ≡ tail_number = tail_is t (is ∙ ap (λ (x : ℕ). (x * 2 ^ 8) % 2 ^ 64) (keyed u hu)) in
        elim (dec_lt l start) [
          | yes low ↦ absurd (none_below start l inside (omega (arith, same, keyed start inside, early (omega arith))) low fit)
          | no from ↦ elim (dec_lt l end) [
            | yes upto ↦ (omega arith, upto)
            | no past ↦
                let there_too : end < N = omega arith in
                absurd (none_behind end l (omega (arith, last_number (tail (code_of leaves words) u) (pred (word_length leaves u)) behind rest, ap (λ (x : ℕ). bit_or x behind) same, late there_too, keyed end there_too)) (omega arith) there fit)
          ]
        ]

pub ready_words : (leaves : Section) (words : List ℕ) (m : ℕ) → LeavesFormed leaves words m → ((i : ℕ) → get_or words i 0 < 256) → WordsOrdered leaves words
ready_words leaves words m is bytes =
    record {
      some = is.some;
      short = is.short;
      inside = is.inside;
      ordered = is.ordered;
      bytes = bytes;
    }
