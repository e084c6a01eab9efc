-- The quick look in front of the scans: what a yes says.
use mathlib.Core.Path.{◌≡◌, refl, sym, ap, ap₂, subst, ◌∙◌}
use mathlib.Core.Bool.{Bool, true, false}
use mathlib.Core.List.{List}
use Prim.Native.Nat.{ℕ, suc, ◌+◌, ◌-◌, ◌*◌, ◌^◌, ◌<◌, ◌≤◌}
use native.Mathlib.Decide.{ℕ_discrete, dec_lt}
use native.Mathlib.Nat.{zero-add, pow-suc, pow-le-pow_left, pow-le-pow_right, mul-le-mul}
use native.Mathlib.Numerals.{add-one}
use native.Mathlib.Omega.{arith}
use lib.ListN.{length, get_or}
use borrow.Author.Tests.{lt-ltb, le-ltb, le-leb, eq-eqb}
use Rattle.layout_rules.specs.Section.{Section}
use Rattle.lists.proofs.Scan.{scan_all}
use Rattle.faults.specs.declared.Refusal.{Refusal}
use Rattle.faults.proofs.Check.{judge_kept, once_kept, then_next}
use lib.IntN.{ℤ}
use Rattle.numeration.specs.Code.{Code, Precedes}
use Rattle.leaf_rules.specs.Leaf.{leaf_count, word_start, word_length, word_end, code_of}
use Rattle.prefix_rules.specs.Coverage.{covered}
use Rattle.prefix_rules.specs.Check.{expected_word_start, leaf_allowed, place_check, word_index_allowed, word_index_check, order_allowed, order_check, cover_check, zero_check, leaf_check}
use Rattle.radix.specs.Number.{number, aligned}
use Rattle.radix.proofs.Order.{aligned_high}
use Rattle.prefix_code.specs.Numbers.{sum, word_number_of, floor_of, strings_of, Numbered}
use Rattle.prefix_code.specs.Kept.{CodeKept}
use Rattle.prefix_rules.proofs.Place.{Placed, leaf_says}
use Rattle.prefix_rules.proofs.Broken.{order_holds}
use Rattle.prefix_rules.proofs.Strings.{covered_complete}
use Rattle.prefix_code.proofs.Numbers.{sum_suc, some_leaf, in_order, has_leaf}

-- a statement about the numbers below i, and about i
pub one_more : (P : ℕ → Type 0) (i : ℕ) → ((k : ℕ) → k < i → P k) → P i → (k : ℕ) → k < i + 1 → P k
one_more P i so_far here k h = elim (ℕ_discrete k i) [ yes e ↦ subst P (sym e) here | no e ↦ so_far k (omega arith) ]

-- a leaf that lies where it must, the last one's end apart
pub record Near (leaves : Section) (n k : ℕ) : Type 0 where
  pub some : 1 ≤ word_length leaves k
  pub short : word_length leaves k ≤ 8
  pub follows : word_start leaves k ≡ expected_word_start leaves k
  pub inside : word_end leaves k ≤ n

placed_allowed : (leaves : Section) (n k : ℕ) → Placed leaves n k → leaf_allowed leaves n k ≡ true
unfolding leaf_allowed
placed_allowed leaves n k p =
    elim (dec_lt (k + 1) (leaf_count leaves)) [
      | yes h ↦ rw (le-leb _ _ p.some, le-leb _ _ p.short, eq-eqb _ _ p.follows, le-leb _ _ p.inside, lt-ltb _ _ h)
      | no h ↦ rw (le-leb _ _ p.some, le-leb _ _ p.short, eq-eqb _ _ p.follows, le-leb _ _ p.inside, le-ltb (k + 1) (leaf_count leaves) (omega arith), eq-eqb _ _ (p.last (omega arith)))
    ]

-- the end of a word is where the next one must start
pub end_expected : (leaves : Section) (k end : ℕ) → end ≡ word_end leaves k → end ≡ expected_word_start leaves (k + 1)
unfolding expected_word_start
end_expected leaves k end e = e ∙ ap (expected_word_start leaves) (sym (add-one k))

pub near_allowed : (leaves : Section) (n count end : ℕ) → count ≡ leaf_count leaves → ((k : ℕ) → k < count → Near leaves n k) → end ≡ expected_word_start leaves count → end ≡ n
    → (k : ℕ) → k < leaf_count leaves → leaf_allowed leaves n k ≡ true
near_allowed leaves n count end all near e whole k h =
    let p = near k (omega arith) in
    let last : leaf_count leaves ≤ k + 1 → word_end leaves k ≡ n = λ l. let c : k + 1 ≡ count = omega arith in end_expected leaves k (word_end leaves k) refl ∙ ap (expected_word_start leaves) c ∙ sym e ∙ whole in
    placed_allowed leaves n k (record { some = p.some; short = p.short; follows = p.follows; inside = p.inside; last = last })

-- the leaves below a number, as far as the quick look keeps them: where the next must start, what its number must reach, and how many
-- strings of eight they begin
pub record SoFar (leaves : Section) (words : List ℕ) (m leaf end floor strings : ℕ) : Type 0 where
  pub within : leaf ≤ leaf_count leaves
  pub ends : end ≡ expected_word_start leaves leaf
  pub near : (k : ℕ) → k < leaf → Near leaves (length words) k
  pub floors : floor ≡ floor_of (code_of leaves words) leaf
  pub rising : (k : ℕ) → k < leaf → floor_of (code_of leaves words) k ≤ word_number_of (code_of leaves words) k
  pub counted : strings ≡ sum (strings_of (code_of leaves words) m) leaf
  pub small : strings ≤ leaf * 860542568759296

pub so_far_first : (leaves : Section) (words : List ℕ) (m : ℕ) → SoFar leaves words m 0 0 0 0
unfolding expected_word_start floor_of sum
so_far_first leaves words m =
    record { within = omega arith; ends = refl; near = λ k h. absurd (nothing k h); floors = refl; rising = λ k h. absurd (nothing k h); counted = refl; small = omega arith }
  where
    nothing : (k : ℕ) → k < 0 → ⊥
    nothing k h = omega arith

-- a word of 1 to 8 digits begins at most 136 to the 7 strings
pub share_small : (m n share : ℕ) → m ≤ 136 → 1 ≤ n → share ≡ m ^ (8 - n) → share ≤ 860542568759296
share_small m n share h l e =
    let a : m ^ (8 - n) ≤ 136 ^ (8 - n) = pow-le-pow_left h (8 - n) in
    let b : 136 ^ (8 - n) ≤ 136 ^ 7 = pow-le-pow_right (omega arith) {i = 8 - n} {j = 7} (omega arith) in
    omega arith

pub strings_room : (m share : ℕ) → m ≤ 136 → share ≡ m ^ (8 - 1) → share * m < 18446744073709551616
strings_room m share h e =
    let a : share * m ≤ 860542568759296 * 136 = mul-le-mul (share_small m 1 share h (omega arith) e) h in
    omega arith

pub strings_all : (m share strings : ℕ) → share ≡ m ^ (8 - 1) → strings ≡ share * m → strings ≡ m ^ 8
strings_all m share strings e s = s ∙ ap (λ (x : ℕ). x * m) e ∙ sym (pow-suc m 7)

floor_next : {A : Type 0} (c : Code A) (k : ℕ) → word_number_of c k + 256 ^ (8 - c.size k) ≡ floor_of c (k + 1)
unfolding floor_of
floor_next c k = ap (floor_of c) (sym (add-one k))

first_digit : (w : ℕ → ℕ) → aligned 256 w 1 ≡ w 0 * 72057594037927936
unfolding aligned number
first_digit w = omega arith

-- one leaf more
module _ (leaves : Section) (words : List ℕ) (m leaf end floor strings start size number unit share : ℕ) (so_far : SoFar leaves words m leaf end floor strings) (h : leaf < leaf_count leaves)
    (starts : start ≡ word_start leaves leaf) (sizes : size ≡ word_length leaves leaf) (lies : (start ≡ end) × (1 ≤ size) × (size ≤ 8) × (start + size ≤ length words))
    (numbers : number ≡ aligned 256 (λ i. get_or words (start + i) 0) size) (units : unit ≡ 256 ^ (8 - size)) (shares : share ≡ m ^ (8 - size)) (few : m ≤ 136) where
  same_number : number ≡ word_number_of (code_of leaves words) leaf
  same_number = numbers ∙ ap₂ (λ (s n : ℕ). aligned 256 (λ i. get_or words (s + i) 0) n) starts sizes

  -- a byte is below 255, so that the next floor is a 64-bit number
  pub floor_room : ((k : ℕ) → k < length words → get_or words k 0 < m) → number + unit < 18446744073709551616
  floor_room digits =
      let w : ℕ → ℕ = λ i. get_or words (start + i) 0 in
      omega (arith, numbers, units, lies.1, digits (start + 0) (omega arith), first_digit w, aligned_high 256 w 1 size lies.1 lies.2 (λ i l. omega (arith, digits (start + i) (omega arith))))

  pub so_far_next : floor ≤ number → SoFar leaves words m (leaf + 1) (start + size) (number + unit) (strings + share)
  so_far_next rises =
      record {
        within = omega arith;
        ends = end_expected leaves leaf (start + size) (ap₂ (λ (s n : ℕ). s + n) starts sizes);
        near = one_more (Near leaves (length words)) leaf so_far.near
            (record { some = omega (arith, sizes, lies.1); short = omega (arith, sizes, lies.2); follows = sym starts ∙ lies.0 ∙ so_far.ends; inside = omega (arith, starts, sizes, lies.3) });
        floors = ap₂ (λ (x y : ℕ). x + y) same_number (units ∙ ap (λ (n : ℕ). 256 ^ (8 - n)) sizes) ∙ floor_next (code_of leaves words) leaf;
        rising = one_more (λ (k : ℕ). floor_of (code_of leaves words) k ≤ word_number_of (code_of leaves words) k) leaf so_far.rising (omega (arith, so_far.floors, same_number));
        counted = ap₂ (λ (x y : ℕ). x + y) so_far.counted (shares ∙ ap (λ (n : ℕ). m ^ (8 - n)) sizes) ∙ sym (sum_suc (strings_of (code_of leaves words) m) leaf) ∙ ap (sum (strings_of (code_of leaves words) m)) (sym (add-one leaf));
        small = omega (arith, so_far.small, share_small m size share few lies.1 shares);
      }

-- all leaves
pub all_kept : (leaves : Section) (words : List ℕ) (m leaf end floor strings : ℕ) → SoFar leaves words m leaf end floor strings → leaf_count leaves ≤ leaf → end ≡ length words → strings ≡ m ^ 8
    → ((k : ℕ) → k < leaf_count leaves → leaf_allowed leaves (length words) k ≡ true) × Numbered (code_of leaves words) m
all_kept leaves words m leaf end floor strings is h whole all =
    let e : leaf ≡ leaf_count leaves = omega (arith, is.within) in (
      near_allowed leaves (length words) leaf end e is.near is.ends whole,
      record { rising = λ k l. is.rising k (omega arith); whole = ap (sum (strings_of (code_of leaves words) m)) (sym e) ∙ sym is.counted ∙ all },
    )

-- leaves that lie one after the other
module _ (leaves : Section) (words : List ℕ) (placed : (k : ℕ) → k < leaf_count leaves → leaf_allowed leaves (length words) k ≡ true) where
  pub is_placed : (k : ℕ) → k < leaf_count leaves → Placed leaves (length words) k
  is_placed k h = leaf_says leaves (length words) k (placed k h)

-- rules 9 to 12 from the quick look
pub code_kept : (leaves : Section) (words : List ℕ) (m : ℕ) → 0 < m → m ≤ 136 → ((k : ℕ) → k < leaf_count leaves → leaf_allowed leaves (length words) k ≡ true)
    → ((k : ℕ) → k < length words → get_or words k 0 < m) → Numbered (code_of leaves words) m → CodeKept leaves words m
unfolding place_check word_index_check order_check cover_check
code_kept leaves words m input few placed inputs is =
    record {
      some = some_leaf (code_of leaves words) m input is;
      nine = ap number (judge_kept 9 (λ k. k) (leaf_allowed leaves (length words)) (leaf_count leaves) (leaf_count leaves) (sym (scan_all _ 0 (leaf_count leaves) (λ k l h. placed k (omega arith)) ∙ zero-add _)) (omega arith));
      ten = ap number (judge_kept 10 (λ i. i) (word_index_allowed words m) (length words) (length words) (sym (scan_all _ 0 (length words) (λ k l h. lt-ltb _ _ (inputs k (omega arith))) ∙ zero-add _)) (omega arith));
      eleven = ap number (judge_kept 11 (λ k. k + 1) (order_allowed leaves words) (leaf_count leaves - 1) (leaf_count leaves - 1) (sym (scan_all _ 0 (leaf_count leaves - 1) (λ k l h. order_holds leaves words k (order k (omega arith))) ∙ zero-add _)) (omega arith));
      twelve = ap number (once_kept 12 (λ k. k) _ (all (covered c m 8 0 0 (leaf_count leaves)) refl));
    }
  where
    number : Refusal → ℕ
    number r = r.number

    c : Code (List ℤ)
    c = code_of leaves words

    short : (k : ℕ) → k < leaf_count leaves → word_length leaves k ≤ 8
    short k h = (is_placed leaves words placed k h).short

    digits : (k i : ℕ) → k < leaf_count leaves → i < word_length leaves k → (code_of leaves words).digit k i < m
    digits k i h l = inputs (word_start leaves k + i) (omega (arith, (is_placed leaves words placed k h).inside))

    order : (k : ℕ) → suc k < leaf_count leaves → Precedes (code_of leaves words) k (suc k)
    order = in_order (code_of leaves words) m input (omega arith) short digits is

    all : (b : Bool) → covered (code_of leaves words) m 8 0 0 (leaf_count leaves) ≡ b → b ≡ true
    all true e = refl
    all false e =
        let (w, below, none) = covered_complete (code_of leaves words) m order short input e in
        absurd (none (has_leaf (code_of leaves words) m input (omega arith) short digits is w below))

-- and then rule 13 is what is left
pub kept_last : (leaves : Section) (words : List ℕ) (m : ℕ) → CodeKept leaves words m → zero_check leaves ≡ leaf_check leaves words m
unfolding leaf_check
kept_last leaves words m k =
    sym (then_next _ _ k.nine ∙ then_next _ _ k.ten ∙ then_next _ _ k.eleven ∙ then_next _ _ k.twelve)
