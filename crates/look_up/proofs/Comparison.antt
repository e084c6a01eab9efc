-- Laws of the comparison of strings, for the functions that run rule 11 and the look-up.
use mathlib.Core.Path.{◌≡◌, refl, sym, ap, ap₂, subst, ◌∙◌}
use mathlib.Core.Bool.{Bool, true, false}
use mathlib.Core.List.{List}
use Prim.Native.Nat.{ℕ, ◌+◌, ◌<◌, ◌≤◌, min}
use native.Mathlib.Decide.{dec_lt}
use native.Mathlib.Nat.{zero-add, pow-zero}
use native.Mathlib.Omega.{arith}
use lib.ListN.{get_or}
use lib.Dec.{eqb, ltb}
use borrow.Author.Tests.{lt-ltb, le-ltb, eqb-true}
use Rattle.layout_rules.specs.Section.{Section}
use Rattle.lists.specs.Scan.{first_failing}
use Rattle.lists.proofs.Scan.{scan_passed}
use Rattle.numeration.specs.Code.{Lower, Begins}
use Rattle.numeration.specs.Prefix.{lower, precedes}
use Rattle.numeration.proofs.Agreement.{lower_sound, lower_complete}
use Rattle.radix.specs.Number.{number, aligned, Digits}
use Rattle.radix.proofs.Order.{aligned_eight, unit_some, aligned_lower, lower_aligned}
use Rattle.leaf_rules.specs.Leaf.{word_start, word_length, code_of}
use Rattle.leaf_rules.specs.Window.{digits}
use Rattle.look_up.specs.Search.{above}

-- two strings whose first difference was found
module _ (v w : ℕ → ℕ) (n i : ℕ) (first : i ≡ first_failing (λ i. eqb (v i) (w i)) 0 n) where
  pub lower_differs : i < n → (x y : ℕ) → x ≡ v i → y ≡ w i → ltb x y ≡ lower v w n
  unfolding lower
  lower_differs h x y ex ey = rw (← first, lt-ltb i n h, ex, ey)

  pub lower_same : n ≤ i → false ≡ lower v w n
  unfolding lower
  lower_same h = rw (← first, le-ltb i n h)

-- the words of two leaves, and a window with the word of one, by their places as they were read
pub words_read : (leaves : Section) (words : List ℕ) (k l a b n : ℕ) → a ≡ word_start leaves k → b ≡ word_start leaves l → n ≡ min (word_length leaves k) (word_length leaves l)
    → lower (λ i. get_or words (a + i) 0) (λ i. get_or words (b + i) 0) n ≡ precedes (code_of leaves words) k l
unfolding precedes
words_read leaves words k l a b n starts others reach = rw (starts, others, reach)

pub window_read : (leaves : Section) (words window : List ℕ) (k start n : ℕ) → start ≡ word_start leaves k → n ≡ min (word_length leaves k) 8
    → lower (λ i. get_or window (0 + i) 0) (λ i. get_or words (start + i) 0) n ≡ above (code_of leaves words) window k
unfolding above
window_read leaves words window k start n starts reach = rw (starts, reach) (simp zero-add)

-- a string of eight digits below another's first n, by their numbers
module _ (v w : ℕ → ℕ) (n : ℕ) (short : n ≤ 8) (dv : Digits 256 v 8) (dw : Digits 256 w n) where
  not_lower : aligned 256 w n ≤ number 256 v 8 → (b : Bool) → lower v w (min n 8) ≡ b → b ≡ false
  not_lower h false e = refl
  not_lower h true e =
      let same : min n 8 ≡ min 8 n = omega arith in
      absurd (omega (arith, lower_aligned 256 (omega arith) v w 8 n (omega arith) short dv dw (subst (Lower v w) same (lower_sound v w (min n 8) e)), aligned_eight 256 v, unit_some 256 (omega arith) 8))

  numbers_lower : ltb (number 256 v 8) (aligned 256 w n) ≡ lower v w (min n 8)
  numbers_lower =
      elim (dec_lt (number 256 v 8) (aligned 256 w n)) [
        | yes h ↦ let same : min 8 n ≡ min n 8 = omega arith in
            lt-ltb _ _ h ∙ sym (lower_complete v w (min n 8) (subst (Lower v w) same (aligned_lower 256 (omega arith) v w 8 n (omega arith) short dv dw (omega (arith, aligned_eight 256 v, pow-zero 256)))))
        | no h ↦ le-ltb (number 256 v 8) (aligned 256 w n) (omega arith) ∙ sym (not_lower (omega arith) _ refl)
      ]

pub numbers_read : (leaves : Section) (words window : List ℕ) (k start n x y : ℕ) → start ≡ word_start leaves k → n ≡ word_length leaves k → n ≤ 8 → ((i : ℕ) → get_or window i 0 < 256) → ((i : ℕ) → get_or words i 0 < 256)
    → x ≡ number 256 (λ i. get_or window (0 + i) 0) 8 → y ≡ aligned 256 (λ i. get_or words (start + i) 0) n → ltb x y ≡ above (code_of leaves words) window k
numbers_read leaves words window k start n x y starts long short bytes others wx wy =
    ap₂ ltb wx wy ∙ numbers_lower (λ i. get_or window (0 + i) 0) (λ i. get_or words (start + i) 0) n short (λ i _. bytes (0 + i)) (λ i _. others (start + i))
    ∙ window_read leaves words window k start (min n 8) starts (ap (λ (l : ℕ). min l 8) long)

-- a word that differs from the window nowhere begins it
pub begins_read : (leaves : Section) (words window : List ℕ) (k start n i : ℕ) → start ≡ word_start leaves k → n ≡ word_length leaves k → i ≡ first_failing (λ j. eqb (get_or words (start + j) 0) (get_or window (0 + j) 0)) 0 n → n ≤ i
    → Begins (code_of leaves words) k (digits window)
begins_read leaves words window k start n i starts long first h j l =
    ap (λ (a : ℕ). get_or words (a + j) 0) (sym starts) ∙ eqb-true _ _ (scan_passed (λ j. eqb (get_or words (start + j) 0) (get_or window (0 + j) 0)) 0 n j (omega arith) (omega arith)) ∙ ap (digits window) (zero-add j)
