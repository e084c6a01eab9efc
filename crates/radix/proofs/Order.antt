-- Strings of digits and their numbers: the order of the strings is the order of the numbers, and the strings that begin alike are an
-- interval of numbers.
use mathlib.Core.Path.{◌≡◌, refl, sym, ap, ap₂, subst, ◌∙◌}
use Prim.Native.Nat.{ℕ, zero, suc, ◌+◌, ◌-◌, ◌*◌, ◌/◌, ◌%◌, ◌^◌, ◌<◌, ◌≤◌, min}
use native.Mathlib.Omega.{arith}
use native.Mathlib.Decide.{ℕ_discrete, dec_lt}
use native.Mathlib.Nat.{add-zero, add-suc, add_assoc, mul_assoc, mul-one, zero-mul, suc-mul, add-mul, pow-zero, pow-suc, one-le-pow, mul-le-mul_right, lt_of_mul-lt-mul_right}
use lib.Arith.{digits_lt, digits_div, digits_mod}
use lib.Pow.{pow-add}
use Rattle.numeration.specs.Code.{Agree, Lower}
use Rattle.radix.specs.Number.{number, aligned, Digits}

module _ (b : ℕ) where
  pub number_zero : (w : ℕ → ℕ) → number b w 0 ≡ 0
  unfolding number
  number_zero w = refl

  pub number_suc : (w : ℕ → ℕ) (n : ℕ) → number b w (suc n) ≡ number b w n * b + w n
  unfolding number
  number_suc w n = refl

  -- n digits are a number below the n-th power
  pub number_lt : (w : ℕ → ℕ) (n : ℕ) → Digits b w n → number b w n < b ^ n
  unfolding number
  number_lt w zero d = omega (arith, pow-zero b)
  number_lt w (suc n) d = rw pow-suc (digits_lt (number_lt w n (λ i h. d i (omega arith))) (d n (omega arith)))

  pub agree_number : (v w : ℕ → ℕ) (n : ℕ) → Agree v w n → number b v n ≡ number b w n
  unfolding number
  agree_number v w zero a = refl
  agree_number v w (suc n) a = ap₂ (λ (x y : ℕ). x * b + y) (agree_number v w n (λ i h. a i (omega arith))) (a n (omega arith))

  -- one place more
  agree_last : (v w : ℕ → ℕ) (n : ℕ) → Agree v w n → v n ≡ w n → Agree v w (suc n)
  agree_last v w n a e i h = elim (ℕ_discrete i n) [ yes q ↦ subst (λ (k : ℕ). v k ≡ w k) (sym q) e | no q ↦ a i (omega arith) ]

  pub number_agree : (v w : ℕ → ℕ) (n : ℕ) → Digits b v n → Digits b w n → number b v n ≡ number b w n → Agree v w n
  unfolding number
  number_agree v w zero d e s = λ i h. absurd (omega arith)
  number_agree v w (suc n) d e s =
      agree_last v w n (number_agree v w n (λ i h. d i (omega arith)) (λ i h. e i (omega arith)) high) low
    where
      high : number b v n ≡ number b w n
      high = sym (digits_div (number b v n) (d n (omega arith))) ∙ ap (λ (x : ℕ). x / b) s ∙ digits_div (number b w n) (e n (omega arith))

      low : v n ≡ w n
      low = sym (digits_mod (number b v n) (d n (omega arith))) ∙ ap (λ (x : ℕ). x % b) s ∙ digits_mod (number b w n) (e n (omega arith))

  -- a lower digit in front decides
  front : (p q r s : ℕ) → p < q → r < b → p * b + r < q * b + s
  front p q r s h l = let k : suc p * b ≤ q * b = mul-le-mul_right b h in let e : suc p * b ≡ p * b + b = suc-mul p b in omega arith

  pub lower_number : (v w : ℕ → ℕ) (n : ℕ) → Digits b v n → Lower v w n → number b v n < number b w n
  unfolding number
  lower_number v w zero d (i, h, a, l) = absurd (omega arith)
  lower_number v w (suc n) d (i, h, a, l) =
      elim (ℕ_discrete i n) [
        | yes q ↦ let e : number b v n ≡ number b w n = agree_number v w n (subst (λ (k : ℕ). Agree v w k) q a) in
            let f : v n < w n = subst (λ (k : ℕ). v k < w k) q l in
            omega (arith, ap (λ (x : ℕ). x * b) e)
        | no q ↦ front _ _ _ _ (lower_number v w n (λ j u. d j (omega arith)) (i, omega arith, a, l)) (d n (omega arith))
      ]

  pub number_lower : (v w : ℕ → ℕ) (n : ℕ) → Digits b v n → Digits b w n → number b v n < number b w n → Lower v w n
  unfolding number
  number_lower v w zero d e l = absurd (omega arith)
  number_lower v w (suc n) d e l =
      elim (dec_lt (number b v n) (number b w n)) [
        | yes p ↦ let (i, h, a, u) = number_lower v w n (λ j u. d j (omega arith)) (λ j u. e j (omega arith)) p in (i, omega arith, a, u)
        | no p ↦ elim (ℕ_discrete (number b v n) (number b w n)) [
          | yes q ↦ (n, omega arith, number_agree v w n (λ j u. d j (omega arith)) (λ j u. e j (omega arith)) q, omega (arith, ap (λ (x : ℕ). x * b) q))
          | no q ↦ absurd (omega (arith, front (number b w n) (number b v n) (w n) (v n) (omega arith) (e n (omega arith))))
        ]
      ]

  -- the first k digits, then j more
  pub number_split : (w : ℕ → ℕ) (k j : ℕ) → number b w (k + j) ≡ number b w k * b ^ j + number b (λ i. w (k + i)) j
  number_split w k zero =
      ap (number b w) (add-zero k) ∙ sym (mul-one _) ∙ sym (add-zero _)
      ∙ ap₂ (λ (x y : ℕ). number b w k * x + y) (sym (pow-zero b)) (sym (number_zero (λ i. w (k + i))))
  number_split w k (suc j) =
      ap (number b w) (add-suc k j) ∙ number_suc w (k + j) ∙ ap (λ (x : ℕ). x * b + w (k + j)) (number_split w k j)
      ∙ ap (λ (x : ℕ). x + w (k + j)) (add-mul _ _ b ∙ ap (λ (x : ℕ). x + number b (λ i. w (k + i)) j * b) (mul_assoc _ _ b ∙ ap (λ (x : ℕ). number b w k * x) (sym (pow-suc b j))))
      ∙ add_assoc _ _ _ ∙ ap (λ (x : ℕ). number b w k * b ^ suc j + x) (sym (number_suc (λ i. w (k + i)) j))

  -- numbers of eight digits
  unit_split : (k j : ℕ) → k + j ≤ 8 → b ^ (8 - k) ≡ b ^ j * b ^ (8 - (k + j))
  unit_split k j h = let e : 8 - k ≡ j + (8 - (k + j)) = omega arith in ap (λ (x : ℕ). b ^ x) e ∙ pow-add b j _

  aligned_split : (w : ℕ → ℕ) (k j : ℕ) → k + j ≤ 8 → aligned b w (k + j) ≡ aligned b w k + number b (λ i. w (k + i)) j * b ^ (8 - (k + j))
  unfolding aligned
  aligned_split w k j h =
      ap (λ (x : ℕ). x * b ^ (8 - (k + j))) (number_split w k j) ∙ add-mul _ _ _
      ∙ ap (λ (x : ℕ). x + number b (λ i. w (k + i)) j * b ^ (8 - (k + j))) (mul_assoc _ _ _ ∙ ap (λ (x : ℕ). number b w k * x) (sym (unit_split k j h)))

  split_high : (w : ℕ → ℕ) (k j : ℕ) → k + j ≤ 8 → Digits b w (k + j) → aligned b w (k + j) + b ^ (8 - (k + j)) ≤ aligned b w k + b ^ (8 - k)
  split_high w k j h d =
      let t : number b (λ i. w (k + i)) j < b ^ j = number_lt (λ i. w (k + i)) j (λ i u. d (k + i) (omega arith)) in
      omega (arith, mul-le-mul_right (b ^ (8 - (k + j))) t, suc-mul (number b (λ i. w (k + i)) j) (b ^ (8 - (k + j))), unit_split k j h, aligned_split w k j h)

  -- the numbers that begin with n digits are among those that begin with the first k of them
  pub aligned_low : (w : ℕ → ℕ) (k n : ℕ) → k ≤ n → n ≤ 8 → aligned b w k ≤ aligned b w n
  aligned_low w k n l h =
      let e : k + (n - k) ≡ n = omega arith in
      omega (arith, aligned_split w k (n - k) (omega arith), ap (aligned b w) e)

  pub aligned_high : (w : ℕ → ℕ) (k n : ℕ) → k ≤ n → n ≤ 8 → Digits b w n → aligned b w n + b ^ (8 - n) ≤ aligned b w k + b ^ (8 - k)
  aligned_high w k n l h d =
      let e : k + (n - k) ≡ n = omega arith in
      subst (λ (x : ℕ). aligned b w x + b ^ (8 - x) ≤ aligned b w k + b ^ (8 - k)) e (split_high w k (n - k) (omega arith) (λ i u. d i (omega arith)))

  -- zeros behind k digits
  number_zeros : (w : ℕ → ℕ) (n : ℕ) → ((i : ℕ) → i < n → w i ≡ 0) → number b w n ≡ 0
  unfolding number
  number_zeros w zero z = refl
  number_zeros w (suc n) z = ap₂ (λ (x y : ℕ). x * b + y) (number_zeros w n (λ i h. z i (omega arith))) (z n (omega arith)) ∙ add-zero (0 * b) ∙ zero-mul b

  pub aligned_zeros : (w : ℕ → ℕ) (k n : ℕ) → k ≤ n → n ≤ 8 → ((i : ℕ) → k ≤ i → i < n → w i ≡ 0) → aligned b w n ≡ aligned b w k
  aligned_zeros w k n l h z =
      let e : k + (n - k) ≡ n = omega arith in
      let none : number b (λ i. w (k + i)) (n - k) ≡ 0 = number_zeros (λ i. w (k + i)) (n - k) (λ i u. z (k + i) (omega arith) (omega arith)) in
      ap (aligned b w) (sym e) ∙ aligned_split w k (n - k) (omega arith) ∙ ap (λ (x : ℕ). aligned b w k + x * b ^ (8 - (k + (n - k)))) none ∙ ap (λ (x : ℕ). aligned b w k + x) (zero-mul (b ^ (8 - (k + (n - k))))) ∙ add-zero _

  pub aligned_eight : (w : ℕ → ℕ) → aligned b w 8 ≡ number b w 8
  unfolding aligned
  aligned_eight w = ap (λ (x : ℕ). number b w 8 * x) (pow-zero b) ∙ mul-one _

  pub aligned_agree : (v w : ℕ → ℕ) (n : ℕ) → Agree v w n → aligned b v n ≡ aligned b w n
  unfolding aligned
  aligned_agree v w n a = ap (λ (x : ℕ). x * b ^ (8 - n)) (agree_number v w n a)

  aligned_room : (v w : ℕ → ℕ) (n : ℕ) → number b v n < number b w n → aligned b v n + b ^ (8 - n) ≤ aligned b w n
  unfolding aligned
  aligned_room v w n l = omega (arith, mul-le-mul_right (b ^ (8 - n)) l, suc-mul (number b v n) (b ^ (8 - n)))

  aligned_near : (v w : ℕ → ℕ) (n : ℕ) → aligned b v n < aligned b w n + b ^ (8 - n) → number b v n ≤ number b w n
  unfolding aligned
  aligned_near v w n l =
      let h : number b v n * b ^ (8 - n) < suc (number b w n) * b ^ (8 - n) = omega (arith, suc-mul (number b w n) (b ^ (8 - n))) in
      let k : number b v n < suc (number b w n) = lt_of_mul-lt-mul_right (b ^ (8 - n)) h in
      omega arith

  module _ (some : 0 < b) where
    pub unit_some : (n : ℕ) → 0 < b ^ (8 - n)
    unit_some n = one-le-pow (8 - n) b some

    aligned_lt : (v w : ℕ → ℕ) (n : ℕ) → Digits b v n → Digits b w n → aligned b v n < aligned b w n → Lower v w n
    unfolding aligned
    aligned_lt v w n d e l = number_lower v w n d e (lt_of_mul-lt-mul_right (b ^ (8 - n)) l)

    -- the order of words, by their numbers
    pub aligned_lower : (v w : ℕ → ℕ) (n l : ℕ) → n ≤ 8 → l ≤ 8 → Digits b v n → Digits b w l → aligned b v n + b ^ (8 - n) ≤ aligned b w l → Lower v w (min n l)
    aligned_lower v w n l h u d e o =
        elim (dec_lt n l) [
          | yes p ↦ let q : n ≡ min n l = omega arith in
              subst (Lower v w) q (aligned_lt v w n d (λ i x. e i (omega arith)) (omega (arith, aligned_high w n l (omega arith) u e, unit_some l)))
          | no p ↦ let q : l ≡ min n l = omega arith in
              subst (Lower v w) q (aligned_lt v w l (λ i x. d i (omega arith)) e (omega (arith, aligned_low v l n (omega arith) h, unit_some n)))
        ]

    -- two words of which neither is lower agree as far as both reach
    pub neither_lower : (v w : ℕ → ℕ) (n l : ℕ) → n ≤ 8 → l ≤ 8 → Digits b v n → Digits b w l → aligned b v n < aligned b w l + b ^ (8 - l) → aligned b w l < aligned b v n + b ^ (8 - n) → Agree v w (min n l)
    neither_lower v w n l h u d e low high =
        number_agree v w (min n l) (λ i x. d i (omega arith)) (λ i x. e i (omega arith)) (omega (
          arith,
          aligned_near v w (min n l) (omega (arith, aligned_low v (min n l) n (omega arith) h, aligned_high w (min n l) l (omega arith) u e)),
          aligned_near w v (min n l) (omega (arith, aligned_low w (min n l) l (omega arith) u, aligned_high v (min n l) n (omega arith) h d)),
        ))

    pub lower_aligned : (v w : ℕ → ℕ) (n l : ℕ) → n ≤ 8 → l ≤ 8 → Digits b v n → Digits b w l → Lower v w (min n l) → aligned b v n + b ^ (8 - n) ≤ aligned b w l
    lower_aligned v w n l h u d e o =
        omega (arith, aligned_room v w (min n l) (lower_number v w (min n l) (λ i x. d i (omega arith)) o), aligned_high v (min n l) n (omega arith) h d, aligned_low w (min n l) l (omega arith) u)

    -- the strings that begin with a word are an interval of numbers
    pub begins_number : (v w : ℕ → ℕ) (n : ℕ) → n ≤ 8 → Digits b w 8 → Agree v w n → (aligned b v n ≤ number b w 8) × (number b w 8 < aligned b v n + b ^ (8 - n))
    begins_number v w n h d a =
        let e = aligned_agree v w n a in
        (omega (arith, aligned_low w n 8 h (omega arith), aligned_eight w), omega (arith, aligned_high w n 8 h (omega arith) d, aligned_eight w, unit_some 8))

    pub number_begins : (v w : ℕ → ℕ) (n : ℕ) → n ≤ 8 → Digits b v n → Digits b w 8 → aligned b v n ≤ number b w 8 → number b w 8 < aligned b v n + b ^ (8 - n) → Agree v w n
    number_begins v w n h d e low high =
        let within = begins_number w w n h e (λ i u. refl) in
        let up : number b v n ≤ number b w n = aligned_near v w n (omega arith) in
        let down : number b w n ≤ number b v n = aligned_near w v n (omega arith) in
        number_agree v w n d (λ i u. e i (omega arith)) (omega arith)
