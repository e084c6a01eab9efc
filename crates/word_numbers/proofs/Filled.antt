-- The powers of a base, filled in from the lowest.
use mathlib.Core.Path.{◌≡◌, sym, ap, subst, ◌∙◌}
use mathlib.Core.List.{List}
use Prim.Native.Nat.{ℕ, suc, ◌+◌, ◌-◌, ◌*◌, ◌^◌, ◌<◌, ◌≤◌}
use native.Mathlib.Omega.{arith}
use native.Mathlib.Decide.{ℕ_discrete}
use native.Mathlib.Nat.{pow-suc, pow-le-pow_left, pow-le-pow_right, mul-le-mul}
use lib.ListN.{length, get_or, set, length-set}
use lib.Seq.{get_or-set_same, get_or-set_other}

-- from n on
pub record Filled (base n : ℕ) (all : List ℕ) : Type 0 where
  pub low : 1 ≤ n
  pub high : n ≤ 8
  pub long : length all ≡ 9
  pub power : (k : ℕ) → n ≤ k → k ≤ 8 → get_or all k 0 ≡ base ^ (8 - k)

module _ (base n k : ℕ) (all : List ℕ) (next : n ≡ k + 1) (some : 1 ≤ k) (is : Filled base n all) where
  above : get_or all (k + 1) 0 ≡ base ^ (8 - n)
  above = ap (λ (j : ℕ). get_or all j 0) (sym next) ∙ is.power n (omega arith) is.high

  pub filled_next : Filled base k (set all k (get_or all (k + 1) 0 * base))
  filled_next =
      record {
        low = some;
        high = omega (arith, is.high);
        long = length-set all k (get_or all (k + 1) 0 * base) ∙ is.long;
        power = λ j l h. elim (ℕ_discrete j k) [
          | yes e ↦ subst (λ (j : ℕ). get_or (set all k (get_or all (k + 1) 0 * base)) j 0 ≡ base ^ (8 - j)) (sym e) here
          | no e ↦ get_or-set_other all k j _ 0 e ∙ is.power j (omega arith) h
        ];
      }
    where
      here : get_or (set all k (get_or all (k + 1) 0 * base)) k 0 ≡ base ^ (8 - k)
      here =
          let one : suc (8 - n) ≡ 8 - k = omega (arith, is.high) in
          get_or-set_same all k _ 0 (omega (arith, is.long, is.high)) ∙ ap (λ (x : ℕ). x * base) above ∙ sym (pow-suc base (8 - n)) ∙ ap (λ (x : ℕ). base ^ x) one

  pub filled_small : base ≤ 256 → get_or all (k + 1) 0 * base < 18446744073709551616
  filled_small h =
      let a : base ^ (8 - n) ≤ 256 ^ (8 - n) = pow-le-pow_left h (8 - n) in
      let b : 256 ^ (8 - n) ≤ 256 ^ 6 = pow-le-pow_right (omega arith) {i = 8 - n} {j = 6} (omega arith) in
      let e : get_or all (k + 1) 0 ≤ 281474976710656 = omega (arith, above) in
      let d : get_or all (k + 1) 0 * base ≤ 281474976710656 * 256 = mul-le-mul e h in
      omega arith
