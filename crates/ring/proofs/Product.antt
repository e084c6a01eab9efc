-- The ring laws, for every degree from one on: the product is additive in both factors, commutative and associative, and
-- one is neutral. A product by x is a polynomial in multiplying by ω, and such polynomials commute; with x · 1 = x that is all.
use mathlib.Core.Path.{◌≡◌, refl, sym, ap, ap₂, ◌∙◌}
use mathlib.Core.List.{List, [], ◌∷◌, ◌++◌, append-nil}
use Prim.Native.Nat.{ℕ, suc, ◌+◌, ◌-◌, ◌≤◌}
use native.Mathlib.Omega.{arith}
use lib.ListN.{length, take, length-take, length-append, length-replicate}
use lib.Seq.{take-append-add, get_or-append-add}
use lib.IntN.{ℤ, pos, ◌*ℤ◌, +ℤ_idr}
use Rattle.lists.proofs.Cons.{cons≡}
use Rattle.integers.proofs.Laws.{*-one}
use Rattle.ring.specs.Element.{part, zeros, plus}
use Rattle.ring.specs.Product.{scale, times_omega, product, unit}
use Rattle.ring.proofs.Element.{plus_comm, plus_cross, plus_parts, length_plus, part_plus, take_plus, zeros_plus, part_zeros, raise_plus, raise_scale, take_zeros, length_scale, part_scale, take_scale, scale_plus, scale_sum, scale_scale, scale_comm, scale_none, scale_zeros}

-- ---- ω times an element

pub omega_plus : (r x y : List ℤ) → times_omega r (plus x y) ≡ plus (times_omega r x) (times_omega r y)
unfolding times_omega
omega_plus r x y =
    let n = length r - 1 in
    rw (take_plus n x y, raise_plus (take n x) (take n y), part_plus x y n, scale_sum (part x n) (part y n) r) (plus_cross (pos 0 ∷ take n x) (pos 0 ∷ take n y) (scale (part x n) r) (scale (part y n) r))

pub omega_scale : (r : List ℤ) (k : ℤ) (x : List ℤ) → times_omega r (scale k x) ≡ scale k (times_omega r x)
unfolding times_omega
omega_scale r k x =
    let n = length r - 1 in
    rw (take_scale n k x, raise_scale k (take n x), part_scale k x n, ← scale_scale k (part x n) r, scale_plus k (pos 0 ∷ take n x) (scale (part x n) r))

module _ (r : List ℤ) (positive : 1 ≤ length r) where
  pub length_omega : (x : List ℤ) → length (times_omega r x) ≡ length r
  unfolding times_omega
  length_omega x =
      let n = length r - 1 in
      omega (arith, length_plus (pos 0 ∷ take n x) (scale (part x n) r), length-take n x, length_scale (part x n) r)

  pub omega_zeros : times_omega r (zeros (length r)) ≡ zeros (length r)
  omega_zeros =
      ap (times_omega r) (sym (scale_none r)) ∙ omega_scale r (pos 0) r ∙ scale_none (times_omega r r) ∙ ap zeros (length_omega r)

  -- ---- the product as a map of its second factor

  pub length_product : (x y : List ℤ) → length y ≡ length r → length (product r x y) ≡ length r
  unfolding product
  length_product [] y h = length-replicate (length r) (pos 0)
  length_product (a ∷ x) y h =
      omega (arith, length_plus (scale a y) (times_omega r (product r x y)), length_scale a y, length_omega (product r x y))

  pub product_zeros : (x : List ℤ) → product r x (zeros (length r)) ≡ zeros (length r)
  unfolding product
  product_zeros [] = refl
  product_zeros (a ∷ x) =
      rw (product_zeros x, omega_zeros, scale_zeros a (length r)) (zeros_plus (zeros (length r)) (length r) (omega (arith, length-replicate (length r) (pos 0))))

  -- x · (y + z) = x · y + x · z
  pub product_plus : (x y z : List ℤ) → product r x (plus y z) ≡ plus (product r x y) (product r x z)
  unfolding product
  product_plus [] y z =
      sym (zeros_plus (zeros (length r)) (length r) (omega (arith, length-replicate (length r) (pos 0))))
  product_plus (a ∷ x) y z =
      rw (product_plus x y z, scale_plus a y z, omega_plus r (product r x y) (product r x z)) (plus_cross (scale a y) (scale a z) (times_omega r (product r x y)) (times_omega r (product r x z)))

  pub product_scale : (k : ℤ) (x y : List ℤ) → product r x (scale k y) ≡ scale k (product r x y)
  unfolding product
  product_scale k [] y = sym (scale_zeros k (length r))
  product_scale k (a ∷ x) y =
      rw (product_scale k x y, omega_scale r k (product r x y), scale_comm a k y) (sym (scale_plus k (scale a y) (times_omega r (product r x y))))

  pub product_omega : (x y : List ℤ) → product r x (times_omega r y) ≡ times_omega r (product r x y)
  unfolding product
  product_omega [] y = sym omega_zeros
  product_omega (a ∷ x) y =
      rw (product_omega x y, ← omega_scale r a y) (sym (omega_plus r (scale a y) (times_omega r (product r x y))))

  -- products by x and by y, one after the other, in either order
  pub product_swap : (x y z : List ℤ) → product r x (product r y z) ≡ product r y (product r x z)
  unfolding product
  product_swap [] y z = sym (product_zeros y)
  product_swap (a ∷ x) y z =
      rw (product_plus y (scale a z) (times_omega r (product r x z)), product_scale a y z, product_omega y (product r x z), product_swap x y z)

  -- ---- one

  length_unit : length (unit (length r)) ≡ length r
  unfolding unit
  length_unit = omega (arith, length-replicate (length r - 1) (pos 0))

  raised : (x : List ℤ) (n : ℕ) → suc (length x + n) ≡ length r → times_omega r (x ++ zeros (suc n)) ≡ pos 0 ∷ (x ++ zeros n)
  unfolding times_omega
  raised x n h =
      let top : length r - 1 ≡ length x + n = omega arith in
      rw (top, take-append-add x (zeros (suc n)) n, get_or-append-add x (zeros (suc n)) n (pos 0), part_zeros (suc n) n, scale_none r, plus_comm, take_zeros n) (zeros_plus (pos 0 ∷ (x ++ zeros n)) (length r) (omega (arith, length-append x (zeros n), length-replicate n (pos 0))))

  below : (a : ℤ) (x : List ℤ) (n : ℕ) → n ≤ length x → plus (scale a (pos 1 ∷ zeros n)) (pos 0 ∷ x) ≡ a ∷ x
  unfolding plus scale
  below a x n h = cons≡ (+ℤ_idr (a *ℤ pos 1) ∙ *-one a) (ap (λ l. plus l x) (scale_zeros a n) ∙ zeros_plus x n h)

  unit_from : (x : List ℤ) (n : ℕ) → length x + n ≡ length r → product r x (unit (length r)) ≡ x ++ zeros n
  unfolding product unit
  unit_from [] n h = let e : length r ≡ n = omega arith in ap zeros e
  unit_from (a ∷ x) n h = rw (unit_from x (suc n) (omega arith), raised x n (omega arith)) (below a (x ++ zeros n) (length r - 1) (omega (arith, length-append x (zeros n), length-replicate n (pos 0))))

  pub product_unit : (x : List ℤ) → length x ≡ length r → product r x (unit (length r)) ≡ x
  product_unit x h = unit_from x 0 (omega arith) ∙ append-nil x

  -- ---- the ring laws

  pub product_comm : (x y : List ℤ) → length x ≡ length r → length y ≡ length r → product r x y ≡ product r y x
  product_comm x y h k =
      ap (product r x) (sym (product_unit y k)) ∙ product_swap x y (unit (length r)) ∙ ap (product r y) (product_unit x h)

  pub product_assoc : (x y z : List ℤ) → length x ≡ length r → length y ≡ length r → length z ≡ length r → product r (product r x y) z ≡ product r x (product r y z)
  product_assoc x y z h k l =
      product_comm (product r x y) z (length_product x y k) l ∙ product_swap z x y ∙ ap (product r x) (product_comm z y l k)

  pub unit_product : (x : List ℤ) → length x ≡ length r → product r (unit (length r)) x ≡ x
  unit_product x h = product_comm (unit (length r)) x length_unit h ∙ product_unit x h

  -- (x + y) · z = x · z + y · z
  pub plus_product : (x y z : List ℤ) → length x ≡ length r → length y ≡ length r → length z ≡ length r → product r (plus x y) z ≡ plus (product r x z) (product r y z)
  plus_product x y z h k l =
      product_comm (plus x y) z (plus_parts (length r) x y h k) l ∙ product_plus z x y ∙ ap₂ plus (product_comm z x l h) (product_comm z y l k)
