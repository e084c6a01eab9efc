-- Consequences of the group's laws, the two forms of a row's value, and the sum that telescopes.
use mathlib.Core.Path.{◌≡◌, refl, sym, ap, ap₂, ◌∙◌}
use mathlib.Core.List.{List, [], ◌∷◌, ◌++◌, map}
use Prim.Native.Nat.{ℕ, zero, suc, ◌+◌, ◌≤◌}
use native.Mathlib.Omega.{arith}
use native.Mathlib.Decide.{dec_lt}
use native.Mathlib.Nat.{add-zero, zero-add, add-suc, suc-add}
use lib.ListN.{replicate, get_or-eq_default}
use Rattle.lists.specs.Span.{span}
use Rattle.lists.proofs.Span.{length_span, get_d_span, span_ext}
use Rattle.numeration.specs.Group.{Operations}
use Rattle.numeration.specs.Laws.{AdditiveGroup, Endomorphism, Elements}
use Rattle.numeration.specs.Conversion.{out_digit}
use Rattle.numeration.specs.Value.{power, value_from, value, top_down}

module _ {A : Type 0} (o : Operations A) (Element : A → Type 0) (g : AdditiveGroup o Element) where
  pub unit_right : {x : A} → Element x → o.sum x o.none ≡ x
  unit_right x = g.comm x g.element_none ∙ g.unit x

  pub sum_cancel : {x y z : A} → Element x → Element y → Element z → o.sum x z ≡ o.sum y z → x ≡ y
  sum_cancel {x} {y} {z} a b c e = sym (undo a) ∙ (ap (λ (t : A). o.sum t (o.difference o.none z)) e ∙ undo b)
    where
      inverse : Element (o.difference o.none z)
      inverse = g.element_difference g.element_none c

      undo : {t : A} → Element t → o.sum (o.sum t z) (o.difference o.none z) ≡ t
      undo {t} h = g.assoc h c inverse ∙ (ap (o.sum t) (g.comm c inverse ∙ g.cancel g.element_none c) ∙ unit_right h)

  pub base_none : o.base o.none ≡ o.none
  base_none =
      let b : Element (o.base o.none) = g.element_base g.element_none in
      sum_cancel b g.element_none b (sym (g.additive g.element_none g.element_none) ∙ (ap o.base (g.unit g.element_none) ∙ sym (g.unit b)))

  -- from zeros comes zero
  pub out_digit_none : out_digit o o.none o.none o.none ≡ o.none
  unfolding out_digit
  out_digit_none =
      let none : Element o.none = g.element_none in
      ap₂ o.difference (g.unit none) base_none ∙ (sym (unit_right (g.element_difference none none)) ∙ g.cancel none none)

  pub element_out_digit : {x y z : A} → Element x → Element y → Element z → Element (out_digit o x y z)
  unfolding out_digit
  element_out_digit a b c = g.element_difference (g.element_sum a b) (g.element_base c)

  -- one place of the sum: what is taken away above is what comes from below
  out_digit_carry : {t x y z : A} → Element t → Element x → Element y → Element z → o.sum (o.base (o.sum t z)) (out_digit o x y z) ≡ o.sum (o.sum (o.base t) x) y
  unfolding out_digit
  out_digit_carry {t} {x} {y} {z} a b c d =
      let bt : Element (o.base t) = g.element_base a in
      let bz : Element (o.base z) = g.element_base d in
      let xy : Element (o.sum x y) = g.element_sum b c in
      let rest : Element (o.difference (o.sum x y) (o.base z)) = g.element_difference xy bz in
      rw (g.additive a d, g.assoc bt bz rest, g.comm bz rest, g.cancel xy bz, g.assoc bt b c)

  -- a list given by elements
  pub elements_span : (f : ℕ → A) → ((i : ℕ) → Element (f i)) → (j n : ℕ) → Elements o Element (span f j n)
  elements_span f h j n k =
      elim (dec_lt k n) [
        | yes l ↦ rw (get_d_span f j n k o.none l) (h (j + k))
        | no l ↦ rw (get_or-eq_default (span f j n) o.none {n = k} (omega (arith, length_span f j n))) g.element_none
      ]

  -- the digits of a row of indexes
  pub elements_map : (f : ℕ → A) → ((i : ℕ) → Element (f i)) → (row : List ℕ) → Elements o Element (map f row)
  elements_map f h [] k = g.element_none
  elements_map f h (i ∷ row) zero = h i
  elements_map f h (i ∷ row) (suc k) = elements_map f h row k

  pub element_top_down : (xs : List A) → Elements o Element xs → Element (top_down o xs)
  unfolding top_down
  element_top_down [] h = g.element_none
  element_top_down (x ∷ xs) h = g.element_sum (g.element_base (element_top_down xs (λ k. h (suc k)))) (h 0)

  -- the value of the digits from place j on is that of the inputs and the weight from below, where no weight is left above
  pub telescope : (w q : ℕ → A) → ((i : ℕ) → Element (w i)) → ((i : ℕ) → Element (q i)) → (j n : ℕ) → q (j + n) ≡ o.none → top_down o (span (λ i. out_digit o (w i) (q i) (q (suc i))) j n) ≡ o.sum (top_down o (span w j n)) (q j)
  unfolding top_down span
  telescope w q hw hq j zero e = sym (unit_right g.element_none) ∙ ap (o.sum o.none) (rw (← e, add-zero))
  telescope w q hw hq j (suc n) e =
      rw (telescope w q hw hq (suc j) n (rw (suc-add, ← add-suc) e))
      (out_digit_carry (element_top_down (span w (suc j) n) (elements_span w hw (suc j) n)) (hw j) (hq j) (hq (suc j)))

  -- zeros on top add nothing
  top_down_zeros : (f : ℕ → A) (j n : ℕ) → ((i : ℕ) → j ≤ i → f i ≡ o.none) → top_down o (span f j n) ≡ o.none
  unfolding top_down span
  top_down_zeros f j zero h = refl
  top_down_zeros f j (suc n) h =
      rw (top_down_zeros f (suc j) n (λ i l. h i (omega arith)), h j (omega arith), base_none) (unit_right g.element_none)

  pub top_down_padded : (f : ℕ → A) (j n d : ℕ) → ((i : ℕ) → j + n ≤ i → f i ≡ o.none) → top_down o (span f j (n + d)) ≡ top_down o (span f j n)
  unfolding top_down span
  top_down_padded f j zero d h = rw zero-add (top_down_zeros f j d (λ i l. h i (omega arith)))
  top_down_padded f j (suc n) d h =
      rw suc-add (ap (λ (t : A). o.sum (o.base t) (f j)) (top_down_padded f (suc j) n d (λ i l. h i (omega arith))))

  exchange : {a b c d : A} → Element a → Element b → Element c → Element d → o.sum (o.sum a b) (o.sum c d) ≡ o.sum (o.sum a c) (o.sum b d)
  exchange {a} {d = d} ea eb ec ed =
      g.assoc ea eb (g.element_sum ec ed)
      ∙ (ap (o.sum a) (sym (g.assoc eb ec ed) ∙ (ap (λ (t : A). o.sum t d) (g.comm eb ec) ∙ g.assoc ec eb ed)) ∙ sym (g.assoc ea ec (g.element_sum eb ed)))

  top_down_sum : (f h : ℕ → A) → ((i : ℕ) → Element (f i)) → ((i : ℕ) → Element (h i)) → (j n : ℕ) → top_down o (span (λ i. o.sum (f i) (h i)) j n) ≡ o.sum (top_down o (span f j n)) (top_down o (span h j n))
  unfolding top_down span
  top_down_sum f h ef eh j zero = sym (g.unit g.element_none)
  top_down_sum f h ef eh j (suc n) =
      let x : Element (top_down o (span f (suc j) n)) = element_top_down (span f (suc j) n) (elements_span f ef (suc j) n) in
      let y : Element (top_down o (span h (suc j) n)) = element_top_down (span h (suc j) n) (elements_span h eh (suc j) n) in
      ap (λ (t : A). o.sum t (o.sum (f j) (h j))) (ap o.base (top_down_sum f h ef eh (suc j) n) ∙ g.additive x y)
      ∙ exchange (g.element_base x) (g.element_base y) (ef j) (eh j)

  element_power : (j : ℕ) {x : A} → Element x → Element (power o j x)
  unfolding power
  element_power zero h = h
  element_power (suc j) h = g.element_base (element_power j h)

  power_none : (j : ℕ) → power o j o.none ≡ o.none
  unfolding power
  power_none zero = refl
  power_none (suc j) = ap o.base (power_none j) ∙ base_none

  power_sum : (j : ℕ) {x y : A} → Element x → Element y → power o j (o.sum x y) ≡ o.sum (power o j x) (power o j y)
  unfolding power
  power_sum zero a b = refl
  power_sum (suc j) a b = ap o.base (power_sum j a b) ∙ g.additive (element_power j a) (element_power j b)

  power_base : (j : ℕ) (x : A) → power o j (o.base x) ≡ power o (suc j) x
  unfolding power
  power_base zero x = refl
  power_base (suc j) x = ap o.base (power_base j x)

  value_from_top_down : (j : ℕ) (xs : List A) → Elements o Element xs → value_from o j xs ≡ power o j (top_down o xs)
  unfolding value_from top_down
  value_from_top_down j [] h = sym (power_none j)
  value_from_top_down j (x ∷ xs) h =
      let t : Element (top_down o xs) = element_top_down xs (λ k. h (suc k)) in
      let b : Element (o.base (top_down o xs)) = g.element_base t in
      ap (o.sum (power o j x)) (value_from_top_down (suc j) xs (λ k. h (suc k)) ∙ sym (power_base j (top_down o xs)))
      ∙ (g.comm (element_power j (h 0)) (element_power j b) ∙ sym (power_sum j b (h 0)))

  pub value_top_down : (xs : List A) → Elements o Element xs → value o xs ≡ top_down o xs
  unfolding value power
  value_top_down xs h = value_from_top_down 0 xs h

  -- of digits given by a function of the place
  span_value : (f : ℕ → A) → ((i : ℕ) → Element (f i)) → (n : ℕ) → value o (span f 0 n) ≡ top_down o (span f 0 n)
  span_value f e n = value_top_down (span f 0 n) (elements_span f e 0 n)

  pub element_value : (xs : List A) → Elements o Element xs → Element (value o xs)
  element_value xs h = rw (value_top_down xs h) (element_top_down xs h)

  -- the value of sums place by place is the sum of the values
  pub value_sum : (f h : ℕ → A) → ((i : ℕ) → Element (f i)) → ((i : ℕ) → Element (h i)) → (n : ℕ) → value o (span (λ i. o.sum (f i) (h i)) 0 n) ≡ o.sum (value o (span f 0 n)) (value o (span h 0 n))
  value_sum f h ef eh n =
      rw (span_value (λ i. o.sum (f i) (h i)) (λ i. g.element_sum (ef i) (eh i)) n, span_value f ef n, span_value h eh n) (top_down_sum f h ef eh 0 n)

  -- and that of differences their difference: what is taken away, added back, gives the first
  pub value_difference : (f h : ℕ → A) → ((i : ℕ) → Element (f i)) → ((i : ℕ) → Element (h i)) → (n : ℕ) → value o (span (λ i. o.difference (f i) (h i)) 0 n) ≡ o.difference (value o (span f 0 n)) (value o (span h 0 n))
  value_difference f h ef eh n =
      let d : ℕ → A = λ i. o.difference (f i) (h i) in
      let ed : (i : ℕ) → Element (d i) = λ i. g.element_difference (ef i) (eh i) in
      let x = element_value (span f 0 n) (elements_span f ef 0 n) in
      let y = element_value (span h 0 n) (elements_span h eh 0 n) in
      sum_cancel (element_value (span d 0 n) (elements_span d ed 0 n)) (g.element_difference x y) y
      (sym (value_sum d h ed eh n) ∙ ap (value o) (span_ext (λ i. o.sum (d i) (h i)) f 0 0 n (λ i l. g.cancel (ef (0 + i)) (eh (0 + i)))) ∙ sym (g.cancel x y))

  -- zeros on top keep the value
  value_from_zeros : (j n : ℕ) → value_from o j (replicate n o.none) ≡ o.none
  unfolding value_from
  value_from_zeros j zero = refl
  value_from_zeros j (suc n) = ap₂ o.sum (power_none j) (value_from_zeros (suc j) n) ∙ unit_right g.element_none

  value_from_padded : (j : ℕ) (xs : List A) (n : ℕ) → value_from o j (xs ++ replicate n o.none) ≡ value_from o j xs
  unfolding value_from
  value_from_padded j [] n = value_from_zeros j n
  value_from_padded j (x ∷ xs) n = ap (o.sum (power o j x)) (value_from_padded (suc j) xs n)

  pub value_padded : (xs : List A) (n : ℕ) → value o (xs ++ replicate n o.none) ≡ value o xs
  unfolding value
  value_padded xs n = value_from_padded 0 xs n

  -- a map that keeps sums and the base keeps the value
  module _ (f : A → A) (e : Endomorphism o Element f) where
    none_kept : f o.none ≡ o.none
    none_kept =
        let none : Element o.none = g.element_none in
        sum_cancel (e.element none) none (e.element none) (sym (e.keeps_sum none none) ∙ ap f (g.unit none) ∙ sym (g.unit (e.element none)))

    elements_mapped : (xs : List A) → Elements o Element xs → Elements o Element (map f xs)
    elements_mapped [] h k = g.element_none
    elements_mapped (x ∷ xs) h zero = e.element (h 0)
    elements_mapped (x ∷ xs) h (suc k) = elements_mapped xs (λ i. h (suc i)) k

    top_down_mapped : (xs : List A) → Elements o Element xs → top_down o (map f xs) ≡ f (top_down o xs)
    unfolding top_down
    top_down_mapped [] h = sym none_kept
    top_down_mapped (x ∷ xs) h =
        let t : Element (top_down o xs) = element_top_down xs (λ k. h (suc k)) in
        ap (λ (y : A). o.sum (o.base y) (f x)) (top_down_mapped xs (λ k. h (suc k))) ∙ ap (λ (y : A). o.sum y (f x)) (sym (e.keeps_base t)) ∙ sym (e.keeps_sum (g.element_base t) (h 0))

    pub value_mapped : (xs : List A) → Elements o Element xs → value o (map f xs) ≡ f (value o xs)
    value_mapped xs h = value_top_down (map f xs) (elements_mapped xs h) ∙ top_down_mapped xs h ∙ ap f (sym (value_top_down xs h))
