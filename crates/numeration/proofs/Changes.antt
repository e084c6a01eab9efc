-- After any list of changes the sum is the digit row of the changed rows, and what stands behind it is as it was.
use mathlib.Core.Path.{◌≡◌, refl, sym, ap, subst, ◌∙◌}
use mathlib.Core.Bool.{Bool, true, false, ◌&&◌}
use mathlib.Core.List.{List, [], ◌∷◌, ◌++◌, append_assoc}
use Prim.Native.Nat.{ℕ, suc, ◌+◌, ◌-◌, ◌<◌, ◌≤◌}
use native.Mathlib.Omega.{arith}
use native.Mathlib.Nat.{zero-add}
use native.Mathlib.Decide.{ℕ_discrete}
use lib.Dec.{ltb}
use lib.ListN.{length, take, drop, set, length-set}
use lib.Seq.{take_at, drop_at, drop-drop, get_or-set_same, get_or-set_other}
use borrow.Author.Tests.{ltb-true}
use Rattle.lists.specs.Span.{span}
use Rattle.lists.proofs.Span.{length_span, span_add, span_ext}
use Rattle.lists.proofs.Scan.{every_complete}
use Rattle.lists.proofs.Test.{both}
use Rattle.numeration.specs.Group.{Operations}
use Rattle.numeration.specs.Code.{Code, Inputs}
use Rattle.numeration.specs.Pairs.{RowsConvert}
use Rattle.numeration.specs.Changes.{Changes, store_taken, store_all}
use Rattle.numeration.specs.Renewal.{row_changes, InputRow, Local, digit_row, renewable, renewed, change, change_all, SumFollows}
use Rattle.numeration.proofs.Windows.{convert_set}

-- a span's list f, in which the n places from p on are g's, is g's list where the two agree elsewhere
span_between : {A : Type 0} (f g : ℕ → A) (p n d : ℕ) (rest : List A) → ((j : ℕ) → (p ≤ j → j < p + n → ⊥) → g j ≡ f j) → take p (span f 0 (p + n + d) ++ rest) ++ (span g p n ++ drop (p + n) (span f 0 (p + n + d) ++ rest)) ≡ span g 0 (p + n + d) ++ rest
span_between {A} f g p n d rest same =
    rw (
      ← drop-drop n p (span f 0 (p + n + d) ++ rest),
      split f,
      split g,
      take_at (span f 0 p) _ p (length_span f 0 p),
      drop_at (span f 0 p) _ p (length_span f 0 p),
      drop_at (span f p n) _ n (length_span f p n),
      span_ext g f 0 0 p (λ j h. same _ (λ a b. none j a h)),
      span_ext g f (p + n) (p + n) d (λ j h. same _ (λ a b. past j b)),
    )
  where
    split : (f : ℕ → A) → span f 0 (p + n + d) ++ rest ≡ span f 0 p ++ (span f p n ++ (span f (p + n) d ++ rest))
    split f = rw (span_add f 0 (p + n) d, span_add f 0 p n, zero-add p, zero-add (p + n)) (simp append_assoc)

    none : (j : ℕ) → p ≤ 0 + j → j < p → ⊥
    none j a h = omega arith

    past : (j : ℕ) → p + n + j < p + n → ⊥
    past j b = omega arith

module _ {Rows Change Digit : Type 0} (k : Changes Rows Change Digit) (e : Change) (r : Rows) where
  pub stored_taken : k.taken e ≡ true → store_taken k e r ≡ k.store e r
  unfolding store_taken
  stored_taken t = rw (t, store_taken)

  pub stored_other : k.taken e ≡ false → store_taken k e r ≡ r
  unfolding store_taken
  stored_other t = rw (t, store_taken)

module _ {Rows Change Digit : Type 0} (k : Changes Rows Change Digit) (Valid : Rows → Type 0) (local : Local k Valid) where
  -- the digit row of the changed rows, from that of the rows before
  pub renewed_right : (e : Change) (r : Rows) (rest : List Digit) → k.taken e ≡ true → Valid r → renewed k (k.store e r) (k.place e) (digit_row k r ++ rest) ≡ digit_row k (k.store e r) ++ rest
  unfolding renewed digit_row
  renewed_right e r rest t v =
      rw (size (local.room e t))
      (span_between (k.digit r) (k.digit (k.store e r)) (k.place e) (suc k.reach) _ rest (λ j out. local.locality e r t v j (λ low high. out low (omega arith))))
    where
      size : k.place e + k.reach < k.places → k.places ≡ k.place e + suc k.reach + (k.places - (k.place e + suc k.reach))
      size h = omega arith

  -- one change of rows with their digit row
  change_right : (e : Change) (r : Rows) (rest : List Digit) → Valid r → change k e (r, digit_row k r ++ rest) ≡ (store_taken k e r, digit_row k (store_taken k e r) ++ rest)
  unfolding change store_taken
  change_right e r rest v = go (k.taken e) refl
    where
      passes : k.taken e ≡ true → renewable k (k.store e r) (k.place e) ≡ true
      passes t = unfold renewable in every_complete _ (k.place e) (suc k.reach) (λ j low high. local.digits (k.store e r) (local.valid e r t v) j)

      go : (b : Bool) → k.taken e ≡ b → change k e (r, digit_row k r ++ rest) ≡ (store_taken k e r, digit_row k (store_taken k e r) ++ rest)
      go true t = rw (t, change, store_taken, passes t) (ap (λ (s : List Digit). (k.store e r, s)) (renewed_right e r rest t v))
      go false t = rw (t, change, store_taken)

  pub valid_store_taken : (e : Change) (r : Rows) → Valid r → Valid (store_taken k e r)
  valid_store_taken e r v = go (k.taken e) refl
    where
      go : (b : Bool) → k.taken e ≡ b → Valid (store_taken k e r)
      go true t = subst Valid (sym (stored_taken k e r t)) (local.valid e r t v)
      go false t = subst Valid (sym (stored_other k e r t)) v

  pub valid_store_all : (es : List Change) (r : Rows) → Valid r → Valid (store_all k es r)
  unfolding store_all
  valid_store_all [] r v = v
  valid_store_all (e ∷ es) r v = valid_store_all es (store_taken k e r) (valid_store_taken e r v)

  pub change_all_right : (es : List Change) (r : Rows) (rest : List Digit) → Valid r → SumFollows k es r rest
  unfolding change_all store_all
  change_all_right [] r rest v = refl
  change_all_right (e ∷ es) r rest v = ap (change_all k es) (change_right e r rest v) ∙ change_all_right es (store_taken k e r) rest (valid_store_taken e r v)

inputs_set : (m : ℕ) (row : List ℕ) (p d : ℕ) → d < m → Inputs m row → Inputs m (set row p d)
inputs_set m row p d h all i l =
    let low : i < length row = rw length-set at l in
    elim (ℕ_discrete i p) [
      | yes e ↦ rw (e, get_or-set_same row p d 0 (rw e at low)) h
      | no e ↦ rw (get_or-set_other row p i d 0 e) (all i low)
    ]

-- conversion of a row is such a conversion where every row gives alphabet digits
pub row_changes_local : {A : Type 0} (o : Operations A) (input : ℕ → A) (c : Code A) (alphabet : A → Bool) (n m : ℕ) → RowsConvert o input c (λ x. alphabet x ≡ true) m → Local (row_changes o input c alphabet n m) (InputRow n m)
unfolding row_changes
row_changes_local o input c alphabet n m all =
    record {
      valid = λ e row t v. (length-set row e.0 e.1 ∙ v.0, inputs_set m row e.0 e.1 (bounds e t).1 v.1);
      room = λ e t. omega (arith, (bounds e t).0);
      locality = λ e row t v. convert_set o input c row e.0 e.1;
      digits = λ row v. all row v.1;
    }
  where
    bounds : (e : ℕ × ℕ) → (ltb e.0 n && ltb e.1 m) ≡ true → (e.0 < n) × (e.1 < m)
    bounds e t = let (hp, hd) = both (ltb e.0 n) (ltb e.1 m) t in (ltb-true _ _ hp, ltb-true _ _ hd)
