-- Mirrored tables: of a row with every digit negated the look-ups find the mirrored leaves, so every converted digit is negated and the
-- reach is the same. The test of such a table.
use mathlib.Core.Path.{◌≡◌, sym, ap, ap₂, ◌∙◌}
use mathlib.Core.Bool.{Bool, true, not}
use mathlib.Core.List.{List}
use Prim.Native.Nat.{ℕ, suc, ◌+◌, ◌<◌}
use native.Mathlib.Omega.{arith}
use lib.ListN.{length, get_or, get_or-eq_default}
use lib.Dec.{eqb, ltb}
use borrow.Author.Tests.{eqb-true, ltb-true, not-false}
use Rattle.lists.specs.Scan.{every}
use Rattle.lists.proofs.Scan.{scan_failed, every_sound}
use Rattle.lists.proofs.Test.{both}
use Rattle.numeration.specs.Group.{Operations}
use Rattle.numeration.specs.Code.{Code, Inputs}
use Rattle.numeration.specs.Prefix.{PrefixCode}
use Rattle.numeration.specs.Conversion.{window, out_digit, leaf_into, weight_into, weight_at, convert}
use Rattle.numeration.specs.Reach.{length_at}
use Rattle.numeration.specs.ReachOf.{reach_of}
use Rattle.numeration.specs.Laws.{AdditiveGroup, InGroup, Endomorphism}
use Rattle.numeration.specs.Mirrored.{Mirrors, Mirrored}
use Rattle.numeration.specs.MirrorTests.{mirrors, mirror_of, mirrored}
use Rattle.numeration.proofs.Leaves.{leaf_of_begins, leaf_of_unique}
use Rattle.numeration.proofs.Windows.{window_by_place, window_below}
use Rattle.numeration.proofs.Reach.{reach_lengths}

-- input digits, each once; two rows of their indexes, and at every place, outside the rows too, the second's digit is f of the first's
module _ {A : Type 0} (f : A → A) (input : ℕ → A) (c : Code A) (m : ℕ) (p : PrefixCode c m) (once : (i j : ℕ) → i < m → j < m → input i ≡ input j → i ≡ j) (is : Mirrored f input c)
    (row other : List ℕ) (all : Inputs m row) (also : Inputs m other) (at : (j : ℕ) → input (get_or other j 0) ≡ f (input (get_or row j 0))) where
  -- the digit zero stands outside both rows
  zero_kept : input 0 ≡ f (input 0)
  zero_kept =
      let high = length row + length other in
      sym (ap input (get_or-eq_default other 0 {n = high} (omega arith))) ∙ at high ∙ ap (λ (d : ℕ). f (input d)) (get_or-eq_default row 0 {n = high} (omega arith))

  window_mapped : (j k : ℕ) → input (window other j k) ≡ f (input (window row j k))
  window_mapped j k = window_by_place (λ d e. input d ≡ f (input e)) other row j k (λ _. zero_kept) (λ i _. at i)

  -- The leaf that is looked up at a place of the second row mirrors that of the first.
  pub leaf_mirrored : (j : ℕ) → Mirrors f input c (leaf_into c row j) (leaf_into c other j)
  leaf_mirrored j =
      let (leaf, begins) = leaf_of_begins c (window row j) (p.complete _ (window_below m row p.some_input all j)) in
      let (l, low, mirror) = is (leaf_into c row j) leaf in
      let found : leaf_into c other j ≡ l = leaf_of_unique c p.separate (window other j) l low (λ i h. let short : i < c.size (leaf_into c row j) = omega (arith, mirror.size) in
      once _ _ (p.indexes l i low h) (window_below m other p.some_input also j i) (mirror.digits i short ∙ ap (λ (d : ℕ). f (input d)) (begins i short) ∙ sym (window_mapped j i))) in
      rw found mirror

  pub weight_mirrored : (j : ℕ) → weight_into c other j ≡ f (weight_into c row j)
  unfolding weight_into
  weight_mirrored j = (leaf_mirrored j).weight

  -- So every digit that comes out is f of the first row's,
  pub convert_mirrored : (o : Operations A) (Element : A → Type 0) → AdditiveGroup o Element → InGroup o Element input c → Endomorphism o Element f → (j : ℕ) → convert o input c other j ≡ f (convert o input c row j)
  unfolding convert weight_at out_digit weight_into
  convert_mirrored o Element g in_group e j =
      let w = in_group.element_input (get_or row j 0) in
      let below = in_group.element_weight (leaf_into c row j) in
      let own = in_group.element_weight (leaf_into c row (suc j)) in
      (λ i. out_digit o (at j i) (weight_mirrored j i) (weight_mirrored (suc j) i))
      ∙ ap₂ o.difference (sym (e.keeps_sum w below)) (sym (e.keeps_base own))
      ∙ sym (e.keeps_difference (g.element_sum w below) (g.element_base own))

  -- and the reach is the same.
  pub reach_mirrored : (from count : ℕ) → reach_of c other from count ≡ reach_of c row from count
  unfolding length_at
  reach_mirrored from count = reach_lengths c other row from count (λ j low high. (leaf_mirrored (suc j)).size)

-- what the test says
module _ {A : Type 0} (same : A → A → Bool) (sound : (x y : A) → same x y ≡ true → x ≡ y) (f : A → A) (input : ℕ → A) (c : Code A) where
  mirrors_sound : (k l : ℕ) → mirrors same f input c k l ≡ true → Mirrors f input c k l
  unfolding mirrors
  mirrors_sound k l t =
      let (long, rest) = both (eqb (c.size l) (c.size k)) _ t in
      let (digits, weight) = both (every (λ i. same (input (c.digit l i)) (f (input (c.digit k i)))) 0 (c.size k)) _ rest in
      record {
        size = eqb-true _ _ long;
        digits = λ i h. sound _ _ (every_sound (λ i. same (input (c.digit l i)) (f (input (c.digit k i)))) 0 (c.size k) digits i (omega arith) (omega arith));
        weight = sound _ _ weight;
      }

  pub mirrored_sound : mirrored same f input c ≡ true → Mirrored f input c
  unfolding mirrored mirror_of
  mirrored_sound t k h =
      let low = ltb-true _ _ (every_sound (λ k. ltb (mirror_of same f input c k) c.leaves) 0 c.leaves t k (omega arith) (omega arith)) in
      (mirror_of same f input c k, low, mirrors_sound k _ (not-false _ (scan_failed (λ l. not (mirrors same f input c k l)) 0 c.leaves (omega arith))))
