-- One more digit, or leaf, written: what a loop goes by. And how large a place in the words can be.
use mathlib.Core.Path.{◌≡◌, refl, ap}
use mathlib.Core.Bool.{Bool, true, false}
use mathlib.Core.List.{List}
use Prim.Native.Nat.{ℕ, ◌+◌, ◌-◌, ◌*◌, ◌≤◌, ◌<◌}
use native.Mathlib.Numerals.{add-one}
use native.Mathlib.Nat.{mul-le-mul}
use native.Mathlib.Omega.{arith}
use lib.ListN.{length, get_or, set}
use Rattle.lists.specs.Overwrite.{overwrite}
use Rattle.layout_rules.specs.Section.{section_start}
use Rattle.mirror_rules.specs.Half.{image_number, bits_of, put_number, put_digit, put_digits, word_digit, word_number, leaf_place, word_place, put_word, put_record, put_leaf, put_leaves, mirrored_file}

pub digits_none : (half out : List ℕ) (at : ℕ) → put_digits half at out 0 ≡ out
unfolding put_digits
digits_none half out at = refl

pub digits_next : (half out : List ℕ) (at n : ℕ) → put_digits half at out (n + 1) ≡ put_digit half at (put_digits half at out n) n
unfolding put_digits
digits_next half out at n = ap (put_digits half at out) (add-one n)

module _ (positive width : ℕ) (words : List ℕ) where
  pub word_none : (mirrored : Bool) (k : ℕ) (out : List ℕ) (at : ℕ) → put_word positive width words mirrored k out at 0 ≡ out
  unfolding put_word
  word_none mirrored k out at = refl

  pub word_next : (mirrored : Bool) (k : ℕ) (out : List ℕ) (at n : ℕ) → put_word positive width words mirrored k out at (n + 1) ≡ set (put_word positive width words mirrored k out at n) (at + n) (word_digit positive words mirrored (width * k + n))
  unfolding put_word
  word_next mirrored k out at n = ap (put_word positive width words mirrored k out at) (add-one n)

  module _ (lengths weights : List ℕ) (leaves_at words_at : ℕ) where
    abbrev pub leaf_put : Bool → ℕ → List ℕ → List ℕ
    leaf_put = put_leaf positive width words lengths weights leaves_at words_at

    abbrev pub leaves_put : List ℕ → ℕ → List ℕ
    leaves_put = put_leaves positive width words lengths weights leaves_at words_at

    pub leaves_none : (out : List ℕ) → leaves_put out 0 ≡ out
    unfolding put_leaves
    leaves_none out = refl

    pub leaves_next : (out : List ℕ) (n : ℕ) → leaves_put out (n + 1) ≡ leaf_put true n (leaf_put false n (leaves_put out n))
    unfolding put_leaves
    leaves_next out n = ap (leaves_put out) (add-one n)

    -- the numbers of a record and the word, written in turn
    pub leaf_written : (mirrored : Bool) (k limit leaf start size bits : ℕ) (out offset long weighed written : List ℕ) → limit ≡ word_number positive width words mirrored k
        → leaf ≡ leaf_place positive width words lengths limit (length lengths) → start ≡ word_place positive width words lengths limit (length lengths) → size ≡ get_or lengths k 0
        → bits ≡ bits_of (image_number mirrored (get_or weights k 0)) → offset ≡ put_number out (leaves_at + 8 * leaf) start → long ≡ put_number offset (leaves_at + 8 * leaf + 2) size
        → weighed ≡ put_number long (leaves_at + 8 * leaf + 4) bits → written ≡ put_word positive width words mirrored k weighed (words_at + start) size → written ≡ leaf_put mirrored k out
    unfolding put_leaf put_record
    leaf_written mirrored k limit leaf start size bits out offset long weighed written l a b s w o n r x = cc

-- the sections, written in turn
pub file_written : (head alphabet inputs lengths words weights : List ℕ) (width one two three four : ℕ) (out headed first second written : List ℕ) → one ≡ section_start head 1 → two ≡ section_start head 2
    → three ≡ section_start head 3 → four ≡ section_start head 4 → headed ≡ overwrite out 0 head → first ≡ put_digits alphabet one headed (length alphabet) → second ≡ put_digits inputs two first (length inputs)
    → written ≡ put_leaves (length inputs - 1) width words lengths weights three four second (length lengths) → written ≡ mirrored_file out head alphabet inputs width lengths words weights
unfolding mirrored_file
file_written head alphabet inputs lengths words weights width one two three four out headed first second written a b c d h f s w = cc

-- the place in the words at which a leaf's word starts
pub start_small : (width k : ℕ) → width ≤ 8 → k < 256 → width * k ≤ 2048
start_small width k w h = let low : k ≤ 256 = omega arith in omega (arith, mul-le-mul w low)
