-- For helpers' contracts only, and pinned by the theorems of proofs/: a table of whole numbers stored by its non-negative half (document 02,
-- job 3), and the file that is formed of it, "the rest formed by mirroring when read". Its digits are zero, then positive ones, then minus
-- these in the same order. A leaf's number, and where its word starts, is told by how many words are below its own: that is their order.
use Rattle.std.specs.Prelude.{Bool, true, false, cond, List, ℕ, zero, suc, ◌+◌, ◌-◌, ◌*◌, ◌/◌, ◌%◌, eqb, leb, ltb, ℤ, pos, negsuc, neg_ℤ, length, get_or, set}
use Rattle.lists.specs.Count.{total}
use Rattle.lists.specs.Overwrite.{overwrite}
use Rattle.layout_rules.specs.Section.{section_start}
use Rattle.radix.specs.Number.{number}

-- the index of a digit's mirror image, where so many digits are positive; zero is its own
unfoldable pub mirror_index : ℕ → ℕ → ℕ
mirror_index positive i = cond (eqb i 0) 0 (cond (leb i positive) (i + positive) (i - positive))

-- a stored number is one byte, signed; a mirror image has the other sign
unfoldable pub stored_number : ℕ → ℤ
stored_number byte = cond (ltb byte 128) (pos byte) (negsuc (255 - byte))

unfoldable pub image_number : Bool → ℕ → ℤ
image_number mirrored byte = cond mirrored (neg_ℤ (stored_number byte)) (stored_number byte)

-- the 16 bits of a signed number
unfoldable pub bits_of : ℤ → ℕ
bits_of (pos n) = n
bits_of (negsuc n) = 65535 - n

-- 16 bits written from a place on, the lower byte first; what would stand past the end is left out
unfoldable pub put_number : List ℕ → ℕ → ℕ → List ℕ
put_number out at n = set (set out at (n % 256)) (at + 1) (n / 256 % 256)

-- ---- digits: whole numbers in records of 4 bytes, whose second part is the buffer's

module _ (half : List ℕ) (at : ℕ) where
  -- digit k, and its mirror image at that one's index
  unfoldable pub put_digit : List ℕ → ℕ → List ℕ
  put_digit out k =
      put_number
      (put_number out (at + 4 * k) (bits_of (image_number false (get_or half k 0))))
      (at + 4 * mirror_index (length half - 1) k)
      (bits_of (image_number true (get_or half k 0)))

  -- the first n digits
  unfoldable pub put_digits : List ℕ → ℕ → List ℕ
  put_digits out zero = out
  put_digits out (suc n) = put_digit (put_digits out n) n

-- ---- leaves: the lengths of their words, the words with zeros behind them up to a common width, and the weights

-- the digit at a place of the words, or its mirror image
unfoldable pub word_digit : ℕ → List ℕ → Bool → ℕ → ℕ
word_digit positive words mirrored p = cond mirrored (mirror_index positive (get_or words p 0)) (get_or words p 0)

module _ (positive width : ℕ) (words : List ℕ) where
  -- the word of leaf k, or its mirror image, as a number: numbers have the order of the words
  unfoldable pub word_number : Bool → ℕ → ℕ
  word_number mirrored k = number 256 (λ i. word_digit positive words mirrored (width * k + i)) width

  -- how many of leaf k's word and its mirror image are below a number. The image of a word that begins with zero is a stored word too, and
  -- counts there
  unfoldable pub images_below : ℕ → ℕ → ℕ
  images_below limit k =
      cond (ltb (word_number false k) limit) 1 0 + cond (eqb (get_or words (width * k) 0) 0) 0 (cond (ltb (word_number true k) limit) 1 0)

  -- n digits of a word
  unfoldable pub put_word : Bool → ℕ → List ℕ → ℕ → ℕ → List ℕ
  put_word mirrored k out at zero = out
  put_word mirrored k out at (suc n) = set (put_word mirrored k out at n) (at + n) (word_digit positive words mirrored (width * k + n))

  module _ (lengths : List ℕ) where
    -- the number of a leaf in the whole table, and where its word starts: as many leaves, and as many digits, are below it
    unfoldable pub leaf_place : ℕ → ℕ → ℕ
    leaf_place limit n = total (images_below limit) n

    unfoldable pub word_place : ℕ → ℕ → ℕ
    word_place limit n = total (λ k. images_below limit k * get_or lengths k 0) n

    module _ (weights : List ℕ) (leaves_at words_at : ℕ) where
      -- offset, length and weight in the record of a leaf of the whole table, and the word where it starts
      unfoldable pub put_record : Bool → ℕ → ℕ → ℕ → List ℕ → List ℕ
      put_record mirrored k leaf start out =
          let at = leaves_at + 8 * leaf in
          put_word mirrored k
          (put_number (put_number (put_number out at start) (at + 2) (get_or lengths k 0)) (at + 4) (bits_of (image_number mirrored (get_or weights k 0))))
          (words_at + start)
          (get_or lengths k 0)

      -- leaf k, or its mirror image, in its place
      unfoldable pub put_leaf : Bool → ℕ → List ℕ → List ℕ
      put_leaf mirrored k out =
          let limit = word_number mirrored k in
          put_record mirrored k (leaf_place limit (length lengths)) (word_place limit (length lengths)) out

      -- the first n leaves and their mirror images
      unfoldable pub put_leaves : List ℕ → ℕ → List ℕ
      put_leaves out zero = out
      put_leaves out (suc n) = put_leaf true n (put_leaf false n (put_leaves out n))

-- the whole file, in a buffer of its length: directory and base as they are given, digits and leaves where the directory says
unfoldable pub mirrored_file : List ℕ → List ℕ → List ℕ → List ℕ → ℕ → List ℕ → List ℕ → List ℕ → List ℕ
mirrored_file out head alphabet inputs width lengths words weights =
    put_leaves (length inputs - 1) width words lengths weights (section_start head 3) (section_start head 4)
    (put_digits inputs (section_start head 2) (put_digits alphabet (section_start head 1) (overwrite out 0 head) (length alphabet)) (length inputs))
    (length lengths)
