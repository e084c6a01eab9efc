-- A half with words of two and three digits, formed whole by computation: the leaves in the order of the words of the whole, whose digits are
-- 0, 1 and −1 with the indexes 0, 1 and 2. It has what TERN and BIN haven't: several words that begin with zero, a mirror image that is in
-- another order than its word at the second digit and at the third, and stored numbers below zero.
use mathlib.Core.Path.{◌≡◌, refl}
use mathlib.Core.List.{List, [], ◌∷◌}
use Prim.Native.Nat.{ℕ, ◌+◌, ◌*◌}
use lib.IntN.{ℤ, pos, neg_ℤ}
use lib.ListN.{drop, replicate}
use Rattle.lists.specs.Count.{total}
use Rattle.lists.specs.Span.{span}
use Rattle.layout_rules.specs.Number.{unsigned_at, to_signed, signed_at}
use Rattle.radix.specs.Number.{number}
use Rattle.mirror_rules.specs.Half.{mirror_index, stored_number, image_number, bits_of, put_number, put_digit, put_digits, word_digit, word_number, images_below, leaf_place, word_place, put_word, put_record, put_leaf, put_leaves}

abbrev minus : ℕ → ℤ
minus n = neg_ℤ (pos n)

-- digits 0, 1, 5 and −7 stored: "the rest formed by mirroring"
pub digits : List ℕ
digits = put_digits (0 ∷ 1 ∷ 5 ∷ 249 ∷ []) 0 (replicate 28 0) 4

pub digits_formed : span (λ k. signed_at digits (4 * k)) 0 7 ≡ pos 0 ∷ pos 1 ∷ pos 5 ∷ minus 7 ∷ minus 1 ∷ minus 5 ∷ pos 7 ∷ []
unfolding digits span unsigned_at to_signed mirror_index stored_number image_number bits_of put_number put_digit put_digits
digits_formed = refl

-- the words 00, 01, 02, 10, 110, 111, 112 and 12, and 13 leaves of them
pub leaves : List ℕ
leaves =
    put_leaves 1 3 (0 ∷ 0 ∷ 0 ∷ 0 ∷ 1 ∷ 0 ∷ 0 ∷ 2 ∷ 0 ∷ 1 ∷ 0 ∷ 0 ∷ 1 ∷ 1 ∷ 0 ∷ 1 ∷ 1 ∷ 1 ∷ 1 ∷ 1 ∷ 2 ∷ 1 ∷ 2 ∷ 0 ∷ [])
    (2 ∷ 2 ∷ 2 ∷ 2 ∷ 3 ∷ 3 ∷ 3 ∷ 2 ∷ [])
    (0 ∷ 3 ∷ 253 ∷ 5 ∷ 6 ∷ 7 ∷ 8 ∷ 247 ∷ [])
    0 104 (replicate 136 0) 8

pub leaves_formed : (span (λ k. unsigned_at leaves (8 * k)) 0 13 ≡ 0 ∷ 2 ∷ 4 ∷ 6 ∷ 8 ∷ 11 ∷ 14 ∷ 17 ∷ 19 ∷ 21 ∷ 23 ∷ 26 ∷ 29 ∷ [])
    × (span (λ k. unsigned_at leaves (8 * k + 2)) 0 13 ≡ 2 ∷ 2 ∷ 2 ∷ 2 ∷ 3 ∷ 3 ∷ 3 ∷ 2 ∷ 2 ∷ 2 ∷ 3 ∷ 3 ∷ 3 ∷ [])
    × (span (λ k. signed_at leaves (8 * k + 4)) 0 13 ≡ pos 0 ∷ pos 3 ∷ minus 3 ∷ pos 5 ∷ pos 6 ∷ pos 7 ∷ pos 8 ∷ minus 9 ∷ minus 5 ∷ pos 9 ∷ minus 6 ∷ minus 8 ∷ minus 7 ∷ [])
    × (drop 104 leaves ≡ 0 ∷ 0 ∷ 0 ∷ 1 ∷ 0 ∷ 2 ∷ 1 ∷ 0 ∷ 1 ∷ 1 ∷ 0 ∷ 1 ∷ 1 ∷ 1 ∷ 1 ∷ 1 ∷ 2 ∷ 1 ∷ 2 ∷ 2 ∷ 0 ∷ 2 ∷ 1 ∷ 2 ∷ 2 ∷ 0 ∷ 2 ∷ 2 ∷ 1 ∷ 2 ∷ 2 ∷ 2 ∷ [])
unfolding leaves span total number unsigned_at to_signed mirror_index stored_number image_number bits_of put_number word_digit word_number images_below leaf_place word_place put_word put_record put_leaf put_leaves
leaves_formed = (refl, refl, refl, refl)
