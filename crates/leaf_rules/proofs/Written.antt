-- Leaves of degree two, read back from bytes as document 01 has them written: offset and length of the word, then the weight (a, b), 16 bits a number.
use mathlib.Core.Path.{◌≡◌, ap, ◌∙◌}
use mathlib.Core.List.{List, [], ◌∷◌}
use Prim.Native.Nat.{ℕ, ◌+◌, ◌*◌, ◌<◌}
use native.Mathlib.Omega.{arith}
use lib.ListN.{length, get_or}
use lib.IntN.{pos}
use Rattle.ring.specs.declared.Degree.TheVariants.{Two}
use Rattle.layout_rules.specs.Section.{Section, of_degree}
use Rattle.layout_rules.specs.Number.{unsigned_at, to_signed}
use Rattle.layout_rules.proofs.Written.{pairs_then, directory_read}
use Rattle.digit_rules.specs.Record.{element_at}
use Rattle.digit_rules.proofs.Written.{records_read}
use Rattle.leaf_rules.specs.Leaf.{word_start, word_length, weight_of}

-- leaf k is two pairs: the word's, and the weight
module _ (pairs : List (ℕ × ℕ)) (rest : List ℕ) (k : ℕ) (there : 2 * k + 1 < length pairs) where
  abbrev leaves : Section
  leaves = of_degree Two (pairs_then pairs rest)

  pub word_read : (word_start leaves k ≡ (get_or pairs (2 * k) (0, 0)).0) × (word_length leaves k ≡ (get_or pairs (2 * k) (0, 0)).1)
  word_read =
      let pair = directory_read pairs rest (2 * k) (omega arith) in
      let at : k * 8 ≡ 4 * (2 * k) = omega arith in
      (ap (unsigned_at leaves.bytes) at ∙ pair.0, ap (λ (p : ℕ). unsigned_at leaves.bytes (p + 2)) at ∙ pair.1)

  pub weight_read : weight_of leaves k ≡ to_signed (get_or pairs (2 * k + 1) (0, 0)).0 ∷ to_signed (get_or pairs (2 * k + 1) (0, 0)).1 ∷ pos 0 ∷ pos 0 ∷ []
  weight_read = let at : k * 8 + 4 ≡ (2 * k + 1) * 4 = omega arith in ap (element_at leaves) at ∙ records_read pairs rest (2 * k + 1) there
