-- Whole lines, by computation.
use mathlib.Core.Path.{◌≡◌, refl}
use Prim.Native.Nat.{ℕ}
use Rattle.faults.specs.Outcome.{Group, facts, refused}
use Rattle.text_rules.specs.Bytes.{bytes_of}
use Rattle.text_rules.specs.Decimal.{decimal_within, decimal}
use Rattle.text_rules.specs.Fault.{refused_word, place_word}
use Rattle.line_rules.specs.Line.{accepted_word, leaves_word, digits_word, accepted_line, refused_line, line_of}

-- the line for TERN's facts, as document 01 gives it: it keeps its form and doesn't tell the pairs; and the line for a refusal, whosever it is
pub lines : ((p : ℕ) → line_of (facts (record { depth = 1; leaves = 9; digits = 5; pairs = p })) ≡ bytes_of "accepted depth 1 leaves 9 digits 5\n") × ((whose : Group) → line_of (refused whose 14 2) ≡ bytes_of "refused 14 place 2\n")
unfolding bytes_of decimal_within decimal refused_word place_word accepted_word leaves_word digits_word accepted_line refused_line line_of
lines = (λ p. refl, λ whose. refl)
