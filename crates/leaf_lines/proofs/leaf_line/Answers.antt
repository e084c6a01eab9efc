-- Six pieces, one behind the other: at most 20, 1, 256, 3, 31 and 1 bytes.
use mathlib.Core.List.{List}
use Prim.Native.Nat.{ℕ, ◌≤◌, ◌<◌}
use native.Mathlib.Omega.{arith}
use lib.IntN.{ℤ}
use lib.ListN.{length, get_or, length-append}
use mir.Syntax.{w64}
use mir.Val.{Fits}
use Rattle.layout_rules.specs.Section.{Section, of_degree}
use Rattle.ring.specs.Tests.{Within}
use Rattle.text.proofs.Behind.{last, next, line}
use Rattle.listing_rules.proofs.Lines.{word_short}
use Rattle.listing_rules.proofs.Element.{element_short, right_short}
use Rattle.listing_rules.specs.Listing.{word_text, leaf_line}
use Rattle.listing_rules.specs.Element.{element_text, right}
use Rattle.text_rules.proofs.Decimal.{decimal_short}
use Rattle.text_rules.specs.Decimal.{decimal}
use Rattle.text_rules.specs.Bytes.{bytes_of}
use Rattle.leaf_lines.proofs.leaf_line.Goals as goal

number_room : (leaf : ℕ) → Fits w64 leaf → length (right 4 (decimal leaf)) ≤ 20
number_room leaf h = right_short 4 (decimal leaf) 20 (omega arith) (decimal_short 19 leaf (omega (arith, h.fits)))

word_room : (inputs : Section) (word : List ℕ) (columns digits : ℕ) → ((k : ℕ) → get_or inputs.bytes k 0 < 256) → columns ≤ 8 → digits ≤ 31 → length (word_text digits inputs word columns) ≤ 256
word_room inputs word columns digits bytes few wide = omega (arith, word_short inputs bytes digits wide word columns)

weight_room : (width : ℕ) (weight : List ℤ) → width ≤ 31 → Within 32768 weight → length (right width (element_text weight)) ≤ 31
weight_room width weight wide parts = right_short width (element_text weight) 31 wide (element_short weight parts)

pub put_right-requires : goal.put_right-requires
put_right-requires c = (omega arith, simp (c.as_bytes.ensures.same, c.decimal.ensures, c.new-text.ensures) (omega (arith, number_room c.args.leaf c.ranges.leaf)))

pub put-requires : goal.put-requires
put-requires c = (omega arith, simp (c.put_right.ensures, c.as_bytes.ensures.same, c.decimal.ensures, c.new-text.ensures) (omega (arith, number_room c.args.leaf c.ranges.leaf)))

pub put_word-requires : goal.put_word-requires
put_word-requires c = (omega arith, simp (c.put.ensures, c.put_right.ensures, c.as_bytes.ensures.same, c.decimal.ensures, c.new-text.ensures, length-append) (omega (arith, number_room c.args.leaf c.ranges.leaf, word_room (of_degree c.args.degree c.args.inputs.now) c.args.word.now c.args.columns.count c.args.columns.digits (λ k. omega (arith, (c.type_inv.inputs k).fits)) c.requires.few.0 c.requires.few.1)))

pub put-requires-2 : goal.put-requires-2
put-requires-2 c = (omega arith, simp (c.put_word.ensures, c.put.ensures, c.put_right.ensures, c.as_bytes.ensures.same, c.decimal.ensures, c.new-text.ensures, length-append) (omega (arith, number_room c.args.leaf c.ranges.leaf, word_room (of_degree c.args.degree c.args.inputs.now) c.args.word.now c.args.columns.count c.args.columns.digits (λ k. omega (arith, (c.type_inv.inputs k).fits)) c.requires.few.0 c.requires.few.1)))

pub put_aligned-requires : goal.put_aligned-requires
put_aligned-requires c = (omega arith, (simp (c.put-2.ensures, c.put_word.ensures, c.put.ensures, c.put_right.ensures, c.as_bytes.ensures.same, c.decimal.ensures, c.new-text.ensures, length-append) (omega (arith, number_room c.args.leaf c.ranges.leaf, word_room (of_degree c.args.degree c.args.inputs.now) c.args.word.now c.args.columns.count c.args.columns.digits (λ k. omega (arith, (c.type_inv.inputs k).fits)) c.requires.few.0 c.requires.few.1, weight_room c.args.columns.weights c.args.weight c.requires.few.2 c.requires.parts)), c.requires.parts))

pub put-requires-3 : goal.put-requires-3
put-requires-3 c = (omega arith, simp (c.put_aligned.ensures, c.put-2.ensures, c.put_word.ensures, c.put.ensures, c.put_right.ensures, c.as_bytes.ensures.same, c.decimal.ensures, c.new-text.ensures, length-append) (omega (arith, number_room c.args.leaf c.ranges.leaf, word_room (of_degree c.args.degree c.args.inputs.now) c.args.word.now c.args.columns.count c.args.columns.digits (λ k. omega (arith, (c.type_inv.inputs k).fits)) c.requires.few.0 c.requires.few.1, weight_room c.args.columns.weights c.args.weight c.requires.few.2 c.requires.parts)))

pub returns : goal.returns
unfolding bytes_of leaf_line
returns c =
    let number = rw (c.as_bytes.ensures.same, c.decimal.ensures) at c.put_right.ensures in
    let rest = next _ _ _ _ _ c.put_word.ensures (next _ _ _ _ _ c.put-2.ensures (next _ _ _ _ _ c.put_aligned.ensures (last _ _ _ c.put-3.ensures))) in
    let whole = line c.new-text.ensures (next _ _ _ _ _ number (next _ _ _ _ _ c.put.ensures rest)) in
    whole
