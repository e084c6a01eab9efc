-- The line but for its last byte, and the pairs behind it.
use mathlib.Core.Path.{refl, ap, ◌∙◌}
use mathlib.Core.List.{[], ◌++◌}
use native.Mathlib.Omega.{arith}
use lib.ListN.{length, take}
use lib.Seq.{length-take-le}
use borrow.Author.Rules.{rules}
use Rattle.text_rules.specs.Bytes.{bytes_of}
use Rattle.text_rules.proofs.Fault.{item_room}
use Rattle.printed.specs.Text.{checked_text}
use Rattle.printed.proofs.accepted_text.Goals as goal

pub item-requires : goal.item-requires
item-requires c =
    let line = c.as_bytes-bytes.result.now in
    let cut = c.saturating_sub.result in
    let put = ap length (c.put.ensures ∙ ap (λ t. t ++ take cut line) c.new-text.ensures) in
    (omega arith, omega (arith, put, length-take-le cut line (omega (arith, c.saturating_sub.ensures)), c.saturating_sub.ensures, c.as_bytes-bytes.ensures.within, ap length c.as_bytes-bytes.ensures.same, item_room [] c.args.facts.pairs (search rules)))

pub returns : goal.returns
unfolding bytes_of checked_text
returns c =
    simp (c.item.ensures, c.put.ensures, c.new-text.ensures, c.saturating_sub.ensures, c.as_bytes-bytes.ensures.same, c.accepted_line-line.ensures) refl
