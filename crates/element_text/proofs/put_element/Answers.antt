-- The parts, or a 0 where none of them was written.
use mathlib.Core.Path.{◌≡◌, ap, ◌∙◌}
use mathlib.Core.List.{List, [], ◌∷◌, ◌++◌, append-nil}
use Prim.Native.Nat.{ℕ}
use native.Mathlib.Omega.{arith}
use lib.ListN.{length, length-append}
use Rattle.std.proofs.Common.{rules}
use Rattle.text_rules.specs.Bytes.{bytes_of}
use Rattle.listing_rules.specs.Element.{parts_text}
use Rattle.listing_rules.proofs.Element.{element_none, element_some, element_room}
use Rattle.element_text.proofs.put_element.Goals as goal

-- what was written, by the lengths before and after
module _ (s t parts : List ℕ) (m n : ℕ) (from : n ≡ length s) (to : m ≡ length t) (put : t ≡ s ++ parts) where
  emptied : m ≡ n → (length parts ≡ 0) × (t ≡ s)
  emptied h =
      let none : length parts ≡ 0 = omega (arith, ap length put, length-append s parts) in
      (none, go parts none put)
    where
      go : (a : List ℕ) → length a ≡ 0 → t ≡ s ++ a → t ≡ s
      go [] z e = e ∙ append-nil s
      go (b ∷ a) z e = absurd (omega arith)

  some : (m ≡ n → ⊥) → length parts ≡ 0 → ⊥
  some h z = h (omega (arith, ap length put, length-append s parts))

pub put_parts-requires : goal.put_parts-requires
put_parts-requires g c = (search rules, (omega (arith, element_room c.args.x, c.requires.room), c.requires.parts))

pub put-requires : goal.put-requires
unfolding bytes_of
put-requires g c =
    let empty = emptied c.args.text.now c.put_parts.new.text (parts_text c.args.x 4) _ _ c.len-start.ensures.count c.len.ensures.count c.put_parts.ensures c.if-len-start.true in
    (search rules, omega (arith, c.requires.room, ap length (element_none c.args.x empty.0), ap length empty.1))

pub returns-then-len-start : goal.returns-then-len-start
unfolding bytes_of
returns-then-len-start g c =
    let empty = emptied c.args.text.now c.put_parts.new.text (parts_text c.args.x 4) _ _ c.len-start.ensures.count c.len.ensures.count c.put_parts.ensures c.if-len-start.true in
    rw (element_none c.args.x empty.0) (c.put.ensures ∙ ap (λ s. s ++ bytes_of "0") empty.1)

pub returns-else-len-start : goal.returns-else-len-start
returns-else-len-start g c =
    let some_part = some c.args.text.now c.put_parts.new.text (parts_text c.args.x 4) _ _ c.len-start.ensures.count c.len.ensures.count c.put_parts.ensures c.if-len-start.false in
    rw (element_some c.args.x some_part) c.put_parts.ensures
