-- Six pieces, one behind the other; the first record has its highest power first and is turned before it is written.
use Prim.Native.Nat.{ℕ, ◌-◌, ◌+◌, ◌^◌, ◌≤◌}
use mathlib.Core.List.{List, ◌++◌}
use mathlib.Core.Path.{◌≡◌, sym, ap, ap₂, ◌∙◌}
use native.Mathlib.Omega.{arith}
use lib.IntN.{ℤ}
use lib.ListN.{length, length-append}
use Rattle.lists.specs.Span.{span}
use Rattle.ring.specs.Degree.{part_count}
use Rattle.ring.specs.Element.{part}
use Rattle.ring.specs.Padded.{padded}
use Rattle.ring.specs.Tests.{Within}
use Rattle.ring.proofs.Element.{within_le, within_span}
use Rattle.ring.proofs.Padded.{within_padded}
use Rattle.ring.proofs.Parts.{within_part}
use Rattle.text_rules.specs.Bytes.{bytes_of}
use Rattle.text_rules.specs.Decimal.{decimal}
use Rattle.text_rules.proofs.Decimal.{decimal_short}
use Rattle.text.proofs.Behind.{last, next, line}
use Rattle.layout_rules.specs.Section.{Section, of_degree}
use Rattle.digit_rules.specs.Base.{omega_of, beta_of}
use Rattle.digit_rules.specs.Record.{record_at}
use Rattle.digit_rules.proofs.Base.{two_records, omega_turned, beta_record}
use Rattle.listing_rules.specs.Element.{element_text}
use Rattle.listing_rules.specs.Listing.{ring_line}
use Rattle.listing_rules.proofs.Element.{element_padded, element_short}
use Rattle.listing.proofs.ring_line.Goals as goal

-- the line of a degree and of two texts
abbrev of_texts : ℕ → List ℕ → List ℕ → List ℕ
of_texts n first second =
    (bytes_of "omega^" ++ decimal n) ++ (bytes_of " = " ++ (first ++ (bytes_of ", base " ++ (second ++ bytes_of "\n"))))

count_short : (n : ℕ) → n ≤ 4 → length (decimal n) ≤ 1
count_short n h = decimal_short 0 n (omega arith)

-- the first record turned: its parts stay small, and it is ω to the power of the degree
module _ (d : ℕ) (x y : List ℤ) (turned : y ≡ padded (span (λ k. part x (d - 1 - k)) 0 d)) where
  turned_small : Within 32768 x → Within 32768 y
  turned_small h = rw turned (within_padded 32768 _ (within_span 32768 _ 0 d (λ k l. within_part 32768 x h (d - 1 - (0 + k)))))

turned_text : (base : Section) (x y : List ℤ) → y ≡ padded (span (λ k. part x (part_count base.degree - 1 - k)) 0 (part_count base.degree)) → x ≡ record_at base 0 → element_text y ≡ element_text (omega_of base)
turned_text base x y turned e =
    ap element_text (turned ∙ ap (λ x. padded (span (λ k. part x (part_count base.degree - 1 - k)) 0 (part_count base.degree))) e ∙ sym (omega_turned base)) ∙ element_padded (omega_of base)

pub item-requires : goal.item-requires
item-requires c = (omega arith, simp c.new-text.ensures (omega (arith, count_short c.part_count.result c.part_count.ensures.within)))

pub put-requires : goal.put-requires
put-requires c = (omega arith, simp (c.item.ensures, c.new-text.ensures) (omega (arith, count_short c.part_count.result c.part_count.ensures.within)))

pub record_at-requires : goal.record_at-requires
record_at-requires c = omega (arith, two_records c.args.degree (length c.args.base.now) c.requires)

pub put_element-requires : goal.put_element-requires
put_element-requires c =
    let small = turned_small _ c.record_at.result c.turned.result c.turned.ensures c.record_at.ensures.within in (
      omega arith,
      (
        simp (c.put.ensures, c.item.ensures, c.new-text.ensures, length-append) (omega (arith, count_short c.part_count.result c.part_count.ensures.within, element_short _ small)),
        within_le 32768 (2 ^ 62) _ (omega arith) small,
      ),
    )

pub put-requires-2 : goal.put-requires-2
put-requires-2 c =
    let small = turned_small _ c.record_at.result c.turned.result c.turned.ensures c.record_at.ensures.within in
    (omega arith, simp (c.put_element.ensures, c.put.ensures, c.item.ensures, c.new-text.ensures, length-append) (omega (arith, count_short c.part_count.result c.part_count.ensures.within, element_short _ small)))

pub record_at-requires-2 : goal.record_at-requires-2
record_at-requires-2 c = omega (arith, two_records c.args.degree (length c.args.base.now) c.requires)

pub put_element-requires-2 : goal.put_element-requires-2
put_element-requires-2 c =
    let small = turned_small _ c.record_at.result c.turned.result c.turned.ensures c.record_at.ensures.within in (
      omega arith,
      (
        simp (c.put-2.ensures, c.put_element.ensures, c.put.ensures, c.item.ensures, c.new-text.ensures, length-append) (omega (arith, count_short c.part_count.result c.part_count.ensures.within, element_short _ small, element_short _ c.record_at-2.ensures.within)),
        within_le 32768 (2 ^ 62) _ (omega arith) c.record_at-2.ensures.within,
      ),
    )

pub put-requires-3 : goal.put-requires-3
put-requires-3 c =
    let small = turned_small _ c.record_at.result c.turned.result c.turned.ensures c.record_at.ensures.within in
    (omega arith, simp (c.put_element-2.ensures, c.put-2.ensures, c.put_element.ensures, c.put.ensures, c.item.ensures, c.new-text.ensures, length-append) (omega (arith, count_short c.part_count.result c.part_count.ensures.within, element_short _ small, element_short _ c.record_at-2.ensures.within)))

pub returns : goal.returns
unfolding bytes_of ring_line
returns c =
    let base : Section = of_degree c.args.degree c.args.base.now in
    let rest = next _ _ _ _ _ c.put_element.ensures (next _ _ _ _ _ c.put-2.ensures (next _ _ _ _ _ c.put_element-2.ensures (last _ _ _ c.put-3.ensures))) in
    let whole = line c.new-text.ensures (next _ _ _ _ _ c.item.ensures (next _ _ _ _ _ c.put.ensures rest)) in
    let first = turned_text base c.record_at.result c.turned.result c.turned.ensures c.record_at.ensures.element in
    let second = ap element_text (c.record_at-2.ensures.element ∙ beta_record base) ∙ element_padded (beta_of base) in
    whole ∙ ap (λ (k : ℕ). of_texts k (element_text c.turned.result) (element_text c.record_at-2.result)) c.part_count.ensures.count ∙ ap₂ (of_texts (part_count base.degree)) first second
