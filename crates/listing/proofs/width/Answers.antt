use mathlib.Core.Path.{◌≡◌, refl, ap, ap₂, ◌∙◌}
use Prim.Native.Nat.{ℕ, ◌+◌, ◌-◌, ◌*◌, ◌/◌, ◌<◌, ◌≤◌}
use mathlib.Core.List.{List}
use native.Mathlib.Omega.{arith}
use lib.ListN.{length}
use Rattle.numeration.specs.LeafOf.{largest}
use Rattle.ring.specs.declared.Degree.{Degree}
use Rattle.listing_rules.specs.Listing.{widest}
use Rattle.listing_rules.specs.Element.{element_text}
use Rattle.listing_rules.proofs.Lines.{element_inside}
use Rattle.leaf_rules.proofs.Leaf.{largest_next}
use Rattle.layout_rules.specs.Section.{of_degree, element_size, record_size, record_count}
use Rattle.layout_rules.specs.Limit.{element_start}
use Rattle.layout_rules.proofs.Limit.{element_held}
use Rattle.layout_rules.proofs.Length.{sized}
use Rattle.digit_rules.specs.Record.{element_at}
use Rattle.listing.proofs.width.Goals as goal

-- where record k's element starts, by the sizes as they were read, and that it ends in the section
module _ (degree : Degree) (part : List ℕ) (section k size element : ℕ) (sizes : size ≡ record_size degree section) (elements : element ≡ element_size degree) where
  starts : k * size + (size - element) ≡ element_start degree section k
  starts = ap₂ (λ (n e : ℕ). k * n + (n - e)) sizes elements

  ends : section < 4 → k < length part / size → k * size + (size - element) + element_size degree ≤ length part
  ends some below = omega (arith, starts, element_inside (of_degree degree part) section k some (rw sizes at below))

pub overflow_sub-skip : goal.overflow_sub-skip
overflow_sub-skip c = omega (arith, element_held c.args.degree c.args.section c.requires, c.size_of_record-size.ensures, c.element_size.ensures)

pub nonzero_div-k-end : goal.nonzero_div-k-end
nonzero_div-k-end c = omega (arith, (sized c.args.degree c.args.section (omega arith)).some, c.size_of_record-size.ensures)

pub loop-k-init : goal.loop-k-init
unfolding largest
loop-k-init c = (refl, omega arith)

pub overflow_mul-k : goal.overflow_mul-k
overflow_mul-k c =
    let a = c.args in
    omega (arith, ends a.degree a.part.now a.section c.loop-k.k c.size_of_record-size.result c.element_size.result c.size_of_record-size.ensures c.element_size.ensures c.requires c.loop-k-test.true)

pub overflow_add-k : goal.overflow_add-k
overflow_add-k c =
    let a = c.args in
    omega (arith, ends a.degree a.part.now a.section c.loop-k.k c.size_of_record-size.result c.element_size.result c.size_of_record-size.ensures c.element_size.ensures c.requires c.loop-k-test.true)

pub element-requires : goal.element-requires
element-requires c =
    let a = c.args in
    ends a.degree a.part.now a.section c.loop-k.k c.size_of_record-size.result c.element_size.result c.size_of_record-size.ensures c.element_size.ensures c.requires c.loop-k-test.true

pub loop-k-preserved : goal.loop-k-preserved
loop-k-preserved c =
    let a = c.args in
    let part = of_degree a.degree a.part.now in
    let next = largest_next (λ i. length (element_text (element_at part (element_start a.degree a.section i)))) c.loop-k.k in
    let read = c.element.ensures.element ∙ ap (element_at part) (starts a.degree a.part.now a.section c.loop-k.k c.size_of_record-size.result c.element_size.result c.size_of_record-size.ensures c.element_size.ensures) in
    (omega (arith, next, c.text_length-length.ensures.count, ap (λ x. length (element_text x)) read), omega (arith, c.text_length-length.ensures.within))

pub returns : goal.returns
unfolding widest
returns c =
    let a = c.args in
    let count : length a.part.now / c.size_of_record-size.result ≡ record_count a.section (of_degree a.degree a.part.now) = ap (λ (n : ℕ). length a.part.now / n) c.size_of_record-size.ensures in
    let all : c.loop-k.k ≡ length a.part.now / c.size_of_record-size.result = omega arith in
    record { count = c.loop-k.invariant.0 ∙ ap (largest _) (all ∙ count); within = c.loop-k.invariant.1 }
