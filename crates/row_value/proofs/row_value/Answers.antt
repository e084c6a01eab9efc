use Rattle.ring.specs.Degree.{part_count}
use Rattle.layout_rules.specs.Section.{of_degree}
use Rattle.row_value_rules.proofs.Total.{turn, stop, end, zeros_passed}
use Rattle.row_value_rules.proofs.Limit.{limited_within}
use Rattle.row_value_rules.specs.Total.{total_limit, place_digit, next_total, worth_of}
use Rattle.ring.specs.Element.{plus}
use Rattle.ring.proofs.Parts.{within_four}
use Rattle.ring.proofs.Element.{within_le}
use Rattle.faults.specs.Outcome.{facts}
use lib.ListN.{length}
use lib.IntN.{ℤ, pos}
use lib.Dec.{lit≤}
use native.Mathlib.Omega.{arith}
use Prim.Native.Nat.{ℕ, ◌-◌, ◌^◌, zero-le}
use mathlib.Core.List.{List}
use Rattle.ring.specs.Padded.{padded_times}
use mathlib.Core.Path.{◌≡◌, sym, ap, ap₂, ◌∙◌}
use Rattle.row_value.proofs.row_value.Goals as goal

-- what comes next, as the code makes it
made : (digit : ℕ → List ℤ) (n : ℕ) (base : List (List ℤ)) (total product read next : List ℤ) (left : ℕ) → next ≡ plus product read → product ≡ padded_times n base total → read ≡ digit (left - 1) → next ≡ next_total n base total (digit (left - 1))
made digit n base total product read next left sum times reads = sum ∙ ap₂ plus times reads

pub loop-place-init : goal.loop-place-init
unfolding worth_of
loop-place-init c =
    let a = c.args in
    let count = c.counted_places-count in
    let passed = zeros_passed (part_count a.degree) a.base (place_digit (of_degree a.degree a.alphabet.now) a.row.now) count.result (length a.row.now) count.ensures.within count.ensures.zeros in
    (count.ensures.within, within_four total_limit (pos 0) (pos 0) (pos 0) (pos 0) zero-le zero-le zero-le zero-le, passed)

pub times_base-product-requires : goal.times_base-product-requires
times_base-product-requires c = (c.requires.0, within_le total_limit (2 ^ 32) _ (lit≤ tt) c.loop-place.invariant.1)

pub sum-next-requires : goal.sum-next-requires
sum-next-requires c = (within_le (2 ^ 55) (2 ^ 61) _ (lit≤ tt) c.times_base-product.ensures.within, within_le 32768 (2 ^ 61) _ (lit≤ tt) c.digit_at.ensures.within)

pub returns-then-not-is_limited : goal.returns-then-not-is_limited
returns-then-not-is_limited c =
    stop _ _ _ _ c.loop-place.total _ c.loop-place-test.true (made (place_digit (of_degree c.args.degree c.args.alphabet.now) c.args.row.now) _ _ _ _ _ _ _ c.sum-next.ensures c.times_base-product.ensures.product c.digit_at.ensures.digit) (sym c.is_limited.ensures ∙ c.if-not-is_limited.true) ∙ c.loop-place.invariant.2

pub loop-place-preserved : goal.loop-place-preserved
loop-place-preserved c =
    let within = sym c.is_limited.ensures ∙ c.if-not-is_limited.false in
    (omega arith, limited_within _ within, turn _ _ _ _ c.loop-place.total _ c.loop-place-test.true (made (place_digit (of_degree c.args.degree c.args.alphabet.now) c.args.row.now) _ _ _ _ _ _ _ c.sum-next.ensures c.times_base-product.ensures.product c.digit_at.ensures.digit) within ∙ c.loop-place.invariant.2)

pub returns : goal.returns
returns c = ap facts c.shown.ensures ∙ end _ _ _ _ _ c.loop-place-test.false ∙ c.loop-place.invariant.2
