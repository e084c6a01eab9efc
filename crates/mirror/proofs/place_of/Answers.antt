use Rattle.mirror_rules.proofs.Place.{places_none, leaf_next, word_next}
use Rattle.mirror_rules.specs.Half.{leaf_place, word_place}
use native.Mathlib.Nat.{mul-le-mul}
use native.Mathlib.Omega.{arith}
use lib.ListN.{length}
use Prim.Native.Nat.{◌+◌, ◌*◌, ◌≤◌}
use mathlib.Core.Path.{◌≡◌, sym, ap, ◌∙◌}
use Rattle.mirror.proofs.place_of.Goals as goal

pub loop-k-init : goal.loop-k-init
loop-k-init c = let none = places_none c.args.shape.positive c.args.shape.width c.args.words.now c.args.limit c.args.lengths.now in (sym none.0, sym none.1, omega arith, omega arith)

pub overflow_mul-word : goal.overflow_mul-word
overflow_mul-word c = let low : c.from.result ≤ 256 = omega (arith, c.from.ensures) in omega (arith, mul-le-mul c.images_below-images.ensures.within low)

pub overflow_add-word : goal.overflow_add-word
overflow_add-word c = let low : c.from.result ≤ 256 = omega (arith, c.from.ensures) in omega (arith, mul-le-mul c.images_below-images.ensures.within low)

pub loop-k-preserved : goal.loop-k-preserved
loop-k-preserved c = let low : c.from.result ≤ 256 = omega (arith, c.from.ensures) in ((λ i. c.loop-k.invariant.0 i + c.images_below-images.ensures.images i) ∙ sym (leaf_next c.args.shape.positive c.args.shape.width c.args.words.now c.args.limit c.args.lengths.now c.loop-k.k), (λ i. c.loop-k.invariant.1 i + c.images_below-images.ensures.images i * (c.from.ensures ∙ c.byte_at.ensures) i) ∙ sym (word_next c.args.shape.positive c.args.shape.width c.args.words.now c.args.limit c.args.lengths.now c.loop-k.k), omega (arith, c.images_below-images.ensures.within), omega (arith, mul-le-mul c.images_below-images.ensures.within low))

pub returns : goal.returns
returns c = let end : c.loop-k.k ≡ length c.args.lengths.now = omega arith in record { leaf = c.loop-k.invariant.0 ∙ ap (leaf_place c.args.shape.positive c.args.shape.width c.args.words.now c.args.lengths.now c.args.limit) end; word = c.loop-k.invariant.1 ∙ ap (word_place c.args.shape.positive c.args.shape.width c.args.words.now c.args.lengths.now c.args.limit) end; within = (omega arith, omega arith) }
