use mathlib.Core.Path.{refl}
use lib.ListN.{get_or}
use native.Mathlib.Omega.{arith}
use borrow.Author.Tests.{eqb-true}
use Rattle.layout_rules.specs.Section.{of_degree}
use Rattle.lists.proofs.Test.{clash}
use Rattle.prefix_code.proofs.Quick.{strings_room, strings_all, so_far_first, so_far_next, floor_room, share_small, all_kept}
use Rattle.prefix_code.proofs.numbered.Goals as goal

pub loop-leaf-init : goal.loop-leaf-init
loop-leaf-init c = so_far_first (of_degree c.args.degree c.args.leaves.now) c.args.words.now c.args.inputs

pub word_start-start-requires : goal.word_start-start-requires
word_start-start-requires c = omega (arith, c.leaf_count-count.ensures)

pub word_length-length-requires : goal.word_length-length-requires
word_length-length-requires c = omega (arith, c.leaf_count-count.ensures)

pub lies-requires : goal.lies-requires
lies-requires c = (c.word_start-start.ensures.within, c.word_length-length.ensures.within)

pub returns-then-not-lies : goal.returns-then-not-lies
returns-then-not-lies c = λ t. clash t refl

pub offset_bounds-units-length : goal.offset_bounds-units-length
offset_bounds-units-length c = omega (arith, c.word_length-length.ensures.within)

pub bounds-units-length : goal.bounds-units-length
bounds-units-length c = omega (arith, (c.lies.ensures c.if-not-lies.false).2)

pub word_number_by-number-requires : goal.word_number_by-number-requires
word_number_by-number-requires c =
    let l = c.lies.ensures c.if-not-lies.false in
    (l.2, l.3, c.powers-units.ensures c.word_length-length.result l.1 l.2)

pub returns-then-number-floor : goal.returns-then-number-floor
returns-then-number-floor c = λ t. clash t refl

pub overflow_add-end : goal.overflow_add-end
overflow_add-end c = omega (arith, c.word_start-start.ensures.within, c.word_length-length.ensures.within)

pub offset_bounds-units-length-in-loop-leaf : goal.offset_bounds-units-length-in-loop-leaf
offset_bounds-units-length-in-loop-leaf c = omega (arith, c.word_length-length.ensures.within)

pub bounds-units-length-in-loop-leaf : goal.bounds-units-length-in-loop-leaf
bounds-units-length-in-loop-leaf c = omega (arith, (c.lies.ensures c.if-not-lies.false).2)

pub overflow_add-floor : goal.overflow_add-floor
overflow_add-floor c =
    let a = c.args in
    let pre = c.requires in
    let powers = c.powers-units in
    let powers2 = c.powers-shares in
    let leaf-count = c.leaf_count-count in
    let loop = c.loop-leaf in
    let word-start = c.word_start-start in
    let word-length = c.word_length-length in
    let l = c.lies.ensures c.if-not-lies.false in
    omega (
      arith,
      floor_room (of_degree a.degree a.leaves.now) a.words.now a.inputs loop.leaf loop.end loop.floor loop.strings word-start.result word-length.result
          c.word_number_by-number.result (get_or powers.result word-length.result 0) (get_or powers2.result word-length.result 0) loop.invariant
          (omega (arith, leaf-count.ensures)) word-start.ensures.start word-length.ensures.size l c.word_number_by-number.ensures (powers.ensures word-length.result l.1 l.2)
          (powers2.ensures word-length.result l.1 l.2) pre.sizes.1 pre.indexes,
    )

pub offset_bounds-shares-length : goal.offset_bounds-shares-length
offset_bounds-shares-length c = omega (arith, c.word_length-length.ensures.within)

pub bounds-shares-length : goal.bounds-shares-length
bounds-shares-length c = omega (arith, (c.lies.ensures c.if-not-lies.false).2)

pub overflow_add-strings : goal.overflow_add-strings
overflow_add-strings c =
    let a = c.args in
    let pre = c.requires in
    let powers2 = c.powers-shares in
    let leaf-count = c.leaf_count-count in
    let loop = c.loop-leaf in
    let loop-test = c.loop-leaf-test in
    let word-length = c.word_length-length in
    let l = c.lies.ensures c.if-not-lies.false in
    omega (arith, leaf-count.ensures, pre.sizes.2, loop-test.true, loop.invariant.small, share_small a.inputs word-length.result (get_or powers2.result word-length.result 0) pre.sizes.1 l.1 (powers2.ensures word-length.result l.1 l.2))

pub loop-leaf-preserved : goal.loop-leaf-preserved
loop-leaf-preserved c =
    let a = c.args in
    let pre = c.requires in
    let powers = c.powers-units in
    let powers2 = c.powers-shares in
    let leaf-count = c.leaf_count-count in
    let loop = c.loop-leaf in
    let word-start = c.word_start-start in
    let word-length = c.word_length-length in
    let l = c.lies.ensures c.if-not-lies.false in
    so_far_next (of_degree a.degree a.leaves.now) a.words.now a.inputs loop.leaf loop.end loop.floor loop.strings word-start.result word-length.result
    c.word_number_by-number.result (get_or powers.result word-length.result 0) (get_or powers2.result word-length.result 0) loop.invariant
    (omega (arith, leaf-count.ensures)) word-start.ensures.start word-length.ensures.size l c.word_number_by-number.ensures (powers.ensures word-length.result l.1 l.2)
    (powers2.ensures word-length.result l.1 l.2) pre.sizes.1 (omega (arith, c.if-number-floor.false))

pub overflow_mul-result : goal.overflow_mul-result
overflow_mul-result c = omega (arith, strings_room c.args.inputs (get_or c.powers-shares.result 1 0) c.requires.sizes.1 (c.powers-shares.ensures 1 (omega arith) (omega arith)))

pub returns-then-end-words : goal.returns-then-end-words
returns-then-end-words c =
    let a = c.args in
    let inputs = a.inputs in
    let powers2 = c.powers-shares in
    let loop = c.loop-leaf in
    λ t. all_kept (of_degree a.degree a.leaves.now) a.words.now inputs loop.leaf loop.end loop.floor loop.strings loop.invariant
    (omega (arith, c.leaf_count-count.ensures, c.loop-leaf-test.false)) c.if-end-words.true
    (strings_all inputs (get_or powers2.result 1 0) loop.strings (powers2.ensures 1 (omega arith) (omega arith)) (eqb-true _ _ t))
