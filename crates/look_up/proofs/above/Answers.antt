-- A word that lies in section 4 is compared with the window as a number, any other byte by byte; both say the same of the code.
use Rattle.layout_rules.specs.Section.{of_degree}
use Rattle.look_up.proofs.Comparison.{window_read, numbers_read}
use native.Mathlib.Omega.{arith}
use Prim.Native.Nat.{min}
use mathlib.Core.Path.{◌∙◌, ap₂, refl}
use Rattle.look_up.proofs.above.Goals as goal

pub word_number-requires : goal.word_number-requires
word_number-requires c = c.is_inside.ensures c.if-is_inside.true

pub returns-then-is_inside : goal.returns-then-is_inside
returns-then-is_inside c =
    let a = c.args in
    numbers_read (of_degree a.degree a.leaves.now) a.words.now a.window.now a.leaf c.word_start-start.result c.word_length-length.result c.eight.result c.word_number.result
    c.word_start-start.ensures.start c.word_length-length.ensures.size (c.is_inside.ensures c.if-is_inside.true).1 c.eight.ensures.bytes (λ i. omega (arith, c.type_inv.words i)) c.eight.ensures.number c.word_number.ensures

pub returns-else-is_inside : goal.returns-else-is_inside
returns-else-is_inside c =
    let a = c.args in
    c.lower.ensures ∙ window_read (of_degree a.degree a.leaves.now) a.words.now a.window.now _ _ _ c.word_start-start.ensures.start (c.min.ensures ∙ ap₂ min c.word_length-length.ensures.size refl)
