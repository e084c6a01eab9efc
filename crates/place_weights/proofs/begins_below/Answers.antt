use mathlib.Core.Path.{refl, ◌≡◌, sym, ap, ◌∙◌}
use Rattle.numeration.specs.Conversion.{window}
use Rattle.lists.proofs.Test.{clash}
use borrow.Author.Count.{below_more}
use lib.ListN.{get_or}
use native.Mathlib.Omega.{arith}
use native.Mathlib.Nat.{add-zero}
use Prim.Native.Nat.{ℕ, ◌+◌}
use Rattle.place_weights.proofs.begins_below.Goals as goal

pub word_start-start-requires : goal.word_start-start-requires
word_start-start-requires c = c.requires.0

pub returns-then-byte_at-first : goal.returns-then-byte_at-first
returns-then-byte_at-first c = λ yes. clash yes refl

pub word_length-k-end-requires : goal.word_length-k-end-requires
word_length-k-end-requires c = c.requires.0

pub loop-k-init : goal.loop-k-init
loop-k-init c =
    let a = c.args in
    let words = a.words.now in
    let pre = c.requires in
    let word-start = c.word_start-start in
    λ i l. let e : i ≡ 0 = omega arith in ap (λ (n : ℕ). get_or words (word-start.result + n) 0) e ∙ ap (λ (n : ℕ). get_or words n 0) (add-zero word-start.result) ∙ sym
    c.byte_at.ensures ∙ c.if-byte_at-first.false ∙ pre.1 ∙ ap (window a.row.now a.place) (sym e)

pub returns-then-byte_at-digit_below : goal.returns-then-byte_at-digit_below
returns-then-byte_at-digit_below c = λ yes. clash yes refl

pub loop-k-preserved : goal.loop-k-preserved
loop-k-preserved c = below_more _ _ c.loop-k.invariant (sym c.byte_at-in-loop-k.ensures ∙ c.if-byte_at-digit_below.false ∙ c.digit_below.ensures)

pub returns : goal.returns
returns c = λ _ i l. ap (λ (a : ℕ). get_or c.args.words.now (a + i) 0) (sym c.word_start-start.ensures.start) ∙ c.loop-k.invariant i (omega arith)
