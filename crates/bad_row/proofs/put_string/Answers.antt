-- The upper word where its tail is longer, else its first digit and the lower word behind it.
use mathlib.Core.Path.{◌≡◌, sym, ap, ap₂, ◌∙◌}
use Prim.Native.Nat.{ℕ}
use native.Mathlib.Omega.{arith}
use lib.Seq.{length-take-le}
use lib.ListN.{length, take, length-append}
use borrow.Author.Rules.{rules}
use Rattle.bad_row.proofs.Words.{string_tail, string_lower}
use Rattle.lists.proofs.Overwrite.{overwrite_append}
use Rattle.lists.specs.Overwrite.{overwrite}
use Rattle.bad_row.proofs.put_string.Goals as goal

pub returns-then-lower-upper : goal.returns-then-lower-upper
returns-then-lower-upper c =
    let a = c.args in
    let is = string_tail a.upper.now a.lower.now c.if-lower-upper.true in
    record { bytes = omega (arith, c.put.ensures.next, ap length is); string = c.put.ensures.written ∙ ap (overwrite a.string.now 0) (sym is) }

pub slice_bounds-put-end-3 : goal.slice_bounds-put-end-3
slice_bounds-put-end-3 c = sym (length-take-le 1 c.args.upper.now c.requires.0)

pub put-behind-requires : goal.put-behind-requires
put-behind-requires c =
    let a = c.args in
    let long : length a.string.now ≡ 9 = search rules in
    omega (arith, long, length-take-le 1 a.upper.now c.requires.0)

pub put-requires-2 : goal.put-requires-2
put-requires-2 c =
    let a = c.args in
    let long : length a.string.now ≡ 9 = search rules in
    omega (arith, long, c.put-behind.ensures.next, length-take-le 1 a.upper.now c.requires.0, ap length c.put-behind.ensures.written)

pub returns : goal.returns
returns c =
    let a = c.args in
    let is = string_lower a.upper.now a.lower.now (omega (arith, c.if-lower-upper.false)) in
    let first = length-take-le 1 a.upper.now c.requires.0 in
    let long : length a.string.now ≡ 9 = search rules in record {
      bytes = omega (arith, c.put-2.ensures.next, c.put-behind.ensures.next, ap length is, length-append (take 1 a.upper.now) a.lower.now);
      string = c.put-2.ensures.written
          ∙ ap₂ (λ x (k : ℕ). overwrite x k a.lower.now) c.put-behind.ensures.written c.put-behind.ensures.next
          ∙ overwrite_append a.string.now 0 (take 1 a.upper.now) a.lower.now (omega (arith, long, first))
          ∙ ap (overwrite a.string.now 0) (sym is);
    }
