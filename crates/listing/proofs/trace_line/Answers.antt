-- T and N are found for the numbers of the section and fit 32 bits; five pieces, one behind the other.
use Rattle.text.proofs.Behind.{last, next, line}
use Rattle.listing_rules.proofs.Lines.{expanding_short}
use Rattle.listing_rules.proofs.Element.{whole_short}
use Rattle.listing_rules.specs.Listing.{expanding_word, norm_line, norm_line_of}
use Rattle.digit_rules.proofs.Base.{base_limits}
use Rattle.digit_rules.proofs.Record.{passed_on}
use Rattle.digit_rules.specs.Base.{sOf, tOf, uOf, vOf}
use Rattle.digit_rules.specs.Digits.{BasePart}
use Rattle.digit_rules.specs.Record.{parts_at, element_at}
use Rattle.text_rules.specs.Decimal.{decimal_z}
use Rattle.text_rules.specs.Bytes.{bytes_of}
use Rattle.ring.proofs.Parts.{trace_size, norm_size}
use Rattle.ring.specs.Tests.{BaseLimits, expanding}
use Rattle.ring.specs.declared.Degree.TheVariants.{Two}
use Rattle.ring.specs.Padded.{padded}
use Rattle.layout_rules.specs.Section.{Section, of_degree}
use Rattle.ring.specs.Base.{base_trace, base_norm}
use Rattle.integers.proofs.Machine.{Term, leaf, plain_fits, stored_is}
use Rattle.lists.specs.Span.{span}
use mir.Val.{SFits, to_z, of_z}
use mir.Syntax.{w32, w64}
use lib.ListN.{length, length-append}
use lib.IntN.{ℤ, nat_abs}
use native.Mathlib.Omega.{arith}
use Prim.Native.Nat.{ℕ, ◌≤◌}
use mathlib.Core.List.{List, ◌++◌}
use mathlib.Core.Bool.{Bool}
use mathlib.Core.Path.{◌≡◌, refl, ap, ◌∙◌}
use Rattle.listing.proofs.trace_line.Goals as goal

-- the four numbers as the machine holds them
abbrev held : ℤ → ℤ
held z = to_z w64 (of_z w64 z)

-- a number that was found, as it is cast to 32 bits
module _ (z n : ℤ) (found : z ≡ n) (h : nat_abs n ≤ 528384) where
  abbrev number : Term
  number = leaf n 528384 h

  narrow : to_z w32 (of_z w32 (held z)) ≡ n
  narrow =
      ap (λ y. to_z w32 (of_z w32 (held y))) found ∙ ap (λ y. to_z w32 (of_z w32 y)) (stored_is w64 number refl) ∙ stored_is w32 number refl

  cast_fits : SFits w32 (held z)
  cast_fits = rw (found, stored_is w64 number refl) (plain_fits w32 number refl)

-- the four numbers of the section as they were read and are handed on
abbrev Read : List ℕ → ℤ → ℤ → ℤ → ℤ → Type 0
Read bytes s t u v =
    let base : Section = of_degree Two bytes in
    (held s ≡ sOf base) × ((held t ≡ tOf base) × ((held u ≡ uOf base) × (held v ≡ vOf base)))

module _ (bytes : List ℕ) (part : BasePart (of_degree Two bytes)) (s t u v : ℤ) (numbers : Read bytes s t u v) where
  abbrev base : Section
  base = of_degree Two bytes

  abbrev trace : ℤ
  trace = base_trace (sOf base) (uOf base) (vOf base)

  abbrev norm : ℤ
  norm = base_norm (sOf base) (tOf base) (uOf base) (vOf base)

  small : BaseLimits (sOf base) (tOf base) (uOf base) (vOf base)
  small = base_limits bytes part

  limits : BaseLimits (held s) (held t) (held u) (held v)
  limits = rw (numbers.0, numbers.1.0, numbers.1.1.0, numbers.1.1.1) small

  trace_small : nat_abs trace ≤ 528384
  trace_small = omega (arith, trace_size (sOf base) (uOf base) (vOf base) small.of_s small.of_u small.of_v)

  trace_short : length (decimal_z trace) ≤ 7
  trace_short = whole_short 5 trace (omega (arith, trace_small))

  norm_short : length (decimal_z norm) ≤ 7
  norm_short = whole_short 5 norm (omega (arith, norm_size small))

  module _ (z : ℤ) where
    trace_is : z ≡ base_trace (held s) (held u) (held v) → z ≡ trace
    trace_is e = rw (numbers.0, numbers.1.1.0, numbers.1.1.1) at e

    trace_fits : z ≡ base_trace (held s) (held u) (held v) → SFits w32 (held z)
    trace_fits e = cast_fits z trace (trace_is e) trace_small

    trace_cast : z ≡ base_trace (held s) (held u) (held v) → to_z w32 (of_z w32 (held z)) ≡ trace
    trace_cast e = narrow z trace (trace_is e) trace_small

    norm_is : z ≡ base_norm (held s) (held t) (held u) (held v) → z ≡ norm
    norm_is e = rw (numbers.0, numbers.1.0, numbers.1.1.0, numbers.1.1.1) at e

    norm_fits : z ≡ base_norm (held s) (held t) (held u) (held v) → SFits w32 (held z)
    norm_fits e = cast_fits z norm (norm_is e) (norm_size small)

    norm_cast : z ≡ base_norm (held s) (held t) (held u) (held v) → to_z w32 (of_z w32 (held z)) ≡ norm
    norm_cast e = narrow z norm (norm_is e) (norm_size small)

  expanding_is : (b : Bool) → b ≡ expanding (held s) (held t) (held u) (held v) → b ≡ expanding (sOf base) (tOf base) (uOf base) (vOf base)
  expanding_is b e = rw (numbers.0, numbers.1.0, numbers.1.1.0, numbers.1.1.1) at e

pub base_trace-requires : goal.base_trace-requires
unfolding element_at parts_at padded span
base_trace-requires c = let l = limits c.args.base.now c.requires c.signed-s.result c.signed-t.result c.signed-u.result c.signed-v.result (passed_on _ _ (c.signed-s.ensures.number, c.signed-s.ensures.within), (passed_on _ _ (c.signed-t.ensures.number, c.signed-t.ensures.within), (passed_on _ _ (c.signed-u.ensures.number, c.signed-u.ensures.within), passed_on _ _ (c.signed-v.ensures.number, c.signed-v.ensures.within)))) in (l.of_s, l.of_u, l.of_v)

pub overflow_cast-base_trace : goal.overflow_cast-base_trace
unfolding element_at parts_at padded span
overflow_cast-base_trace c = trace_fits c.args.base.now c.requires c.signed-s.result c.signed-t.result c.signed-u.result c.signed-v.result (passed_on _ _ (c.signed-s.ensures.number, c.signed-s.ensures.within), (passed_on _ _ (c.signed-t.ensures.number, c.signed-t.ensures.within), (passed_on _ _ (c.signed-u.ensures.number, c.signed-u.ensures.within), passed_on _ _ (c.signed-v.ensures.number, c.signed-v.ensures.within)))) c.base_trace.result c.base_trace.ensures

pub signed-requires : goal.signed-requires
unfolding element_at parts_at padded span
signed-requires c = (omega arith, rw (trace_cast c.args.base.now c.requires c.signed-s.result c.signed-t.result c.signed-u.result c.signed-v.result (passed_on _ _ (c.signed-s.ensures.number, c.signed-s.ensures.within), (passed_on _ _ (c.signed-t.ensures.number, c.signed-t.ensures.within), (passed_on _ _ (c.signed-u.ensures.number, c.signed-u.ensures.within), passed_on _ _ (c.signed-v.ensures.number, c.signed-v.ensures.within)))) c.base_trace.result c.base_trace.ensures) (simp (c.put.ensures, c.new-text.ensures) (omega (arith, trace_short c.args.base.now c.requires c.signed-s.result c.signed-t.result c.signed-u.result c.signed-v.result (passed_on _ _ (c.signed-s.ensures.number, c.signed-s.ensures.within), (passed_on _ _ (c.signed-t.ensures.number, c.signed-t.ensures.within), (passed_on _ _ (c.signed-u.ensures.number, c.signed-u.ensures.within), passed_on _ _ (c.signed-v.ensures.number, c.signed-v.ensures.within))))))))

pub put-requires-2 : goal.put-requires-2
unfolding element_at parts_at padded span
put-requires-2 c = (omega arith, simp (c.signed.ensures, trace_cast c.args.base.now c.requires c.signed-s.result c.signed-t.result c.signed-u.result c.signed-v.result (passed_on _ _ (c.signed-s.ensures.number, c.signed-s.ensures.within), (passed_on _ _ (c.signed-t.ensures.number, c.signed-t.ensures.within), (passed_on _ _ (c.signed-u.ensures.number, c.signed-u.ensures.within), passed_on _ _ (c.signed-v.ensures.number, c.signed-v.ensures.within)))) c.base_trace.result c.base_trace.ensures, c.put.ensures, c.new-text.ensures, length-append) (omega (arith, trace_short c.args.base.now c.requires c.signed-s.result c.signed-t.result c.signed-u.result c.signed-v.result (passed_on _ _ (c.signed-s.ensures.number, c.signed-s.ensures.within), (passed_on _ _ (c.signed-t.ensures.number, c.signed-t.ensures.within), (passed_on _ _ (c.signed-u.ensures.number, c.signed-u.ensures.within), passed_on _ _ (c.signed-v.ensures.number, c.signed-v.ensures.within)))))))

pub base_norm-requires : goal.base_norm-requires
unfolding element_at parts_at padded span
base_norm-requires c = limits c.args.base.now c.requires c.signed-s.result c.signed-t.result c.signed-u.result c.signed-v.result (passed_on _ _ (c.signed-s.ensures.number, c.signed-s.ensures.within), (passed_on _ _ (c.signed-t.ensures.number, c.signed-t.ensures.within), (passed_on _ _ (c.signed-u.ensures.number, c.signed-u.ensures.within), passed_on _ _ (c.signed-v.ensures.number, c.signed-v.ensures.within))))

pub overflow_cast-base_norm : goal.overflow_cast-base_norm
unfolding element_at parts_at padded span
overflow_cast-base_norm c = norm_fits c.args.base.now c.requires c.signed-s.result c.signed-t.result c.signed-u.result c.signed-v.result (passed_on _ _ (c.signed-s.ensures.number, c.signed-s.ensures.within), (passed_on _ _ (c.signed-t.ensures.number, c.signed-t.ensures.within), (passed_on _ _ (c.signed-u.ensures.number, c.signed-u.ensures.within), passed_on _ _ (c.signed-v.ensures.number, c.signed-v.ensures.within)))) c.base_norm.result c.base_norm.ensures

pub signed-requires-2 : goal.signed-requires-2
unfolding element_at parts_at padded span
signed-requires-2 c = (omega arith, simp (c.put-2.ensures, c.signed.ensures, trace_cast c.args.base.now c.requires c.signed-s.result c.signed-t.result c.signed-u.result c.signed-v.result (passed_on _ _ (c.signed-s.ensures.number, c.signed-s.ensures.within), (passed_on _ _ (c.signed-t.ensures.number, c.signed-t.ensures.within), (passed_on _ _ (c.signed-u.ensures.number, c.signed-u.ensures.within), passed_on _ _ (c.signed-v.ensures.number, c.signed-v.ensures.within)))) c.base_trace.result c.base_trace.ensures, norm_cast c.args.base.now c.requires c.signed-s.result c.signed-t.result c.signed-u.result c.signed-v.result (passed_on _ _ (c.signed-s.ensures.number, c.signed-s.ensures.within), (passed_on _ _ (c.signed-t.ensures.number, c.signed-t.ensures.within), (passed_on _ _ (c.signed-u.ensures.number, c.signed-u.ensures.within), passed_on _ _ (c.signed-v.ensures.number, c.signed-v.ensures.within)))) c.base_norm.result c.base_norm.ensures, c.put.ensures, c.new-text.ensures, length-append) (omega (arith, trace_short c.args.base.now c.requires c.signed-s.result c.signed-t.result c.signed-u.result c.signed-v.result (passed_on _ _ (c.signed-s.ensures.number, c.signed-s.ensures.within), (passed_on _ _ (c.signed-t.ensures.number, c.signed-t.ensures.within), (passed_on _ _ (c.signed-u.ensures.number, c.signed-u.ensures.within), passed_on _ _ (c.signed-v.ensures.number, c.signed-v.ensures.within)))), norm_short c.args.base.now c.requires c.signed-s.result c.signed-t.result c.signed-u.result c.signed-v.result (passed_on _ _ (c.signed-s.ensures.number, c.signed-s.ensures.within), (passed_on _ _ (c.signed-t.ensures.number, c.signed-t.ensures.within), (passed_on _ _ (c.signed-u.ensures.number, c.signed-u.ensures.within), passed_on _ _ (c.signed-v.ensures.number, c.signed-v.ensures.within)))))))

pub is_expanding-requires : goal.is_expanding-requires
unfolding element_at parts_at padded span
is_expanding-requires c = limits c.args.base.now c.requires c.signed-s.result c.signed-t.result c.signed-u.result c.signed-v.result (passed_on _ _ (c.signed-s.ensures.number, c.signed-s.ensures.within), (passed_on _ _ (c.signed-t.ensures.number, c.signed-t.ensures.within), (passed_on _ _ (c.signed-u.ensures.number, c.signed-u.ensures.within), passed_on _ _ (c.signed-v.ensures.number, c.signed-v.ensures.within))))

pub put-requires-3 : goal.put-requires-3
unfolding element_at parts_at padded span
put-requires-3 c = (omega arith, simp (c.expanding_word.ensures, c.signed-2.ensures, norm_cast c.args.base.now c.requires c.signed-s.result c.signed-t.result c.signed-u.result c.signed-v.result (passed_on _ _ (c.signed-s.ensures.number, c.signed-s.ensures.within), (passed_on _ _ (c.signed-t.ensures.number, c.signed-t.ensures.within), (passed_on _ _ (c.signed-u.ensures.number, c.signed-u.ensures.within), passed_on _ _ (c.signed-v.ensures.number, c.signed-v.ensures.within)))) c.base_norm.result c.base_norm.ensures, c.put-2.ensures, c.signed.ensures, trace_cast c.args.base.now c.requires c.signed-s.result c.signed-t.result c.signed-u.result c.signed-v.result (passed_on _ _ (c.signed-s.ensures.number, c.signed-s.ensures.within), (passed_on _ _ (c.signed-t.ensures.number, c.signed-t.ensures.within), (passed_on _ _ (c.signed-u.ensures.number, c.signed-u.ensures.within), passed_on _ _ (c.signed-v.ensures.number, c.signed-v.ensures.within)))) c.base_trace.result c.base_trace.ensures, c.put.ensures, c.new-text.ensures, length-append) (omega (arith, trace_short c.args.base.now c.requires c.signed-s.result c.signed-t.result c.signed-u.result c.signed-v.result (passed_on _ _ (c.signed-s.ensures.number, c.signed-s.ensures.within), (passed_on _ _ (c.signed-t.ensures.number, c.signed-t.ensures.within), (passed_on _ _ (c.signed-u.ensures.number, c.signed-u.ensures.within), passed_on _ _ (c.signed-v.ensures.number, c.signed-v.ensures.within)))), norm_short c.args.base.now c.requires c.signed-s.result c.signed-t.result c.signed-u.result c.signed-v.result (passed_on _ _ (c.signed-s.ensures.number, c.signed-s.ensures.within), (passed_on _ _ (c.signed-t.ensures.number, c.signed-t.ensures.within), (passed_on _ _ (c.signed-u.ensures.number, c.signed-u.ensures.within), passed_on _ _ (c.signed-v.ensures.number, c.signed-v.ensures.within)))), expanding_short c.is_expanding.result)))

pub returns : goal.returns
unfolding bytes_of norm_line norm_line_of element_at parts_at padded span
returns c =
    let back = next _ _ _ _ _ c.put-2.ensures (next _ _ _ _ _ (rw (norm_cast c.args.base.now c.requires c.signed-s.result c.signed-t.result c.signed-u.result c.signed-v.result (passed_on _ _ (c.signed-s.ensures.number, c.signed-s.ensures.within), (passed_on _ _ (c.signed-t.ensures.number, c.signed-t.ensures.within), (passed_on _ _ (c.signed-u.ensures.number, c.signed-u.ensures.within), passed_on _ _ (c.signed-v.ensures.number, c.signed-v.ensures.within)))) c.base_norm.result c.base_norm.ensures) at c.signed-2.ensures) (last _ _ _ (c.put-3.ensures ∙ ap (λ w. c.signed-2.new.self ++ w) (c.expanding_word.ensures ∙ ap expanding_word (expanding_is c.args.base.now c.requires c.signed-s.result c.signed-t.result c.signed-u.result c.signed-v.result (passed_on _ _ (c.signed-s.ensures.number, c.signed-s.ensures.within), (passed_on _ _ (c.signed-t.ensures.number, c.signed-t.ensures.within), (passed_on _ _ (c.signed-u.ensures.number, c.signed-u.ensures.within), passed_on _ _ (c.signed-v.ensures.number, c.signed-v.ensures.within)))) c.is_expanding.result c.is_expanding.ensures))))) in
    let whole = line c.new-text.ensures (next _ _ _ _ _ c.put.ensures (next _ _ _ _ _ (rw (trace_cast c.args.base.now c.requires c.signed-s.result c.signed-t.result c.signed-u.result c.signed-v.result (passed_on _ _ (c.signed-s.ensures.number, c.signed-s.ensures.within), (passed_on _ _ (c.signed-t.ensures.number, c.signed-t.ensures.within), (passed_on _ _ (c.signed-u.ensures.number, c.signed-u.ensures.within), passed_on _ _ (c.signed-v.ensures.number, c.signed-v.ensures.within)))) c.base_trace.result c.base_trace.ensures) at c.signed.ensures) back)) in
    whole
