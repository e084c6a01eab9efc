-- The first rows and columns of the matrix are that of the degree.
use mathlib.Core.Path.{◌≡◌, sym, ap, subst, ◌∙◌}
use mathlib.Core.Bool.{not}
use Prim.Native.Nat.{ℕ}
use lib.Dec.{leb, ltb}
use lib.IntN.{nat_abs}
use native.Mathlib.Decide.{dec_lt}
use native.Mathlib.Omega.{arith}
use borrow.Author.Tests.{lt-ltb, le-ltb, lt-leb, le-leb}
use Rattle.ring.specs.Degree.{part_count}
use Rattle.ring.specs.Determinant.{determinant}
use Rattle.ring.specs.Padded.{corner}
use Rattle.ring.specs.Product.{matrix_of}
use Rattle.ring.specs.Tests.{ColumnsWithin}
use Rattle.layout_rules.specs.Section.{Section, of_degree}
use Rattle.digit_rules.specs.Base.{omega_of, beta_of}
use Rattle.digit_rules.proofs.Base.{base_corner, base_columns}
use Rattle.digit_check.proofs.has_large_determinant.Goals as goal

-- not at most 1
above_one : (n : ℕ) → not (leb n 1) ≡ ltb 1 n
above_one n = elim (dec_lt 1 n) [ yes h ↦ rw (lt-ltb 1 n h, lt-leb n 1 h) | no h ↦ rw (le-ltb 1 n (omega arith), le-leb n 1 (omega arith)) ]

pub is_unit_or_zero-requires : goal.is_unit_or_zero-requires
is_unit_or_zero-requires c =
    let base : Section = of_degree c.args.degree c.args.base.now in
    let s = c in subst (ColumnsWithin s.args.degree) (sym c.base_of.ensures) (base_columns (base) s.requires)

pub returns : goal.returns
returns c =
    let base : Section = of_degree c.args.degree c.args.base.now in
    let s = c in
    let d = part_count s.args.degree in
    ap not (c.is_unit_or_zero.ensures ∙ ap (λ m. leb (nat_abs (determinant d (corner d m))) 1) c.base_of.ensures ∙ ap (λ m. leb (nat_abs (determinant d m)) 1) (base_corner (base)))
    ∙ above_one (nat_abs (determinant d (matrix_of (omega_of (base)) (beta_of (base)))))
