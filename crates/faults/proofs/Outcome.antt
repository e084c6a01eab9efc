-- What a fault of each group states, refused in that group's name with its number and its place; the groups' numbers.
use mathlib.Core.Path.{◌≡◌, refl}
use Prim.Native.Nat.{ℕ, ◌<◌}
use native.Mathlib.Omega.{arith}
use Rattle.faults.specs.declared.Fault.TheVariants.{Author, Rows, Editor}
use Rattle.faults.specs.Outcome.{Group, group_number, author, rows, editor, refused}
use Rattle.faults.specs.Stated.{refused_by}

module _ {F : Type 0} (n p : ℕ) where
  -- a fault of the table's author
  pub author_refused : refused_by {F = F} (Author n p) ≡ refused author n p
  author_refused = refl

  -- a fault of whoever lends the rows
  pub rows_refused : refused_by {F = F} (Rows n p) ≡ refused rows n p
  rows_refused = refl

  -- a fault of the editor
  pub editor_refused : refused_by {F = F} (Editor n p) ≡ refused editor n p
  editor_refused = refl

-- the three groups have different numbers, none of them 0
pub group_number_lem : (g h : Group) → group_number g ≡ group_number h → g ≡ h
group_number_lem author author e = refl
group_number_lem author rows e = absurd (omega arith)
group_number_lem author editor e = absurd (omega arith)
group_number_lem rows author e = absurd (omega arith)
group_number_lem rows rows e = refl
group_number_lem rows editor e = absurd (omega arith)
group_number_lem editor author e = absurd (omega arith)
group_number_lem editor rows e = absurd (omega arith)
group_number_lem editor editor e = refl

pub some_group : (g : Group) → 0 < group_number g
some_group author = omega arith
some_group rows = omega arith
some_group editor = omega arith
