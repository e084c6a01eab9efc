-- The part between start and end, as they are read.
use Rattle.reader_rules.proofs.Kept.{directory_room, section_room}
use lib.ListN.{take, drop}
use native.Mathlib.Omega.{arith}
use Prim.Native.Nat.{ℕ, ◌-◌}
use mathlib.Core.Path.{ap₂}
use Rattle.reader.proofs.section.Goals as goal

pub section_start-start-requires : goal.section_start-start-requires
section_start-start-requires c = (c.requires.1, directory_room c.args.file.now c.requires.0)

pub section_end-end-requires : goal.section_end-end-requires
section_end-end-requires c = (c.requires.1, directory_room c.args.file.now c.requires.0)

pub slice_bounds-result-end : goal.slice_bounds-result-end
slice_bounds-result-end c = omega (arith, section_room c.args.file.now c.requires.0 c.args.number c.requires.1, c.section_end-end.ensures)

pub returns : goal.returns
returns c = ap₂ (λ (a e : ℕ). take (e - a) (drop a c.args.file.now)) c.section_start-start.ensures.start c.section_end-end.ensures
