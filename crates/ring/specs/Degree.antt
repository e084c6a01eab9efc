-- The degree of the ring, 2 to 4 (document 02, job 8).
use Rattle.std.specs.Prelude.{ℕ}
use Rattle.ring.specs.declared.Degree.{Degree}
use Rattle.ring.specs.declared.Degree.TheVariants.{Two, Three, Four}

-- "An element gets d parts"
abbrev pub part_count : Degree → ℕ
part_count Two = 2
part_count Three = 3
part_count Four = 4

-- "For d of 4 the base section's numbers are −32 to 32", else −64 to 64: the size limit of the parts of ω to the power d and of β
abbrev pub base_limit : Degree → ℕ
base_limit Two = 64
base_limit Three = 64
base_limit Four = 32
