-- The base section (document 01, "Table file", section 0; document 02, job 8): "the parts of ω to the power d, highest power first,
-- then those of β, lowest first"; at degree two s and t, then u and v.
use Rattle.std.specs.Prelude.{List, ◌-◌, ◌*◌, ℤ}
use Rattle.lists.specs.Span.{span}
use Rattle.ring.specs.Element.{part}
use Rattle.ring.specs.Degree.{part_count}
use Rattle.layout_rules.specs.Number.{signed_at}
use Rattle.layout_rules.specs.Section.{element_size, Section}
use Rattle.digit_rules.specs.Record.{parts_at, record_at}

-- both lowest power first, as the ring takes them
unfoldable pub omega_of : Section → List ℤ
omega_of base = span (λ k. signed_at base.bytes (2 * (part_count base.degree - 1 - k))) 0 (part_count base.degree)

unfoldable pub beta_of : Section → List ℤ
beta_of base = parts_at base (element_size base.degree)

-- the four numbers of degree two: the parts of the two records
abbrev pub sOf : Section → ℤ
sOf base = part (record_at base 0) 0

abbrev pub tOf : Section → ℤ
tOf base = part (record_at base 0) 1

abbrev pub uOf : Section → ℤ
uOf base = part (record_at base 1) 0

abbrev pub vOf : Section → ℤ
vOf base = part (record_at base 1) 1
