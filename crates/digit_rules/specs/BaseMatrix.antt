-- Pinned by base_rows and base_product (proofs/Base.antt): a reader may skip this file. Multiplication by the base that a base section
-- gives, for every degree.
use Rattle.std.specs.Prelude.{List, ℤ}
use Rattle.ring.specs.Padded.{padded_matrix}
use Rattle.layout_rules.specs.Section.{Section}
use Rattle.digit_rules.specs.Base.{omega_of, beta_of}

unfoldable pub base_matrix : Section → List (List ℤ)
base_matrix base = padded_matrix (omega_of base) (beta_of base)
