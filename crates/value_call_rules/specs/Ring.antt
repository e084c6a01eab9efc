-- For the laws only: the ring of a file's degree, its elements as lists of d parts (document 02, job 8).
use Rattle.std.specs.Prelude.{List, ℕ, ◌*◌, ℤ}
use Rattle.ring.specs.Degree.{part_count}
use Rattle.ring.specs.Element.{zeros, plus, minus}
use Rattle.ring.specs.Product.{product}
use Rattle.layout_rules.specs.Section.{element_size, degree_in}
use Rattle.digit_rules.specs.Base.{omega_of, beta_of}
use Rattle.digit_rules.specs.Record.{parts_at}
use Rattle.numeration.specs.Group.{Operations}
use Rattle.reader_rules.specs.Table.{base_part, alphabet_part}

-- sums part by part, and the product with β in the ring of ω
abbrev pub ring_of : List ℕ → Operations (List ℤ)
ring_of file =
    record {
      none = zeros (part_count (degree_in file));
      sum = plus;
      difference = minus;
      base = product (omega_of (base_part file)) (beta_of (base_part file));
    }

-- the d parts of an alphabet digit
abbrev pub digit_parts : List ℕ → ℕ → List ℤ
digit_parts file index = parts_at (alphabet_part file) (index * element_size (degree_in file))
