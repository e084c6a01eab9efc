-- Pinned by ready_passed (proofs/Ready.antt): a reader may skip this file. The facts that addition, edit and value go by: where the sections
-- lie, how many records each has, and the depth.
use Rattle.std.specs.Prelude.{List, ℕ}
use Rattle.layout_rules.specs.Section.{section_start, section_end, part_of, record_count}
use Rattle.numeration.specs.LeafOf.{depth}
use Rattle.leaf_rules.specs.Leaf.{code_of}
use Rattle.reader_rules.specs.declared.Part.{Part}
use Rattle.reader_rules.specs.declared.Table.{Table}
use Rattle.reader_rules.specs.Table.{leaf_part, word_part}

-- where a section lies, and how many records it has
unfoldable pub part_facts : List ℕ → ℕ → Part
part_facts file section =
    record { start = section_start file section; end = section_end file section; count = record_count section (part_of file section) }

unfoldable pub table_facts : List ℕ → Table
table_facts file =
    record {
      base = part_facts file 0;
      alphabet = part_facts file 1;
      inputs = part_facts file 2;
      leaves = part_facts file 3;
      words = part_facts file 4;
      depth = depth (code_of (leaf_part file) (word_part file));
    }
