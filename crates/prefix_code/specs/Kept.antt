-- For helpers' contracts only: what the quick look in front of the scans finds: no rule of 9 to 12 is broken.
use Rattle.std.specs.Prelude.{◌≡◌, List, ℕ, ◌<◌}
use Rattle.layout_rules.specs.Section.{Section}
use Rattle.leaf_rules.specs.Leaf.{leaf_count}
use Rattle.prefix_rules.specs.Check.{place_check, word_index_check, order_check, cover_check}

pub record CodeKept (leaves : Section) (words : List ℕ) (m : ℕ) : Type 0 where
  pub some : 0 < leaf_count leaves
  pub nine : (place_check leaves words).number ≡ 0
  pub ten : (word_index_check words m).number ≡ 0
  pub eleven : (order_check leaves words).number ≡ 0
  pub twelve : (cover_check leaves words m).number ≡ 0
