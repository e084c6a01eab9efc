-- Laws of a leaf's word, its length, its weight and the depth, for any number and any bytes.
use mathlib.Core.Path.{◌≡◌, ap, ◌∙◌}
use mathlib.Core.List.{List, []}
use Prim.Native.Nat.{ℕ, ◌+◌, ◌-◌, ◌<◌, ◌≤◌, max}
use native.Mathlib.Nat.{div-le_self}
use native.Mathlib.Omega.{arith}
use native.Mathlib.Numerals.{add-one}
use lib.ListN.{length, get_or, take, drop, length-take, length-drop}
use lib.Seq.{get_or-take, get_or-drop}
use borrow.Author.Tests.{lt-ltb, le-ltb, le-leb, lt-leb}
use Rattle.ring.specs.Padded.{width}
use Rattle.ring.specs.Element.{zeros}
use Rattle.layout_rules.specs.Section.{leaf_size, Section}
use Rattle.numeration.specs.LeafOf.{largest, depth}
use Rattle.leaf_rules.specs.Leaf.{leaf_count, word_start, word_length, word_end, weight_of, code_of}
use Rattle.leaf_rules.specs.Given.{word_given, length_given, weight_given}

-- there are no more leaves than bytes
pub leaves_most : (leaves : Section) → leaf_count leaves ≤ length leaves.bytes
leaves_most leaves = div-le_self (length leaves.bytes) (leaf_size leaves.degree)

module _ (leaves : Section) (words : List ℕ) (k : ℕ) where
  pub word_missing : leaf_count leaves ≤ k → [] ≡ word_given leaves words k
  unfolding word_given
  word_missing h = rw (le-ltb _ _ h, word_given)

  pub word_outside : k < leaf_count leaves → length words < word_end leaves k → [] ≡ word_given leaves words k
  unfolding word_given
  word_outside h l = rw (lt-ltb _ _ h, lt-leb _ _ l, word_given)

  pub word_there : k < leaf_count leaves → word_end leaves k ≤ length words → take (word_end leaves k - word_start leaves k) (drop (word_start leaves k) words) ≡ word_given leaves words k
  unfolding word_given
  word_there h l = rw (lt-ltb _ _ h, le-leb _ _ l, word_given)

  -- a part by its bounds as they were read
  pub word_read : (start n : ℕ) → start ≡ word_start leaves k → n ≡ word_length leaves k → k < leaf_count leaves → start + n ≤ length words → take (start + n - start) (drop start words) ≡ word_given leaves words k
  word_read start n starts reads h l = rw (starts, reads) (word_there h (omega arith))

  -- so the part holds the word: its length and its digits
  pub word_length_lem : k < leaf_count leaves → word_end leaves k ≤ length words → length (word_given leaves words k) ≡ word_length leaves k
  word_length_lem h l = rw (← word_there h l) (simp (length-take, length-drop) (omega arith))

  pub word_digit : k < leaf_count leaves → word_end leaves k ≤ length words → (i : ℕ) → i < word_length leaves k → get_or (word_given leaves words k) i 0 ≡ (code_of leaves words).digit k i
  word_digit h l i s = rw (← word_there h l) (get_or-take (word_end leaves k - word_start leaves k) _ i 0 (omega arith) ∙ get_or-drop _ words i 0)

module _ (leaves : Section) (k : ℕ) where
  pub length_there : k < leaf_count leaves → word_length leaves k ≡ length_given leaves k
  unfolding length_given
  length_there h = rw (lt-ltb _ _ h, length_given)

  pub length_missing : leaf_count leaves ≤ k → 0 ≡ length_given leaves k
  unfolding length_given
  length_missing h = rw (le-ltb _ _ h, length_given)

  pub weight_there : k < leaf_count leaves → weight_of leaves k ≡ weight_given leaves k
  unfolding weight_given
  weight_there h = rw (lt-ltb _ _ h, weight_given)

  pub weight_missing : leaf_count leaves ≤ k → zeros width ≡ weight_given leaves k
  unfolding weight_given
  weight_missing h = rw (le-ltb _ _ h, weight_given)

pub largest_next : (f : ℕ → ℕ) (n : ℕ) → largest f (n + 1) ≡ max (largest f n) (f n)
unfolding largest
largest_next f n = rw add-one

-- the longest of the first k words, where these are all
pub depth_end : (leaves : Section) (k longest : ℕ) → longest ≡ largest (word_length leaves) k → k ≡ leaf_count leaves → (words : List ℕ) → longest ≡ depth (code_of leaves words)
unfolding depth
depth_end leaves k longest e all words = e ∙ ap (largest (word_length leaves)) all
