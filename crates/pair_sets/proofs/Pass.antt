-- An upper leaf passes rule 14 where the weights of the lower leaves that fit are among the good ones.
use mathlib.Core.Path.{◌≡◌, refl, sym, ap, ◌∙◌}
use mathlib.Core.Bool.{Bool, true, false}
use mathlib.Core.List.{List}
use Prim.Native.Nat.{ℕ, ◌+◌, ◌<◌}
use lib.IntN.{ℤ}
use lib.ListN.{get_or}
use lib.Bits.{bit_and}
use native.Mathlib.Omega.{arith}
use borrow.Author.Count.{below_more}
use Rattle.lists.specs.Count.{total}
use Rattle.ring.specs.Degree.{part_count}
use Rattle.lists.proofs.Test.{clash}
use Rattle.ring.specs.Element.{plus}
use Rattle.layout_rules.specs.Section.{Section}
use Rattle.digit_rules.specs.Record.{record_at}
use Rattle.numeration.specs.Elements.{elements}
use Rattle.numeration.specs.Pairs.{Fits}
use Rattle.numeration.specs.PairTests.{fits, pair_passes}
use Rattle.numeration.specs.PairCount.{pairs_below}
use Rattle.numeration.proofs.Agreement.{agree_sound, agree_complete}
use Rattle.numeration.proofs.Runs.{unfit_passes}
use Rattle.leaf_rules.specs.Leaf.{leaf_count, code_of}
use Rattle.prefix_rules.specs.Formed.{LeavesFormed}
use Rattle.table_rules.specs.Pairs.{in_alphabet, upper_part}
use Rattle.table_rules.proofs.Fitting.{pair_is}
use Rattle.weight_sets.specs.Bits.{Has}
use Rattle.pair_sets.specs.Runs.{AllPass, Judgement}
use Rattle.weight_sets.specs.Weights.{WeightsNumbered, Good}
use Rattle.weight_sets.proofs.Bits.{has_part}

-- a look that gives up says nothing of any leaf
pub none_judged : (matrix : List (List ℤ)) (alphabet inputs leaves : Section) (words : List ℕ) → Judgement matrix alphabet inputs leaves words (record { uppers = 0; pairs = 0 })
unfolding pairs_below total
none_judged matrix alphabet inputs leaves words =
    record { some_leaves = omega arith; all_pass = λ u h. absurd (omega arith); pairs_are = refl }

module _ (leaves : Section) (words : List ℕ) (m : ℕ) (input : 0 < m) (is : LeavesFormed leaves words m) (matrix : List (List ℤ)) (inputs alphabet : Section) (numbers first : List ℕ) (count : ℕ) (numbered : WeightsNumbered leaves numbers first count (leaf_count leaves)) where
  module _ (u : ℕ) (hu : u < leaf_count leaves) (lower known : ℕ) (covered : (l : ℕ) → l < leaf_count leaves → Fits (code_of leaves words) u l → Has lower (get_or numbers l 0)) (among : bit_and lower known ≡ lower) (good : Good alphabet leaves first (upper_part matrix inputs leaves words u) known) where
    abbrev passes : ℕ → Bool
    passes l = pair_passes (elements (part_count leaves.degree) matrix) (record_at inputs) (code_of leaves words) (in_alphabet alphabet) u l

    fitting : (l : ℕ) → l < leaf_count leaves → fits (code_of leaves words) u l ≡ true → passes l ≡ true
    unfolding fits
    fitting l hl fit =
        let (in_count, weight) = numbered l hl in
        sym (pair_is leaves words m input is u hu matrix inputs (in_alphabet alphabet) l hl fit)
        ∙ ap (λ w. in_alphabet alphabet (plus (upper_part matrix inputs leaves words u) w)) (sym weight)
        ∙ good (get_or numbers l 0) (has_part lower known among (get_or numbers l 0) (covered l hl (agree_sound _ _ _ fit)))

    upper_all : (l : ℕ) → l < leaf_count leaves → passes l ≡ true
    unfolding fits
    upper_all l hl = go (fits (code_of leaves words) u l) refl
      where
        go : (b : Bool) → fits (code_of leaves words) u l ≡ b → passes l ≡ true
        go true e = fitting l hl e
        go false e = unfit_passes (elements (part_count leaves.degree) matrix) (record_at inputs) (code_of leaves words) (in_alphabet alphabet) u l (λ fit. clash (agree_complete _ _ _ fit) e)

    pub all_next : AllPass matrix alphabet inputs leaves words u → AllPass matrix alphabet inputs leaves words (u + 1)
    all_next before = below_more _ _ before upper_all
