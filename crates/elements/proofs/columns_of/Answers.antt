-- Each column from the one before it; the first three are at most 2 ^ 21 in size.
use mathlib.Core.Path.{◌≡◌, refl, sym, subst}
use mathlib.Core.List.{List, []}
use Prim.Native.Nat.{ℕ, suc, ◌<◌, ◌^◌}
use lib.Dec.{lit≤}
use lib.IntN.{ℤ}
use lib.ListN.{length, get_or, take}
use Rattle.lists.specs.Span.{span}
use Rattle.lists.proofs.Cons.{cons≡}
use Rattle.ring.specs.Degree.{part_count}
use Rattle.ring.specs.Product.{times_omega, columns}
use Rattle.ring.specs.Padded.{width, padded, padded_rows}
use Rattle.ring.specs.Degree.{base_limit}
use Rattle.ring.specs.Tests.{Within}
use Rattle.ring.proofs.Element.{within_le}
use Rattle.ring.proofs.Columns.{size_below, padded_next, column_within}
use borrow.Author.Rules.{rules}
use Rattle.elements.proofs.columns_of.Goals as goal

pub times_omega-second-requires : goal.times_omega-second-requires
unfolding columns
times_omega-second-requires c =
    let long-omega : length c.args.omega ≡ 4 = search rules in
    let long-beta : length c.args.beta ≡ 4 = search rules in
    let column : ℕ → List ℤ = λ k. let d = part_count c.args.degree in padded (get_or (columns (take d c.args.omega) width (take d c.args.beta)) k []) in
    let small : (k : ℕ) (c' : List ℤ) → k < 3 → c' ≡ column k → Within 64 c.args.omega × Within (2 ^ 21) c' = λ k c' l is. (within_le (base_limit c.args.degree) 64 c.args.omega (size_below c.args.degree) c.requires.of_omega, subst (Within (2 ^ 21)) (sym is) (column_within c.args.degree c.args.omega c.args.beta long-omega long-beta c.requires k l)) in
    let first : c.cut-first.result ≡ column 0 = c.cut-first.ensures in
    small 0 _ (lit≤ tt) (first)

pub times_omega-third-requires : goal.times_omega-third-requires
unfolding columns
times_omega-third-requires c =
    let long-omega : length c.args.omega ≡ 4 = search rules in
    let long-beta : length c.args.beta ≡ 4 = search rules in
    let column : ℕ → List ℤ = λ k. let d = part_count c.args.degree in padded (get_or (columns (take d c.args.omega) width (take d c.args.beta)) k []) in
    let small : (k : ℕ) (c' : List ℤ) → k < 3 → c' ≡ column k → Within 64 c.args.omega × Within (2 ^ 21) c' = λ k c' l is. (within_le (base_limit c.args.degree) 64 c.args.omega (size_below c.args.degree) c.requires.of_omega, subst (Within (2 ^ 21)) (sym is) (column_within c.args.degree c.args.omega c.args.beta long-omega long-beta c.requires k l)) in
    let next : (k : ℕ) (c' made : List ℤ) → suc k < width → c' ≡ column k → made ≡ padded (times_omega (take (part_count c.args.degree) c.args.omega) (take (part_count c.args.degree) c')) → made ≡ column (suc k) = padded_next c.args.degree c.args.omega c.args.beta long-omega long-beta in
    let first : c.cut-first.result ≡ column 0 = c.cut-first.ensures in
    let second : c.times_omega-second.result ≡ column 1 = next 0 _ _ (lit≤ tt) (first) c.times_omega-second.ensures in
    small 1 _ (lit≤ tt) (second)

pub times_omega-requires : goal.times_omega-requires
unfolding columns
times_omega-requires c =
    let long-omega : length c.args.omega ≡ 4 = search rules in
    let long-beta : length c.args.beta ≡ 4 = search rules in
    let column : ℕ → List ℤ = λ k. let d = part_count c.args.degree in padded (get_or (columns (take d c.args.omega) width (take d c.args.beta)) k []) in
    let small : (k : ℕ) (c' : List ℤ) → k < 3 → c' ≡ column k → Within 64 c.args.omega × Within (2 ^ 21) c' = λ k c' l is. (within_le (base_limit c.args.degree) 64 c.args.omega (size_below c.args.degree) c.requires.of_omega, subst (Within (2 ^ 21)) (sym is) (column_within c.args.degree c.args.omega c.args.beta long-omega long-beta c.requires k l)) in
    let next : (k : ℕ) (c' made : List ℤ) → suc k < width → c' ≡ column k → made ≡ padded (times_omega (take (part_count c.args.degree) c.args.omega) (take (part_count c.args.degree) c')) → made ≡ column (suc k) = padded_next c.args.degree c.args.omega c.args.beta long-omega long-beta in
    let first : c.cut-first.result ≡ column 0 = c.cut-first.ensures in
    let second : c.times_omega-second.result ≡ column 1 = next 0 _ _ (lit≤ tt) (first) c.times_omega-second.ensures in
    let third : c.times_omega-third.result ≡ column 2 = next 1 _ _ (lit≤ tt) (second) c.times_omega-third.ensures in
    small 2 _ (lit≤ tt) (third)

pub returns : goal.returns
unfolding padded_rows span columns
returns c =
    let long-omega : length c.args.omega ≡ 4 = search rules in
    let long-beta : length c.args.beta ≡ 4 = search rules in
    let column : ℕ → List ℤ = λ k. let d = part_count c.args.degree in padded (get_or (columns (take d c.args.omega) width (take d c.args.beta)) k []) in
    let next : (k : ℕ) (c' made : List ℤ) → suc k < width → c' ≡ column k → made ≡ padded (times_omega (take (part_count c.args.degree) c.args.omega) (take (part_count c.args.degree) c')) → made ≡ column (suc k) = padded_next c.args.degree c.args.omega c.args.beta long-omega long-beta in
    let first : c.cut-first.result ≡ column 0 = c.cut-first.ensures in
    let second : c.times_omega-second.result ≡ column 1 = next 0 _ _ (lit≤ tt) (first) c.times_omega-second.ensures in
    let third : c.times_omega-third.result ≡ column 2 = next 1 _ _ (lit≤ tt) (second) c.times_omega-third.ensures in
    let fourth = next 2 _ _ (lit≤ tt) (third) c.times_omega.ensures in
    cons≡ (first) (cons≡ (second) (cons≡ (third) (cons≡ fourth refl)))
