-- What the search says of sections it says of others that are equal.
use mathlib.Core.Path.{◌≡◌, subst}
use mathlib.Core.List.{List}
use Prim.Native.Nat.{ℕ}
use Rattle.std.specs.Prelude.{Result}
use Rattle.layout_rules.specs.Section.{Section}
use Rattle.table_rules.specs.declared.Pair.{Pair}
use Rattle.pairs.specs.Answer.{Searched}

pub searched_same : (b b' a a' i i' l l' : Section) (w w' : List ℕ) (r : Result ℕ Pair) → b ≡ b' → a ≡ a' → i ≡ i' → l ≡ l' → w ≡ w' → Searched b a i l w r → Searched b' a' i' l' w' r
searched_same b b' a a' i i' l l' w w' r base alphabet inputs leaves words is =
    subst (λ x. Searched x a' i' l' w' r) base (subst (λ x. Searched b x i' l' w' r) alphabet (subst (λ x. Searched b a x l' w' r) inputs
    (subst (λ x. Searched b a i x w' r) leaves (subst (λ x. Searched b a i l x r) words is))))
