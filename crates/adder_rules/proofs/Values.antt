-- The value of rows: of what an operation makes place by place, and of a row with zeros on top.
use mathlib.Core.Path.{◌≡◌, ap, ◌∙◌}
use mathlib.Core.List.{List, [], ◌∷◌, ◌++◌, map, map-append}
use Prim.Native.Nat.{ℕ, zero, suc}
use lib.ListN.{replicate}
use lib.IntN.{ℤ}
use Rattle.ring.specs.Padded.{width}
use Rattle.lists.specs.Span.{span}
use Rattle.ring.specs.declared.Operation.{Operation}
use Rattle.ring.specs.declared.Operation.TheVariants.{Plus, Minus}
use Rattle.ring.specs.Element.{zeros}
use Rattle.ring.specs.Operation.{combine}
use Rattle.digit_rules.specs.Record.{record_at}
use Rattle.digit_rules.proofs.Record.{element_parts}
use Rattle.numeration.specs.Laws.{AdditiveGroup, HasParts}
use Rattle.numeration.specs.Elements.{elements}
use Rattle.numeration.specs.Value.{value}
use Rattle.numeration.proofs.Sums.{elements_map, element_value, value_sum, value_difference, value_padded}
use Rattle.reader_rules.specs.Table.{alphabet_part, operations_of, value_of}
use Rattle.reader_rules.specs.Check.{table_check}
use Rattle.reader_rules.proofs.Ready.{ready_passed}

pub value_combined : (op : Operation) (file : List ℕ) → AdditiveGroup (operations_of file) (HasParts width) → (f h : ℕ → List ℤ) → ((i : ℕ) → HasParts width (f i)) → ((i : ℕ) → HasParts width (h i)) → (n : ℕ)
    → value (operations_of file) (span (λ i. combine op (f i) (h i)) 0 n) ≡ combine op (value (operations_of file) (span f 0 n)) (value (operations_of file) (span h 0 n))
unfolding elements
value_combined Plus file g = value_sum (operations_of file) (HasParts width) g
value_combined Minus file g = value_difference (operations_of file) (HasParts width) g

map_replicate : {A B : Type 0} (f : A → B) (n : ℕ) (a : A) → map f (replicate n a) ≡ replicate n (f a)
map_replicate f zero a = λ i. []
map_replicate f (suc n) a = ap (λ r. f a ∷ r) (map_replicate f n a)

-- the value of a row is an element
pub value_parts : (file : List ℕ) → (table_check file).number ≡ 0 → (row : List ℕ) → HasParts width (value_of file row)
value_parts file passes row =
    element_value (operations_of file) (HasParts width) (ready_passed file passes).group _ (elements_map (operations_of file) (HasParts width) (ready_passed file passes).group (record_at (alphabet_part file)) (λ i. element_parts (alphabet_part file) _) row)

-- Zeros on top: a row with n places of the digit zero above it has the row's value.
pub zeros_on_top : (file : List ℕ) → (table_check file).number ≡ 0 → (row : List ℕ) (n : ℕ) → value_of file (row ++ replicate n 0) ≡ value_of file row
unfolding elements
zeros_on_top file passes row n =
    let r = ready_passed file passes in
    let o = operations_of file in
    let a : ℕ → List ℤ = record_at (alphabet_part file) in
    let zero_digits : map a (replicate n 0) ≡ replicate n (zeros width) = map_replicate a n 0 ∙ ap (replicate n) r.alphabet_zero in
    ap (value o) (map-append a row (replicate n 0) ∙ ap (λ z. map a row ++ z) zero_digits) ∙ value_padded o (HasParts width) r.group (map a row) n
