-- A list that has each thing of a kind once and nothing else.
use Rattle.std.specs.Prelude.{◌≡◌, List, ℕ}
use Rattle.std.proofs.Math.Option.{some}
use Rattle.std.proofs.Math.ListN.{get_elem?}

pub record EachOnce {A : Type 0} (P : A → Type 0) (s : List A) : Type 0 where
  pub only : (i : ℕ) (x : A) → get_elem? s i ≡ some x → P x
  pub every : (x : A) → P x → (i : ℕ) × (get_elem? s i ≡ some x)
  pub once : (i j : ℕ) (x : A) → get_elem? s i ≡ some x → get_elem? s j ≡ some x → i ≡ j
