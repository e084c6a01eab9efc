-- For helpers' contracts only: the sums or differences that were looked for so far, so that they needn't be looked for again.
use Rattle.std.specs.Prelude.{◌≡◌, List, ℕ, ◌+◌, ◌*◌, ◌<◌, ◌≤◌, length, get_or}
use Rattle.layout_rules.specs.Section.{Section}
use Rattle.ring.specs.declared.Operation.{Operation}
use Rattle.digit_rules.specs.Digits.{pair_index}
use Rattle.place_rules.specs.Helpers.{part_row}

-- at 16 times one digit plus the other stands 255, or the input index of what the operation makes of them
pub record Known (op : Operation) (alphabet inputs : Section) (known : List ℕ) : Type 0 where
  pub long : length known ≡ 256
  pub right : (i j : ℕ) → i < 16 → j < 16 → ¬ (get_or known (16 * i + j) 0 ≡ 255) → get_or known (16 * i + j) 0 ≡ pair_index op alphabet inputs i j

-- what stands there of two rows' digits at a place
abbrev pub known_at : List ℕ → List ℕ → List ℕ → ℕ → ℕ
known_at known first second k = get_or known (16 * get_or first k 0 + get_or second k 0) 0

-- a run of places whose pairs are known: a row that holds f up to place, f being what stands in `known` at the run's places, then holds it up
-- to `end`
abbrev pub KnownRun : List ℕ → List ℕ → List ℕ → ℕ → List ℕ → ℕ → List ℕ → Type 0
KnownRun known first second place before end after =
    (f : ℕ → ℕ) (i : ℕ) → i ≤ place → before ≡ part_row f i place
    → ((k : ℕ) → place ≤ k → k < end → ¬ (known_at known first second k ≡ 255) → known_at known first second k ≡ f k) → after ≡ part_row f i end
