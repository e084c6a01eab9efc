-- Laws of `index_in`, the search among the first records.
use mathlib.Core.Path.{◌≡◌, sym, ap, ◌∙◌}
use mathlib.Core.Bool.{Bool, true, false, not}
use mathlib.Core.List.{List}
use Prim.Native.Nat.{ℕ, ◌<◌, ◌≤◌}
use native.Mathlib.Omega.{arith}
use native.Mathlib.Decide.{dec_lt}
use lib.IntN.{ℤ}
use borrow.Author.Tests.{not-false}
use Rattle.lists.specs.Scan.{first_failing}
use Rattle.lists.proofs.Scan.{scan_high, scan_passed, scan_failed}
use Rattle.lists.proofs.Test.{clash}
use Rattle.ring.specs.Tests.{same}
use Rattle.ring.proofs.Element.{same_refl, same→≡}
use Rattle.layout_rules.specs.Section.{Section}
use Rattle.digit_rules.specs.Record.{record_at}
use Rattle.digit_rules.specs.Digits.{index_in}

-- an element as a test of the records: another one passes
abbrev pub differs : Section → List ℤ → ℕ → Bool
differs part x k = not (same (record_at part k) x)

pub found_here : (part : Section) (x y : List ℤ) (k : ℕ) → y ≡ record_at part k → same y x ≡ true → differs part x k ≡ false
found_here part x y k e h = ap not (ap (λ z. same z x) (sym e) ∙ h)

pub not_here : (part : Section) (x y : List ℤ) (k : ℕ) → y ≡ record_at part k → same y x ≡ false → differs part x k ≡ true
not_here part x y k e h = ap not (ap (λ z. same z x) (sym e) ∙ h)

pub index_high : (part : Section) (n : ℕ) (x : List ℤ) → index_in part n x ≤ n
unfolding index_in
index_high part n x = omega (arith, scan_high (differs part x) 0 n)

-- the record found is the element
pub index_is : (part : Section) (n : ℕ) (x : List ℤ) → index_in part n x < n → record_at part (index_in part n x) ≡ x
unfolding index_in
index_is part n x h = same→≡ _ _ (not-false _ (scan_failed (differs part x) 0 n (omega arith)))

-- and none before it is
pub index_first : (part : Section) (n : ℕ) (x : List ℤ) (k : ℕ) → record_at part k ≡ x → index_in part n x ≤ k
unfolding index_in
index_first part n x k e =
    elim (dec_lt k (first_failing (differs part x) 0 n)) [
      | yes h ↦ clash (scan_passed (differs part x) 0 n k (omega arith) h) (found_here part x x k (sym e) (same_refl x))
      | no h ↦ omega arith
    ]
