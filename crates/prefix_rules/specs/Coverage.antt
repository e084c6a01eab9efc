-- Pinned by leaves_exact (proofs/Broken.antt): a reader may skip this file. Whether every string begins with a leaf, looked for one digit deeper at a time (document 01, "Table file").
use Rattle.std.specs.Prelude.{Bool, true, false, ℕ, zero, suc, ◌-◌, eqb, ltb, leb}
use Rattle.lists.specs.Scan.{first_failing}
use Rattle.numeration.specs.Code.{Code}

module _ {A : Type 0} (c : Code A) where
  -- of the leaves from lo up to hi, the first whose digit at place p isn't x
  unfoldable pub run_end : ℕ → ℕ → ℕ → ℕ → ℕ
  run_end p x lo hi = first_failing (λ k. eqb (c.digit k p) x) lo (hi - lo)

  -- the leaves from lo up to hi, cut into runs by their digit at place p: a test of each of the n runs from digit x on
  unfoldable pub every_run : (ℕ → ℕ → Bool) → ℕ → ℕ → ℕ → ℕ → ℕ → Bool
  every_run test p x zero lo hi = true
  every_run test p x (suc n) lo hi =
      let end = run_end p x lo hi in
      elim (test lo end) [ true ↦ every_run test p (suc x) n end hi | false ↦ false ]

module _ {A : Type 0} (c : Code A) (m : ℕ) where
  -- the leaves from lo up to hi share their first p digits: every string with these digits begins with one of them, where words
  -- reach at most d digits further
  unfoldable pub covered : ℕ → ℕ → ℕ → ℕ → Bool
  covered zero p lo hi = elim (ltb lo hi) [ true ↦ leb (c.size lo) p | false ↦ false ]
  covered (suc d) p lo hi =
      elim (ltb lo hi) [
        | true ↦ elim (leb (c.size lo) p) [ true ↦ true | false ↦ every_run c (covered d (suc p)) p 0 m lo hi ]
        | false ↦ false
      ]
