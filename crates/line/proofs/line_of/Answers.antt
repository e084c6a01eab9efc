-- The line of each case of the answer.
use mathlib.Core.Logic.{◌⊎◌, inl, inr}
use mathlib.Core.Path.{◌≡◌, sym, ◌∙◌}
use Prim.Native.Nat.{ℕ}
use Rattle.std.proofs.Common.{Result, Err}
use Rattle.faults.specs.Answer.{outcome_of}
use Rattle.faults.specs.declared.Fault.{Fault}
use Rattle.faults.specs.declared.Fault.TheVariants.{Author, Rows, Editor}
use Rattle.line_rules.specs.Line.{line_of, refused_line}
use Rattle.table_rules.specs.declared.Facts.{Facts}
use Rattle.line.proofs.line_of.Goals as goal

-- the line of a refusal, in whose name it is
refused_case : (answer : Result Facts Fault) (fault : Fault) (number place : ℕ) → answer ≡ Err fault → (fault ≡ Author number place) ⊎ ((fault ≡ Rows number place) ⊎ (fault ≡ Editor number place)) → line_of (outcome_of answer) ≡ refused_line number place
unfolding line_of
refused_case answer fault number place e (inl f) = rw (e, f)
refused_case answer fault number place e (inr (inl f)) = rw (e, f)
refused_case answer fault number place e (inr (inr f)) = rw (e, f)

pub returns-in-Ok : goal.returns-in-Ok
unfolding line_of
returns-in-Ok c = rw c.in-Ok.is c.accepted_line.ensures

pub returns-in-Author : goal.returns-in-Author
returns-in-Author c = c.refused_line.ensures ∙ sym (refused_case _ _ _ _ c.in-Err.is c.in-Author.is)
