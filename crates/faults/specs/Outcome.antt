-- Document 01, "Who sends a fault": the answer of a call carries either the facts or the fault.
use Rattle.std.specs.Prelude.{ℕ}

-- the three groups: the table's author, whoever lends the rows, the editor
pub data Group : Type 0 where
  author rows editor : Group

-- a group as a number, where an answer is told in numbers: 0 is left for facts
abbrev pub group_number : Group → ℕ
group_number author = 1
group_number rows = 2
group_number editor = 3

-- what a call answers: its facts, or a refusal with whose it is, the number and the place
pub data Outcome (F : Type 0) : Type 0 where
  facts : F → Outcome F
  refused : Group → ℕ → ℕ → Outcome F

-- a lent buffer, or several, at exit: what the call writes, and where it refuses what was lent
unfoldable pub at_exit : {F S : Type 0} → Outcome F → S → S → S
at_exit (facts f) lent written = written
at_exit (refused whose number place) lent written = lent
