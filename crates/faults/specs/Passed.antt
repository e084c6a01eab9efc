-- Pinned by the laws of proofs/Passed.antt: a reader may skip this file. What a stage of the code returns of what its check finds.
use Rattle.std.specs.Prelude.{true, false, eqb, Result, Ok, Err}
use Rattle.faults.specs.declared.Refusal.{Refusal}

-- an error exactly where the check finds a broken rule
unfoldable pub passed : Refusal → Result Unit Refusal
passed found = elim (eqb found.number 0) [ true ↦ Ok tt | false ↦ Err found ]
