-- Pinned by the laws of crate calls: a reader may skip this file. From a check's refusal to a call's outcome.
use Rattle.std.specs.Prelude.{true, false, eqb}
use Rattle.faults.specs.declared.Refusal.{Refusal}
use Rattle.faults.specs.Outcome.{Group, Outcome, refused}

-- refused in the group's name where the check found something, else what follows
unfoldable pub unless : {F : Type 0} → Group → Refusal → Outcome F → Outcome F
unless whose found rest = elim (eqb found.number 0) [ true ↦ rest | false ↦ refused whose found.number found.place ]
