-- A number of 16 bits and three zeros.
use Rattle.std.proofs.Common.{rules, pos, zero-le, sym, ap, subst, [], ◌∷◌, w64}
use mir.ValLaws.{to_z-of_z}
use Rattle.ring.specs.Tests.{Within}
use Rattle.ring.proofs.Parts.{within_four}
use Rattle.table_why.proofs.number.Goals as goal

pub element-requires : goal.element-requires
element-requires g c =
    let read = ap (λ z. z ∷ pos 0 ∷ pos 0 ∷ pos 0 ∷ []) (to_z-of_z w64 c.signed.result (search rules)) in
    (search rules, subst (Within 32768) (sym read) (within_four 32768 c.signed.result (pos 0) (pos 0) (pos 0) c.signed.ensures.within zero-le zero-le zero-le))
