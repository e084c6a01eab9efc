-- Sets of one leaf, doubled three times, are sets of eight.
use Rattle.weight_sets.proofs.eights.Goals as goal

pub returns : goal.returns
returns c =
    let a = c.args in
    let numbers = a.numbers.now in
    let singles = c.singles in
    let double = c.double in
    let double2 = c.double-2 in
    c.double-3.ensures numbers (double2.ensures numbers (double.ensures numbers singles.ensures))
