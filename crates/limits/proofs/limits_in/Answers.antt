-- The quick look says that no number is outside; else the first that is.
use lib.ListN.{length}
use mathlib.Core.Path.{◌≡◌, refl, sym, ap, subst, ◌∙◌}
use Prim.Native.Nat.{ℕ, ◌<◌, ◌≤◌}
use native.Mathlib.Omega.{arith}
use Rattle.lists.specs.Scan.{first_failing}
use Rattle.layout_rules.proofs.Limit.{size_held, section_inside, limit_small, limit_none, limit_broken, limit_kept}
use Rattle.std.proofs.Common.{Some, None, Bool}
use Rattle.lists.specs.Found.{below}
use Rattle.lists.proofs.Found.{some_below, none_below}
use Rattle.faults.proofs.Passed.{err_of, ok_of}
use Rattle.limits.proofs.limits_in.Goals as goal

-- where the search ended, with the count as it was computed
found : (test : ℕ → Bool) {m count n : ℕ} → count ≡ n → Some m ≡ below count (first_failing test 0 count) → (m ≡ first_failing test 0 n) × (m < n)
found test counts e =
    let at = some_below _ _ _ (sym e) in
    (at.0 ∙ ap (first_failing test 0) counts, omega (arith, at.0, at.1, counts))

nowhere : (test : ℕ → Bool) {count n : ℕ} → count ≡ n → None ≡ below count (first_failing test 0 count) → n ≤ first_failing test 0 n
nowhere test counts e = subst (λ k. k ≤ first_failing test 0 k) counts (none_below _ _ (sym e))

pub none_outside-requires : goal.none_outside-requires
none_outside-requires c = (size_held c.args.degree _ _ c.requires.0 c.size_of_record-size.ensures, limit_small c.args.degree _ _ c.requires.0 c.size_limit-limit.ensures)

pub returns-then-none_outside : goal.returns-then-none_outside
returns-then-none_outside c = ok_of (limit_none _ _ _ _ _ c.size_of_record-size.ensures c.size_limit-limit.ensures (c.none_outside.ensures c.if-none_outside.true))

pub number_count-count-requires : goal.number_count-count-requires
number_count-count-requires c = size_held c.args.degree _ _ c.requires.0 c.size_of_record-size.ensures

pub first_outside-requires : goal.first_outside-requires
first_outside-requires c = (size_held c.args.degree _ _ c.requires.0 c.size_of_record-size.ensures, c.number_count-count.ensures)

pub number_place-requires : goal.number_place-requires
number_place-requires c =
    let s = c in
    let sizes = c.size_of_record-size.ensures in
    (size_held s.args.degree _ _ s.requires.0 sizes, omega (arith, section_inside s.args.degree _ _ (length s.args.part.now) _ s.requires.0 sizes (found _ c.number_count-count.ensures c.in-Some.ensures).1))

pub overflow_add-result : goal.overflow_add-result
overflow_add-result c =
    let s = c in
    omega (arith, section_inside s.args.degree _ _ (length s.args.part.now) _ s.requires.0 c.size_of_record-size.ensures (found _ c.number_count-count.ensures c.in-Some.ensures).1, c.number_place.ensures, s.requires.1)

pub returns-in-Some : goal.returns-in-Some
returns-in-Some c =
    let at = found _ c.number_count-count.ensures c.in-Some.ensures in
    err_of (omega arith) (limit_broken _ _ _ _ _ _ c.size_of_record-size.ensures c.size_limit-limit.ensures at.0 _ c.number_place.ensures at.1)

pub returns-in-None : goal.returns-in-None
returns-in-None c = ok_of (limit_kept _ c.args.start _ _ _ _ c.size_of_record-size.ensures c.size_limit-limit.ensures refl (nowhere _ c.number_count-count.ensures c.in-None.ensures))
