-- The degree alters that of section 0 alone.
use Rattle.layout_rules.proofs.Limit.{limit_later}
use Rattle.limits.proofs.size_limit.Goals as goal

pub returns : goal.returns
returns c = limit_later c.args.degree _ c.if-section-eq0.false
