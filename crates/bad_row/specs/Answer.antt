-- What an answer of the call tells.
use Rattle.std.specs.Prelude.{Option, Some, None}
use Rattle.midpoint.specs.Midpoint.{parts}
use Rattle.bad_row_rules.specs.Shows.{RowFacts, Shows, row, nothing}
use Rattle.bad_row_rules.specs.declared.BadRow.{BadRow}

-- the facts with the parts of the digit
abbrev pub facts_of : BadRow → RowFacts
facts_of r = record { upper = r.upper; lower = r.lower; digit = parts r.digit; bytes = r.bytes }

abbrev pub shows_of : Option BadRow → Shows
shows_of (Some r) = row (facts_of r)
shows_of None = nothing
