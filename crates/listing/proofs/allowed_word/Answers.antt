-- A word where rule 6 refuses.
use Rattle.listing_rules.specs.Listing.{allowed_word}
use Rattle.text_rules.specs.Bytes.{bytes_of}
use Rattle.listing.proofs.allowed_word.Goals as goal

pub returns-then-allowed : goal.returns-then-allowed
unfolding bytes_of allowed_word
returns-then-allowed c = rw (c.if-allowed.true, allowed_word)

pub returns-else-allowed : goal.returns-else-allowed
unfolding bytes_of allowed_word
returns-else-allowed c = rw (c.if-allowed.false, allowed_word)
