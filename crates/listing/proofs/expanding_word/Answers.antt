-- One of two words.
use Rattle.listing_rules.specs.Listing.{expanding_word}
use Rattle.text_rules.specs.Bytes.{bytes_of}
use Rattle.listing.proofs.expanding_word.Goals as goal

pub returns-then-expanding : goal.returns-then-expanding
unfolding bytes_of expanding_word
returns-then-expanding c = rw (c.if-expanding.true, expanding_word)

pub returns-else-expanding : goal.returns-else-expanding
unfolding bytes_of expanding_word
returns-else-expanding c = rw (c.if-expanding.false, expanding_word)
