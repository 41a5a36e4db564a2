-- `write_read` meets its contract: what the type `[u8]` says of `s` is all that the round trip needs.
use borrow.Author.Rules.{rules}
use Rattle.layout.proofs.Trips.{write_read_taken, write_read_refused}
use Rattle.layout.proofs.round_trip.write_read.Goals as goal

pub returns-then-r-ne0 : goal.returns-then-r-ne0
returns-then-r-ne0 c = search write_read_refused

pub returns : goal.returns
returns c = search (rules, write_read_taken)
