-- `write_read_long` meets its contract: what the type `[u8]` says of `s` is all that the round trip needs.
use borrow.Author.Rules.{rules}
use Rattle.layout_long.proofs.Trips.{write_back_refused, write_back_taken}
use Rattle.layout_long.proofs.round_trip.write_read_long.Goals as goal

pub returns-then-r-ne0 : goal.returns-then-r-ne0
returns-then-r-ne0 c = search write_back_refused

pub returns : goal.returns
returns c = search (rules, write_back_taken)
