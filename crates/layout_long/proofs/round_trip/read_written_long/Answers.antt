-- `read_written_long` meets its contract: what the type `LongRecord` says of `v` is all that the round trip needs.
use borrow.Author.Rules.{rules}
use Rattle.layout_long.proofs.Trips.{read_back_refused, read_back_taken}
use Rattle.layout_long.proofs.round_trip.read_written_long.Goals as goal

pub returns-then-w-ne0 : goal.returns-then-w-ne0
returns-then-w-ne0 c = search read_back_refused

pub returns : goal.returns
returns c = search (rules, read_back_taken)
