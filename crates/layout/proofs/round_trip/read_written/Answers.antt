-- `read_written` meets its contract: what the type `Record` says of `v` is all that the round trip needs.
use borrow.Author.Rules.{rules}
use Rattle.layout.proofs.Trips.{read_written_taken, read_written_refused}
use Rattle.layout.proofs.round_trip.read_written.Goals as goal

pub returns-then-w-ne0 : goal.returns-then-w-ne0
returns-then-w-ne0 c = search read_written_refused

pub returns : goal.returns
returns c = search (rules, read_written_taken)
