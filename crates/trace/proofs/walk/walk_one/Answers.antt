-- `walk_one` meets its contract.
use borrow.Author.Rules.{rules}
use mathlib.Core.Path.{refl}
use Rattle.text.specs.Line.{line_of}
use Rattle.text.proofs.Added.{adds_then, adds_lent}
use Rattle.trace.specs.Walk.{walk_record}
use Rattle.trace.proofs.walk.walk_one.Goals as goal

pub returns : goal.returns
unfolding walk_record line_of
returns c =
    let m = c.message_from_bytes-outcome.ensures in
    let p = rw m.answer at (adds_then c.put_decimal.ensures c.put_columns.ensures) in
    record { state = m.state; line = adds_lent p (search rules) (search rules); number = refl }
