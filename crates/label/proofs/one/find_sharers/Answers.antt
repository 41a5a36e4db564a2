-- `find_sharers` meets its contract: a refusal lists none.
use Rattle.std.proofs.Common.{arith}
use Rattle.label.proofs.Most.{meeting_most}
use Rattle.label.proofs.Found.{counted_refused, counted_found, found_part}
use Rattle.label.proofs.one.find_sharers.Goals as goal

pub find_meeting-count-requires : goal.find_meeting-count-requires
find_meeting-count-requires c = found_part _ _ _ _ c.cell_refusal-number.ensures c.if-number-ne0.false

pub overflow_cast-count : goal.overflow_cast-count
overflow_cast-count c =
    omega (arith, c.find_meeting-count.ensures.count, meeting_most c.args.ram.now c.args.s c.args.cell)

pub returns-then-number-ne0 : goal.returns-then-number-ne0
returns-then-number-ne0 c =
    let told = counted_refused _ _ _ _ c.cell_refusal-number.ensures c.args.numbers.now c.if-number-ne0.true in
    record { counted = told.0; numbers = told.1 }

pub returns : goal.returns
returns c =
    let found = c.find_meeting-count.ensures in
    let told =
    counted_found _ _ _ _ c.cell_refusal-number.ensures _ _ _ c.if-number-ne0.false found.numbers found.count in
    record { counted = told.0; numbers = told.1 }
