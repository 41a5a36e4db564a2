-- `find_meeting` meets its contract: kind by kind, all that meet.
use Rattle.std.proofs.Common.{arith, sym, ◌∙◌}
use Rattle.label.proofs.Search.{low_fit, transmit_room, found_low, broadcast_room, found_all}
use Rattle.label.proofs.one.find_meeting.Goals as goal

pub find_kind-receive-requires-clause-room : goal.find_kind-receive-requires-clause-room
find_kind-receive-requires-clause-room c =
    let window = rw c.cell_numbered-c.ensures at c.window_of.ensures in
    let fit = low_fit _ _ _ c.requires.1 _ _ c.stack_window.ensures window in
    omega arith

pub find_kind-requires-clause-room : goal.find_kind-requires-clause-room
find_kind-requires-clause-room c =
    let window = rw c.cell_numbered-c.ensures at c.window_of.ensures in
    let first = c.find_kind-receive.ensures in
    transmit_room _ _ _ c.requires.1 _ _ c.stack_window.ensures window _ _ _ c.told-numbers first.numbers first.count

pub find_kind-requires-then-has_broadcast_cells-clause-room : goal.find_kind-requires-then-has_broadcast_cells-clause-room
find_kind-requires-then-has_broadcast_cells-clause-room c =
    let window = rw c.cell_numbered-c.ensures at c.window_of.ensures in
    let on = sym c.has_broadcast_cells.ensures ∙ c.if-has_broadcast_cells.true in
    let first = c.find_kind-receive.ensures in
    let second = c.find_kind.ensures in
    broadcast_room _ _ _ c.requires.1 _ _ c.stack_window.ensures window _ _ _ c.told-numbers first.numbers first.count
    _ _ second.numbers second.count on

pub returns-then-has_broadcast_cells : goal.returns-then-has_broadcast_cells
returns-then-has_broadcast_cells c =
    let window = rw c.cell_numbered-c.ensures at c.window_of.ensures in
    let on = sym c.has_broadcast_cells.ensures ∙ c.if-has_broadcast_cells.true in
    let first = c.find_kind-receive.ensures in
    let second = c.find_kind.ensures in
    let third = c.find_kind-then-has_broadcast_cells.ensures in
    let found =
    found_all _ _ _ c.requires.1 _ _ c.stack_window.ensures window _ _ _ c.told-numbers first.numbers first.count
    _ _ second.numbers second.count on _ _ third.numbers third.count in
    record { numbers = found.0; count = found.1 }

pub returns : goal.returns
returns c =
    let window = rw c.cell_numbered-c.ensures at c.window_of.ensures in
    let off = sym c.has_broadcast_cells.ensures ∙ c.if-has_broadcast_cells.false in
    let first = c.find_kind-receive.ensures in
    let second = c.find_kind.ensures in
    let found =
    found_low _ _ _ c.requires.1 _ _ c.stack_window.ensures window _ _ _ c.told-numbers first.numbers first.count
    _ _ second.numbers second.count off in
    record { numbers = found.0; count = found.1 }
