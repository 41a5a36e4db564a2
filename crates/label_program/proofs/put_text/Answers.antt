-- `put_text` answers no more than the buffer has room for.
use Rattle.std.proofs.Common.{◌≤◌, arith}
use Rattle.trace_ends.proofs.Lengths.{image_most}
use Rattle.label_text.proofs.Most.{area_room}
use Rattle.label_program.proofs.put_text.Goals as goal

pub returns-then-got-image : goal.returns-then-got-image
returns-then-got-image c =
    let short : c.put_image_line.result ≤ 27 = rw c.put_image_line.ensures.length (image_most _) in
    omega arith

pub returns : goal.returns
returns c = rw c.put_area_text.ensures.length (area_room _ _)
