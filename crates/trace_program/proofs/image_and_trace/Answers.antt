-- The line of an image that is cut short fits the buffer.
use Rattle.std.proofs.Common.{arith}
use Rattle.trace_ends.proofs.Lengths.{image_most}
use Rattle.trace_program.proofs.image_and_trace.Goals as goal

pub print_all-requires : goal.print_all-requires
print_all-requires c =
    let line = c.put_image_line-used in
    omega (arith, line.ensures.length, line.auto.out, c.requires, image_most c.fill-got.result.got)
