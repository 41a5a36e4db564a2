-- The last lines fit the buffer, which still has its length.
use Rattle.std.proofs.Common.{arith}
use Rattle.trace_ends.proofs.Lengths.{last_most}
use Rattle.trace_program.proofs.run.Goals as goal

pub print_all-requires : goal.print_all-requires
print_all-requires c =
    let lines = c.put_last_lines-used in
    omega (
      arith,
      lines.ensures.length,
      lines.auto.out,
      c.loop.invariant,
      c.requires,
      last_most c.loop.at.left c.loop.at.number,
    )
