-- `breaks_layout` meets its contract: of the value that the bytes hold, the header and the words each keep their rules.
use native.Mathlib.Omega.{arith}
use Rattle.std.proofs.lemmas.Grind.{common_steps}
use Rattle.records.specs.Value.{keeps_layout}
use Rattle.layout.specs.Layout.{value_in, breaks_layout}
use Rattle.layout.proofs.reader.breaks_layout.Goals as goal
use Rattle.layout.proofs.reader.breaks_layout.Goals.{then-are_zero, else-are_zero, then-keeps_header, else-keeps_header}

pub returns : goal.returns
unfolding breaks_layout keeps_layout value_in
returns c =
    elim c.if-keeps_header.branch [
      | then-keeps_header w ↦ elim c.if-are_zero.branch [ then-are_zero u ↦ grind (arith, common_steps) | else-are_zero u ↦ grind (arith, common_steps) ]
      | else-keeps_header w ↦ elim c.if-are_zero.branch [ then-are_zero u ↦ grind (arith, common_steps) | else-are_zero u ↦ grind (arith, common_steps) ]
    ]
