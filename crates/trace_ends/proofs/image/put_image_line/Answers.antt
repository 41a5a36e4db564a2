-- `put_image_line` meets its contract.
use native.Mathlib.Omega.{arith}
use borrow.Author.Rules.{rules}
use mathlib.Core.Path.{refl}
use Rattle.text.proofs.Added.{adds_first}
use Rattle.trace_ends.proofs.Lengths.{image_most}
use Rattle.trace_ends.proofs.image.put_image_line.Goals as goal

pub returns : goal.returns
returns c = adds_first c.put_image.ensures (search rules) (search rules) refl (omega (arith, image_most c.args.bytes))
