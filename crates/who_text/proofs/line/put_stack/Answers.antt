-- `put_stack` meets its contract.
use Rattle.text.proofs.Added.{adds_then}
use Rattle.who_text.specs.Line.{stack_text}
use Rattle.who_text.proofs.line.put_stack.Goals as goal

pub returns : goal.returns
unfolding stack_text
returns c = adds_then c.put_bytes.ensures c.put_stack_name.ensures
