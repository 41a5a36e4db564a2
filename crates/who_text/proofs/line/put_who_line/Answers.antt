-- `put_who_line` meets its contract.
use Rattle.text.proofs.Added.{adds_then}
use Rattle.who_text.specs.Line.{who_line}
use Rattle.who_text.proofs.line.put_who_line.Goals as goal

pub returns : goal.returns
unfolding who_line
returns c = adds_then (adds_then c.put_hex_word.ensures c.put_bytes.ensures) c.put_answer.ensures
