-- `write_number` meets its contract.
use Rattle.text.proofs.Added.{adds_then}
use Rattle.text.proofs.text.Text.write_number.Goals as goal

pub returns : goal.returns
returns c = adds_then c.write.ensures c.write_decimal.ensures
