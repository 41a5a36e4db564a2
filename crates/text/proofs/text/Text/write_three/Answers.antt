-- `write_three` meets its contract.
use Rattle.text.specs.Line.{three_words}
use Rattle.text.proofs.Added.{adds_then}
use Rattle.text.proofs.text.Text.write_three.Goals as goal

pub returns : goal.returns
unfolding three_words
returns c = adds_then (adds_then c.write_word.ensures c.write_word-2.ensures) c.write_word-3.ensures
