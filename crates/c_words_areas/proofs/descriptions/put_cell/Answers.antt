-- `put_cell` meets its contract: eight words in a row.
use Rattle.c_words_areas.specs.Descriptions.{cell_words}
use Rattle.c_words.proofs.Order.{fields_put}
use Rattle.c_words.proofs.Bit.{from_bool-is}
use Rattle.c_words_areas.proofs.descriptions.put_cell.Goals as goal

pub returns : goal.returns
unfolding cell_words
returns c =
    rw (fields_put, c.put_four-2.ensures, c.put_four.ensures, c.from.ensures, from_bool-is)
