-- `put_part` meets its contract: three words in a row.
use Rattle.c_words.proofs.Order.{fields_put}
use Rattle.c_who.specs.Origins.{part_words}
use Rattle.c_who.proofs.origins.put_part.Goals as goal

pub returns : goal.returns
unfolding part_words
returns c =
    rw (fields_put, c.put-3.ensures, c.put-2.ensures, c.put.ensures)
