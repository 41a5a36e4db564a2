-- One cell more.
use Rattle.std.proofs.Common.{arith}
use Rattle.c_words_areas.proofs.Listed.{words_more}
use Rattle.c_words_areas.proofs.labels.put_sharers.Goals as goal

pub loop-k-preserved : goal.loop-k-preserved
loop-k-preserved c =
    let a = c.args in
    rw (c.put_sharer.ensures, c.loop-k.invariant) (words_more a.xs.now a.numbers.now c.loop-k.k (omega arith))
