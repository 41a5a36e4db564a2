-- Where there is room for all, all are copied.
use Rattle.std.proofs.Common.{arith, rules}
use Rattle.c_words.proofs.Room.{copied_whole}
use Rattle.c_words.proofs.over.put_words.Goals as goal

pub returns-else-xs-lt36 : goal.returns-else-xs-lt36
returns-else-xs-lt36 c =
    copied_whole c.args.xs.now c.args.words _ 4 32 (search rules) (omega arith) c.copy_from_slice.ensures.after
