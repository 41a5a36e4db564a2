-- `put_sharer` meets its contract: both words, or the first where there is room for one at most.
use mathlib.Core.Path.{◌∙◌}
use Rattle.c_words.proofs.Bit.{from_bool-is}
use Rattle.c_words_areas.proofs.Listed.{both_put, first_put}
use Rattle.c_words_areas.proofs.labels.put_sharer.Goals as goal

pub returns-then-at-xs : goal.returns-then-at-xs
returns-then-at-xs c =
    both_put _ _ _ _ c.sharer_numbered-other.ensures _ (c.from-mark.ensures ∙ from_bool-is _)

pub returns-else-at-xs : goal.returns-else-at-xs
returns-else-at-xs c =
    first_put _ _ _ _ c.sharer_numbered-other.ensures _ c.put.ensures c.if-at-xs.false
