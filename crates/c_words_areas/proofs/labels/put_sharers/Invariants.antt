-- The words of the first `k` cells are put.
use Rattle.std.proofs.Common.{◌≡◌, map, take}
use Rattle.std.proofs.lemmas.List.Edits.{sets}
use Rattle.label.specs.Label.{sharer_numbered}
use Rattle.c_words_areas.specs.Labels.{sharer_words}
use Rattle.c_words_areas.proofs.labels.put_sharers.Given as goal

abbrev pub invariant-loop-k : goal.invariant-loop-k
invariant-loop-k l = l.xs ≡ sets l.initial.xs 1 (sharer_words (map sharer_numbered (take l.k l.numbers)))
