-- The cells below `place` stand in the answer.
use Rattle.std.proofs.Common.{◌≡◌, map, take, replicate}
use Rattle.std.proofs.lemmas.List.Edits.{sets}
use Rattle.label.specs.Label.{sharer_numbered, no_sharer}
use Rattle.label.proofs.one.answer_listing.Given as goal

abbrev pub invariant-loop-place : goal.invariant-loop-place
invariant-loop-place l = l.cells ≡ sets (replicate 89 no_sharer) 0 (map sharer_numbered (take l.place l.listed))
