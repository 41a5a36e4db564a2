-- `put_sharers` meets its contract. The loop's invariant: the lines of the cells so far are put.
use mathlib.Core.List.{flat_map}
use lib.ListN.{take}
use Rattle.text.specs.Text.{Adds}
use Rattle.wording.specs.Wording.{meet_line}
use Rattle.label_text.proofs.printed.put_sharers.Given as goal

abbrev pub invariant-loop-other : goal.invariant-loop-other
invariant-loop-other l = Adds l.initial.text (flat_map (meet_line l.own) (take l.other-index l.other-items)) l.text
