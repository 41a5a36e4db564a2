-- `put_others` meets its contract. The loop's invariant: the cells so far are named.
use mathlib.Core.List.{flat_map}
use lib.ListN.{take}
use Rattle.text.specs.Text.{Adds}
use Rattle.wording.specs.Wording.{also_text}
use Rattle.label_text.proofs.printed.put_others.Given as goal

abbrev pub invariant-loop-cell : goal.invariant-loop-cell
invariant-loop-cell l = Adds l.initial.text (flat_map also_text (take l.cell-index l.others)) l.text
