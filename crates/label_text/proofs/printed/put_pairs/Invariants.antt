-- `put_pairs` meets its contract. The loop's invariant: the lines of the pairs so far are put.
use mathlib.Core.List.{flat_map}
use lib.ListN.{take}
use Rattle.text.specs.Text.{Adds}
use Rattle.label_text.specs.Printed.{word_line}
use Rattle.label_text.proofs.printed.put_pairs.Given as goal

abbrev pub invariant-loop-pair : goal.invariant-loop-pair
invariant-loop-pair l = Adds l.initial.text (flat_map word_line (take l.pair-index l.pairs)) l.text
