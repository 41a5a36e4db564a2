-- `are_zero` meets its contract: what is folded is the definition's test, byte by byte.
use borrow.Author.Rules.{rules}
use borrow.Author.Tests.{tests}
use native.Mathlib.Omega.{arith}
use mathlib.Core.Bool.{true}
use Prim.Native.Nat.{◌+◌, ◌-◌}
use mathlib.Core.Path.{◌∙◌}
use lib.ListN.{take, drop}
use Rattle.std.proofs.lemmas.Iterator.{YieldsList-from_slice}
use Rattle.std.proofs.lemmas.Iterator.Consumers.{fold_from_yields_List}
use Rattle.layout.proofs.Parts.{zero_too, part_zero, zero_inside}
use Rattle.layout.proofs.reader.are_zero.Goals as goal

pub returns : goal.returns
returns c =
    let a = c.args in
    let s = a.s.now in
    let start = c.min-start.result in
    let m = c.min.result in
    let part = take (start + m - start) (drop start s) in
    fold_from_yields_List {all = part} _ zero_too true _ c.fold.ensures.ran (YieldsList-from_slice part cc) (λ a x b q k. search (rules, tests))
    ∙ part_zero s start m _ (omega arith) (omega arith)
    ∙ zero_inside s a.from a.n start m (omega (arith, c.min-start.ensures)) (omega (arith, c.min.ensures))
