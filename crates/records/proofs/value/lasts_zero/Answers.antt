-- `lasts_zero` meets its contract. The loop's invariant: `zero` tells whether those of the first `i` words that come
-- after `count` are zero.
use Prim.Native.Nat.{◌≤◌}
use native.Mathlib.Omega.{arith}
use mathlib.Core.Path.{sym, ◌∙◌}
use Rattle.records.proofs.Turns.{lasts_zero_none, lasts_zero_more, lasts_zero_all}
use Rattle.records.proofs.value.lasts_zero.Goals as goal

pub loop-i-init : goal.loop-i-init
loop-i-init c =
    ((omega arith, omega arith), sym (lasts_zero_none c.args.words.now c.args.count c.from-i.result (omega arith)))

pub loop-i-preserved : goal.loop-i-preserved
loop-i-preserved c =
    let at = c.loop-i in
    let begun : c.args.count ≤ at.i = omega arith in
    ((omega arith, omega arith), rw (at.invariant.1, lasts_zero_more))

pub returns : goal.returns
returns c =
    let a = c.args in
    let at = c.loop-i in
    at.invariant.1 ∙ lasts_zero_all a.words.now a.count at.i (omega arith) (omega arith)
