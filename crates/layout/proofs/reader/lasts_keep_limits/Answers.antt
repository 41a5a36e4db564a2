-- `lasts_keep_limits` meets its contract: what is folded is whether each byte keeps its limit.
use borrow.Author.Rules.{rules}
use borrow.Author.Tests.{tests}
use native.Mathlib.Omega.{arith}
use mathlib.Core.Path.{◌∙◌}
use lib.ListN.{take, drop}
use mathlib.Core.Bool.{true}
use Rattle.std.proofs.lemmas.Iterator.{YieldsList-from_slice, YieldsList-from_zip}
use Rattle.std.proofs.lemmas.Iterator.Consumers.{YieldsList-at, fold_from_yields_List}
use Rattle.layout.proofs.Limits.{within_too, rest_within}
use Rattle.layout.proofs.reader.lasts_keep_limits.Goals as goal

pub returns : goal.returns
returns c =
    let s = c.args.s.now in
    let all = c.as_flattened.result.now in
    fold_from_yields_List _ within_too true _ c.fold.ensures.ran
    (YieldsList-from_zip (YieldsList-at c.zip.ensures.first (YieldsList-from_slice (take 64 (drop 16 s)) c.iter.ensures.rest)) (YieldsList-from_slice _ c.zip.ensures.second.0))
    (λ a x b q k. search (rules, tests))
    ∙ rest_within s all _ c.args.count _ _ c.zip.ensures.second.0 c.fits-s (omega (arith, c.told-s)) c.as_flattened.ensures.value
    (omega (arith, c.as_flattened.ensures.len))
    c.as_flattened.ensures.len
    (omega arith)
