-- `put_found` meets its contract: zeros, how many, and then each.
use Prim.Native.Nat.{min, ◌≤◌}
use lib.ListN.{length}
use borrow.Author.Rules.{rules}
use Rattle.std.proofs.lemmas.List.{length-take-le}
use native.Mathlib.Omega.{arith}
use mathlib.Core.Path.{sym}
use Rattle.c_words_areas.proofs.Listed.{listing_over, front_take}
use Rattle.c_words_areas.proofs.labels.put_found.Goals as goal

pub returns : goal.returns
returns c =
    let a = c.args in
    let n = min a.count 89 in
    let there : n ≤ length a.numbers.now = search rules in
    rw (
      front_take a.numbers.now n there,
      c.put_sharers.ensures,
      c.put.ensures,
      c.put_over.ensures,
      c.from.ensures,
      c.min-listed.ensures,
    )
    (listing_over _ _ n (sym (length-take-le n a.numbers.now there)) (omega arith))
