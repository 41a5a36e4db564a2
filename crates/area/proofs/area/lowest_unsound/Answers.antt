-- `lowest_unsound` meets its contract: three searches, each where the one before has found nothing.
use Rattle.std.proofs.Common.{rules}
use Rattle.std.proofs.lemmas.Option.{MatchOption-at_none, MatchOption-at_some}
use Rattle.area.specs.Area.{lowest_unsound}
use Rattle.area.proofs.ByKind.{three_kinds}
use Rattle.area.proofs.area.lowest_unsound.Goals as goal

pub returns : goal.returns
unfolding lowest_unsound
returns c =
    let named =
    three_kinds c.args.ram.now c.args.s c.stack_window-stack.result _ _ _ c.lowest_of_kind.ensures
    (λ n. let e = MatchOption-at_none _ _ n c.or_else.ensures in search rules)
    (λ x e. MatchOption-at_some _ _ x e c.or_else.ensures)
    (λ n b. let e = MatchOption-at_none _ _ n c.or_else-2.ensures in search rules)
    (λ n b. let e = MatchOption-at_none _ _ n c.or_else-2.ensures in search rules)
    (λ x e. MatchOption-at_some _ _ x e c.or_else-2.ensures) in
    rw c.stack_window-stack.ensures at named
