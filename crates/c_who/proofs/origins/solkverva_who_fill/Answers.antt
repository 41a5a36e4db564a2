-- A refusal puts nothing; else what goes on is put back.
use Rattle.c_who.proofs.Filled.{not_filled, filled_in}
use Rattle.c_who.proofs.origins.solkverva_who_fill.Goals as goal

pub returns-then-filled-ne0-clause-lent : goal.returns-then-filled-ne0-clause-lent
returns-then-filled-ne0-clause-lent c =
    let s = c.settings_from-s.ensures in
    let at = c.filling_from-at.ensures in
    let f = c.fill-filled.ensures in
    not_filled _ _ _ _ _ _ _ _ (rw (s, at) at f.tables) (rw s at f.number) c.if-filled-ne0.true

pub returns-clause-lent : goal.returns-clause-lent
returns-clause-lent c =
    let s = c.settings_from-s.ensures in
    let at = c.filling_from-at.ensures in
    let f = c.fill-filled.ensures in
    let back = c.put_filling.ensures in
    filled_in _ _ _ _ _ _ _ _ (rw (s, at) at f.tables) (rw s at f.number) c.if-filled-ne0.false _ _ back.remembered back.records
