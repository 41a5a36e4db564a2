-- `store_some` meets its contract: two runs are the walk around the window.
use native.Mathlib.Omega.{arith}
use mathlib.Core.Path.{sym, ◌∙◌}
use Rattle.writes.proofs.TwoRuns.{runs_in_ram, stored_in_runs}
use Rattle.writes.proofs.store.store_some.Goals as goal

pub copy_run-requires : goal.copy_run-requires
copy_run-requires c =
    let t = runs_in_ram _ _ _ _ (sym c.in-Some.is ∙ c.runs_of.ensures) in (t.first_end, omega (arith, t.shared.all))

pub copy_run-requires-else-n-eq1 : goal.copy_run-requires-else-n-eq1
copy_run-requires-else-n-eq1 c =
    let t = runs_in_ram _ _ _ _ (sym c.in-Some.is ∙ c.runs_of.ensures) in (omega (arith, t.second_end), omega (arith, t.shared.all))

pub returns-then-n-le32 : goal.returns-then-n-le32
returns-then-n-le32 c =
    let t = runs_in_ram _ _ _ _ (sym c.in-Some.is ∙ c.runs_of.ensures) in
    stored_in_runs _ _ _ t.shared c.args.words c.args.ram.now _ _ c.copy_run.ensures c.copy_run-else-n-eq1.ensures
