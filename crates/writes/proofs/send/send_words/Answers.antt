-- `send_words` meets its contract: two runs are the walk around the window.
use native.Mathlib.Omega.{arith}
use mathlib.Core.Path.{sym, ◌∙◌}
use Rattle.writes.proofs.TwoRuns.{runs_in_ram, sent_in_runs}
use Rattle.writes.proofs.send.send_words.Goals as goal

pub copy_run-requires : goal.copy_run-requires
copy_run-requires c =
    let t = runs_in_ram _ _ _ _ (sym c.in-Some.is ∙ c.runs_of.ensures) in (omega (arith, t.shared.all), t.first_end)

pub overflow_add-r : goal.overflow_add-r
overflow_add-r c = let t = runs_in_ram _ _ _ _ (sym c.in-Some.is ∙ c.runs_of.ensures) in omega (arith, t.shared.all)

pub copy_run-requires-else-n-eq1 : goal.copy_run-requires-else-n-eq1
copy_run-requires-else-n-eq1 c =
    let t = runs_in_ram _ _ _ _ (sym c.in-Some.is ∙ c.runs_of.ensures) in (omega (arith, t.shared.all), t.second_end)

pub returns-then-from-reply : goal.returns-then-from-reply
returns-then-from-reply c =
    let t = runs_in_ram _ _ _ _ (sym c.in-Some.is ∙ c.runs_of.ensures) in
    sent_in_runs _ _ _ t.shared c.args.ram.now c.args.reply.now _ _ c.copy_run.ensures c.copy_run-else-n-eq1.ensures
