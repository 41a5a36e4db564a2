-- `find_kind` meets its contract.
use Rattle.std.proofs.Common.{arith, refl, ◌∙◌}
use Rattle.memory.proofs.Numbers.{number_below}
use Rattle.label.proofs.Turns.{run_starts, run_put, run_passed}
use Rattle.label.proofs.Search.{first_shares_none, turn_shares, kind_fits, kind_done}
use Rattle.label.proofs.one.Search.find_kind.Goals as goal
use Rattle.label.proofs.one.Search.find_kind.Goals.{then-shares_window, else-shares_window}

pub loop-sub-init : goal.loop-sub-init
loop-sub-init c = (omega arith, run_starts _ _ _ _ _ _ _ (first_shares_none _ _ _ _ _ _) refl refl)

pub overflow_cast-numbers : goal.overflow_cast-numbers
overflow_cast-numbers c =
    omega (arith, c.cell_number.ensures, number_below c.args.kind c.loop-sub.sub (omega arith))

pub bounds-numbers-count : goal.bounds-numbers-count
bounds-numbers-count c =
    let met = turn_shares _ _ _ _ _ _ c.loop-sub.sub _ (omega arith) (omega arith) c.shares_window.ensures in
    let fits =
    kind_fits _ _ _ _ _ _ c.loop-sub.sub _ _ c.loop-sub.invariant.1.place c.requires.room (omega arith)
    (met ∙ c.if-shares_window.true) in
    omega arith

pub loop-sub-preserved : goal.loop-sub-preserved
loop-sub-preserved c =
    let met = turn_shares _ _ _ _ _ _ c.loop-sub.sub _ (omega arith) (omega arith) c.shares_window.ensures in
    let run = c.loop-sub.invariant.1 in
    elim c.if-shares_window.branch [
      | then-shares_window w ↦ (
        omega (arith, w.count-is),
        run_put _ _ _ _ _ _ _ run _ _ _ w.cell_number.ensures w.numbers-is w.count-is (met ∙ w.if-shares_window.true),
      )
      | else-shares_window w ↦
          (omega (arith, w.count-is), run_passed _ _ _ _ _ _ _ run _ _ w.numbers-is w.count-is (met ∙ w.if-shares_window.false))
    ]

pub returns : goal.returns
returns c =
    let done = kind_done _ _ _ _ _ _ c.loop-sub.sub _ _ _ (omega arith) c.loop-sub.invariant.1 in
    record { numbers = done.0; count = done.1; most = omega arith }
