-- `list_unsound` meets its contract.
use Rattle.std.proofs.Common.{arith, refl, sym, ◌∙◌, ◌≡◌}
use Rattle.label.specs.Listing.{passing}
use Rattle.label.proofs.Turns.{run_starts, run_put, run_passed, unsound_told}
use Rattle.label.proofs.Most.{listed_fits, vain_most}
use Rattle.label.proofs.whole.list_unsound.Goals as goal
use Rattle.label.proofs.whole.list_unsound.Goals.{then-read_in_vain, else-read_in_vain}

pub loop-number-init : goal.loop-number-init
unfolding passing
loop-number-init c = (omega arith, run_starts _ _ _ _ _ _ _ refl refl refl)

pub bounds-unsound-count : goal.bounds-unsound-count
bounds-unsound-count c =
    listed_fits _ c.loop-number.number 96 90 _ c.loop-number.invariant.1.place (vain_most _ _) (omega arith)
    (sym c.read_in_vain.ensures ∙ c.if-read_in_vain.true)

pub loop-number-preserved : goal.loop-number-preserved
loop-number-preserved c =
    let run = c.loop-number.invariant.1 in
    elim c.if-read_in_vain.branch [
      | then-read_in_vain w ↦
          (omega (arith, w.count-is), run_put _ _ _ _ _ _ _ run _ _ _ refl w.unsound-is w.count-is (sym c.read_in_vain.ensures ∙ w.if-read_in_vain.true))
      | else-read_in_vain w ↦
          (omega (arith, w.count-is), run_passed _ _ _ _ _ _ _ run _ _ w.unsound-is w.count-is (sym c.read_in_vain.ensures ∙ w.if-read_in_vain.false))
    ]

pub returns : goal.returns
returns c =
    let e : c.loop-number.number ≡ 96 = omega arith in
    unsound_told _ _ _ _ _ c.loop-number.invariant.1 ∙ rw e
