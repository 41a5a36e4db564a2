-- The faults of a record that is no transfer: document 01's.
use Prim.Native.Nat.{ℕ, ◌≤◌}
use mathlib.Core.Path.{◌≡◌}
use mathlib.Core.Bool.{Bool, false, not, ◌&&◌, ◌||◌, or-false}
use lib.Dec.{eqb}
use Rattle.records.specs.declared.value.Record.{Record}
use Rattle.records.specs.Transfer.{transfer_fails}
use Rattle.records.specs.Value.{has_wrong_sync, has_invalid_word}
use Rattle.records.proofs.Before.{plain}
use Rattle.faults.specs.Fault.{faults_of}

-- "Sync fault and invalid word come from the flags. Count fault: count differs from expected and neither flag is set."
pub faults_before :
    (expected : ℕ) (contents : Bool) (v : Record) → v.flags ≤ 7 →
    faults_of expected contents v
    ≡ record {
      sync = has_wrong_sync v;
      invalid = has_invalid_word v;
      count = not (eqb v.count expected) && not (has_wrong_sync v || has_invalid_word v);
      contents = contents;
      no_status = false;
      gap = false;
      second = false;
    }
unfolding faults_of transfer_fails
faults_before expected contents v h =
    let p = plain v h in
    simp (p.status, p.gap, p.second, or-false)
