-- A transfer that fails: "each is a fault, and with any of them no count fault is set."
use Prim.Native.Nat.{ℕ}
use mathlib.Core.Path.{◌≡◌}
use mathlib.Core.Bool.{Bool, true, false, ◌||◌, and-false, or-true}
use Rattle.records.specs.declared.value.Record.{Record}
use Rattle.records.specs.Transfer.{has_no_status, has_wrong_gap, has_bad_second, transfer_fails}
use Rattle.faults.specs.Fault.{faults_of, any_fault}

pub fails_at_fault :
    (expected : ℕ) (contents : Bool) (v : Record) → transfer_fails v ≡ true → any_fault (faults_of expected contents v) ≡ true
unfolding faults_of any_fault transfer_fails
fails_at_fault expected contents v f =
    let g : (has_no_status v || (has_wrong_gap v || has_bad_second v)) ≡ true = f in
    simp (g, or-true)

pub fails_no_count :
    (expected : ℕ) (contents : Bool) (v : Record) → transfer_fails v ≡ true → (faults_of expected contents v).count ≡ false
unfolding faults_of
fails_no_count expected contents v f = simp (f, or-true, and-false)
