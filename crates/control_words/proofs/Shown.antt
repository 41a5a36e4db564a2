-- Any fault, as no status or another.
use mathlib.Core.Path.{◌≡◌, refl}
use mathlib.Core.Bool.{Bool, true, false, ◌||◌, or-true}
use Rattle.faults.specs.declared.fault.Faults.{Faults}
use Rattle.faults.specs.Fault.{any_fault}
use Rattle.control_words.specs.Outcome.{other_fault}

turned : (a b n : Bool) → (n || (a || b)) ≡ (a || (n || b))
turned true b n = or-true n
turned false b n = refl

pub no_fault : (f : Faults) → (f.no_status || other_fault f) ≡ any_fault f
unfolding other_fault any_fault
no_fault f = turned ((f.sync || f.invalid) || (f.count || f.contents)) (f.gap || f.second) f.no_status
