-- The inputs determine the answer and every lent word: for each public function, any two results that its contract
-- allows are equal. Each line speaks of the contract as the checker reads it (`Reads.Post`), so that none can drift
-- from its function.
use mathlib.Core.Path.{refl}
use Rattle.words.proofs.Settled.{determined, Settled}
use Rattle.windows.proofs.window

pub run_from_settled : Settled 0 window.run_from.Kinds.ps window.run_from.Kinds.r window.run_from.Reads.Post
run_from_settled κs a x y v w p q = (determined p q, refl)

pub aligned_around_settled : Settled 0 window.aligned_around.Kinds.ps window.aligned_around.Kinds.r window.aligned_around.Reads.Post
aligned_around_settled κs a x y v w p q = (determined p q, refl)

pub place_settled : Settled 0 window.place.Kinds.ps window.place.Kinds.r window.place.Reads.Post
place_settled κs a x y v w p q = (determined p q, refl)

pub rolls_over_settled : Settled 0 window.rolls_over.Kinds.ps window.rolls_over.Kinds.r window.rolls_over.Reads.Post
rolls_over_settled κs a x y v w p q = (determined p q, refl)

pub windows_meet_settled : Settled 0 window.windows_meet.Kinds.ps window.windows_meet.Kinds.r window.windows_meet.Reads.Post
windows_meet_settled κs a x y v w p q = (determined p q, refl)

pub meets_fixed_settled : Settled 0 window.meets_fixed.Kinds.ps window.meets_fixed.Kinds.r window.meets_fixed.Reads.Post
meets_fixed_settled κs a x y v w p q = (determined p q, refl)

pub fits_below_settled : Settled 0 window.fits_below.Kinds.ps window.fits_below.Kinds.r window.fits_below.Reads.Post
fits_below_settled κs a x y v w p q = (determined p q, refl)
