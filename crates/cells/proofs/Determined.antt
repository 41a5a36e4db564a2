-- The inputs determine the answer and every lent word: for each public function, any two results that its contract
-- allows are equal. Each line speaks of the contract as the checker reads it (`Reads.Post`), so that none can drift
-- from its function.
use mathlib.Core.Path.{refl}
use Rattle.words.proofs.Settled.{determined, Settled}
use Rattle.cells.proofs.cell
use Rattle.cells.proofs.stack

pub cell_by_kind_settled : Settled 1 cell.cell_by_kind.Kinds.ps cell.cell_by_kind.Kinds.r cell.cell_by_kind.Reads.Post
cell_by_kind_settled κs a x y v w p q = (determined p q, refl)

pub cell_at_settled : Settled 1 cell.cell_at.Kinds.ps cell.cell_at.Kinds.r cell.cell_at.Reads.Post
cell_at_settled κs a x y v w p q = (determined p q, refl)

pub window_of_settled : Settled 0 cell.window_of.Kinds.ps cell.window_of.Kinds.r cell.window_of.Reads.Post
window_of_settled κs a x y v w p q = (determined p q, refl)

pub sound_within_settled : Settled 0 cell.sound_within.Kinds.ps cell.sound_within.Kinds.r cell.sound_within.Reads.Post
sound_within_settled κs a x y v w p q = (determined p q, refl)

pub sound_cell_settled : Settled 0 cell.sound_cell.Kinds.ps cell.sound_cell.Kinds.r cell.sound_cell.Reads.Post
sound_cell_settled κs a x y v w p q = (determined p q, refl)

pub stack_pointer_settled : Settled 1 stack.stack_pointer.Kinds.ps stack.stack_pointer.Kinds.r stack.stack_pointer.Reads.Post
stack_pointer_settled κs a x y v w p q = (determined p q, refl)

pub stack_window_settled : Settled 1 stack.stack_window.Kinds.ps stack.stack_window.Kinds.r stack.stack_window.Reads.Post
stack_window_settled κs a x y v w p q = (determined p q, refl)

pub stack_fits_settled : Settled 0 stack.stack_fits.Kinds.ps stack.stack_fits.Kinds.r stack.stack_fits.Reads.Post
stack_fits_settled κs a x y v w p q = (determined p q, refl)

pub stack_sound_settled : Settled 1 stack.stack_sound.Kinds.ps stack.stack_sound.Kinds.r stack.stack_sound.Reads.Post
stack_sound_settled κs a x y v w p q = (determined p q, refl)
