-- The inputs determine the answer: for each public function, any two results that its contract allows are equal.
-- Each line speaks of the contract as the checker reads it (`Reads.Post`), so that none can drift from its function.
use mathlib.Core.Path.{refl}
use Rattle.words.proofs.Settled.{determined, Settled}
use Rattle.words.proofs.command
use Rattle.words.proofs.bits
use Rattle.words.proofs.refusal
use Rattle.words.proofs.remembered
use Rattle.words.proofs.settings

pub address_settled : Settled 0 command.address.Kinds.ps command.address.Kinds.r command.address.Reads.Post
address_settled κs a x y v w p q = (determined p q, refl)

pub transmit_settled : Settled 0 command.transmit.Kinds.ps command.transmit.Kinds.r command.transmit.Reads.Post
transmit_settled κs a x y v w p q = (determined p q, refl)

pub subaddress_settled : Settled 0 command.subaddress.Kinds.ps command.subaddress.Kinds.r command.subaddress.Reads.Post
subaddress_settled κs a x y v w p q = (determined p q, refl)

pub count_field_settled : Settled 0 command.count_field.Kinds.ps command.count_field.Kinds.r command.count_field.Reads.Post
count_field_settled κs a x y v w p q = (determined p q, refl)

pub word_count_settled : Settled 0 command.word_count.Kinds.ps command.word_count.Kinds.r command.word_count.Reads.Post
word_count_settled κs a x y v w p q = (determined p q, refl)

pub mode_subaddress_settled : Settled 0 command.mode_subaddress.Kinds.ps command.mode_subaddress.Kinds.r command.mode_subaddress.Reads.Post
mode_subaddress_settled κs a x y v w p q = (determined p q, refl)

pub nothing_remembered_settled : Settled 0 remembered.nothing_remembered.Kinds.ps remembered.nothing_remembered.Kinds.r remembered.nothing_remembered.Reads.Post
nothing_remembered_settled κs a x y v w p q = (determined p q, refl)

pub settings_refused_settled : Settled 0 settings.settings_refused.Kinds.ps settings.settings_refused.Kinds.r settings.settings_refused.Reads.Post
settings_refused_settled κs a x y v w p q = (determined p q, refl)

pub is_own_settled : Settled 0 settings.is_own.Kinds.ps settings.is_own.Kinds.r settings.is_own.Reads.Post
is_own_settled κs a x y v w p q = (determined p q, refl)

pub is_broadcast_settled : Settled 0 settings.is_broadcast.Kinds.ps settings.is_broadcast.Kinds.r settings.is_broadcast.Reads.Post
is_broadcast_settled κs a x y v w p q = (determined p q, refl)

pub is_not_ours_settled : Settled 0 settings.is_not_ours.Kinds.ps settings.is_not_ours.Kinds.r settings.is_not_ours.Reads.Post
is_not_ours_settled κs a x y v w p q = (determined p q, refl)

pub has_broadcast_cells_settled : Settled 0 settings.has_broadcast_cells.Kinds.ps settings.has_broadcast_cells.Kinds.r settings.has_broadcast_cells.Reads.Post
has_broadcast_cells_settled κs a x y v w p q = (determined p q, refl)

pub remembering_settled : Settled 0 remembered.remembering.Kinds.ps remembered.remembering.Kinds.r remembered.remembering.Reads.Post
remembering_settled κs a x y v w p q = (determined p q, refl)

pub word_of_settled : Settled 0 bits.word_of.Kinds.ps bits.word_of.Kinds.r bits.word_of.Reads.Post
word_of_settled κs a x y v w p q = (determined p q, refl)

pub program_settings_settled : Settled 0 settings.program_settings.Kinds.ps settings.program_settings.Kinds.r settings.program_settings.Reads.Post
program_settings_settled κs a x y v w p q = (determined p q, refl)

pub number_settled : Settled 0 refusal.Refusal.number.Kinds.ps refusal.Refusal.number.Kinds.r refusal.Refusal.number.Reads.Post
number_settled κs a x y v w p q = (determined p q, refl)

pub number_from_settled : Settled 0 refusal.U16FromRefusal.from.Kinds.ps refusal.U16FromRefusal.from.Kinds.r refusal.U16FromRefusal.from.Reads.Post
number_from_settled κs a x y v w p q = (determined p q, refl)
