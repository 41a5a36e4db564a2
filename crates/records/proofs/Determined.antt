-- The inputs determine the answer: for each public function, any two results that its contract allows are equal.
-- Each line speaks of the contract as the checker reads it (`Reads.Post`), so that none can drift from its function.
use mathlib.Core.Path.{refl}
use Rattle.words.proofs.Settled.{determined, Settled}
use Rattle.records.proofs.transfer
use Rattle.records.proofs.value

pub zero_value_settled : Settled 0 value.zero_value.Kinds.ps value.zero_value.Kinds.r value.zero_value.Reads.Post
zero_value_settled κs a x y v w p q = (determined p q, refl)

pub bus_b_settled : Settled 0 value.bus_b.Kinds.ps value.bus_b.Kinds.r value.bus_b.Reads.Post
bus_b_settled κs a x y v w p q = (determined p q, refl)

pub wrong_sync_settled : Settled 0 value.wrong_sync.Kinds.ps value.wrong_sync.Kinds.r value.wrong_sync.Reads.Post
wrong_sync_settled κs a x y v w p q = (determined p q, refl)

pub invalid_word_settled : Settled 0 value.invalid_word.Kinds.ps value.invalid_word.Kinds.r value.invalid_word.Reads.Post
invalid_word_settled κs a x y v w p q = (determined p q, refl)

pub keeps_header_settled : Settled 0 value.keeps_header.Kinds.ps value.keeps_header.Kinds.r value.keeps_header.Reads.Post
keeps_header_settled κs a x y v w p q = (determined p q, refl)

pub keeps_layout_settled : Settled 0 value.keeps_layout.Kinds.ps value.keeps_layout.Kinds.r value.keeps_layout.Reads.Post
keeps_layout_settled κs a x y v w p q = (determined p q, refl)

pub transfer_fails_settled : Settled 0 transfer.transfer_fails.Kinds.ps transfer.transfer_fails.Kinds.r transfer.transfer_fails.Reads.Post
transfer_fails_settled κs a x y v w p q = (determined p q, refl)

pub is_transfer_settled : Settled 0 transfer.is_transfer.Kinds.ps transfer.is_transfer.Kinds.r transfer.is_transfer.Reads.Post
is_transfer_settled κs a x y v w p q = (determined p q, refl)

pub no_status_settled : Settled 0 transfer.no_status.Kinds.ps transfer.no_status.Kinds.r transfer.no_status.Reads.Post
no_status_settled κs a x y v w p q = (determined p q, refl)

pub wrong_gap_settled : Settled 0 transfer.wrong_gap.Kinds.ps transfer.wrong_gap.Kinds.r transfer.wrong_gap.Reads.Post
wrong_gap_settled κs a x y v w p q = (determined p q, refl)

pub bad_second_settled : Settled 0 transfer.bad_second.Kinds.ps transfer.bad_second.Kinds.r transfer.bad_second.Reads.Post
bad_second_settled κs a x y v w p q = (determined p q, refl)
