-- The refusals and their numbers: each by the constant of its name in `Number`.
use Rattle.std.specs.Prelude.{ℕ, Result}
use Rattle.std.specs.Prelude.Result.{Ok, Err}
use Rattle.words.specs.declared.refusal.Refusal.{Refusal}
use Rattle.words.specs.declared.refusal.Refusal.TheVariants.{RamLength, ReplyRoom, BadSettings, RecordLength, RecordLayout, OtherAddress, ModeSubaddress, UnsoundStack, UnsoundCell, GoingBackLoses, CountFull, AddressBeyond, NoRoomToStart}
use Rattle.words.specs.Number.{ram_length, reply_room, bad_settings, record_length, record_layout, other_address, mode_subaddress, unsound_stack, unsound_cell, going_back_loses, count_full, address_beyond, no_room_to_start}

abbrev pub number_of : Refusal → ℕ
number_of RamLength = ram_length
number_of ReplyRoom = reply_room
number_of BadSettings = bad_settings
number_of RecordLength = record_length
number_of RecordLayout = record_layout
number_of OtherAddress = other_address
number_of ModeSubaddress = mode_subaddress
number_of UnsoundStack = unsound_stack
number_of UnsoundCell = unsound_cell
number_of GoingBackLoses = going_back_loses
number_of CountFull = count_full
number_of AddressBeyond = address_beyond
number_of NoRoomToStart = no_room_to_start

-- "0 is done": the number of what is not refused, else the refusal's
abbrev pub number_in : {T : Type 0} → Result T Refusal → ℕ
number_in (Ok x) = 0
number_in (Err refusal) = number_of refusal
