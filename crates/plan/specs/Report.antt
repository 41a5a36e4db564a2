-- Rules 7 and 8: block status and status word, bit by bit from bit 15 down to bit 0.
use Rattle.std.specs.Prelude.{ℕ, ◌+◌, ◌*◌, ◌%◌, Bool, true, false, not, ◌||◌, [], ◌∷◌}
use Rattle.words.specs.declared.settings.Settings.{Settings}
use Rattle.words.specs.Bits.{word_of}
use Rattle.faults.specs.declared.fault.Faults.{Faults}
use Rattle.faults.specs.Fault.{any_fault}
use Rattle.lookup.specs.declared.target.Target.{Target}

-- "15 set; 13 bus B; 12 and 10 any fault; 7 rollover; 6 illegal; 5 count; 4 sync; 3 invalid word; 0 contents. Others
-- 0." "Block status gains 11 for the transfer, and 9, 2 and 1 for these three": no status; a wrong gap, sync or address
-- in it; a bad second command.
unfoldable pub block_status : Bool → Bool → Faults → Bool → Bool → ℕ
block_status busB transfer f rollover illegal =
    word_of
    (true
    ∷ false
    ∷ busB
    ∷ any_fault f
    ∷ transfer
    ∷ any_fault f
    ∷ f.no_status
    ∷ false
    ∷ rollover
    ∷ illegal
    ∷ f.count
    ∷ f.sync
    ∷ f.invalid
    ∷ f.gap
    ∷ f.second
    ∷ f.contents
    ∷ [])

-- "15-11 RT address": five bits; RT addresses that are accepted have no more
abbrev pub address_bits : ℕ → ℕ
address_bits address = 0x0800 * (address % 32)

-- "10 invalid or illegal; 8 service request; 4 broadcast; 3 busy; 2 subsystem; 0 terminal flag."
unfoldable pub status_bits : Settings → Target → Bool → ℕ
status_bits s t valid =
    word_of
    (false
    ∷ false
    ∷ false
    ∷ false
    ∷ false
    ∷ (not valid || t.illegal)
    ∷ false
    ∷ s.service_request
    ∷ false
    ∷ false
    ∷ false
    ∷ t.broadcast
    ∷ t.busy
    ∷ s.subsystem_flag
    ∷ false
    ∷ s.terminal_flag
    ∷ [])

-- the address and the bits below it
unfoldable pub status_word : Settings → Target → Bool → ℕ
status_word s t valid = address_bits s.address + status_bits s t valid
