-- The kinds of cell. "A cell is a kind and a subaddress; its number is 32·kind + subaddress, with receive 0, transmit
-- 1, broadcast 2."
use Rattle.std.specs.Prelude.{ℕ, ◌+◌, ◌*◌, Bool, true, false, cond, ◌&&◌, ltb}
use Rattle.words.specs.declared.settings.Settings.{Settings}
use Rattle.words.specs.Command.{transmits}
use Rattle.words.specs.Settings.{is_broadcast}
use Rattle.memory.specs.declared.kind.Kind.{Kind}
use Rattle.memory.specs.declared.kind.Kind.TheVariants.{Receive, Transmit, Broadcast}

abbrev pub kind_number : Kind → ℕ
kind_number Receive = 0
kind_number Transmit = 1
kind_number Broadcast = 2

unfoldable pub cell_number : Kind → ℕ → ℕ
cell_number kind sub = 32 * kind_number kind + sub

-- the kind of the cell with this number
unfoldable pub kind_numbered : ℕ → Kind
kind_numbered number = cond (ltb number 32) Receive (cond (ltb number 64) Transmit Broadcast)

-- "able to write or only to send"; a kind that is written to is one that the double buffer is for, "bit 15 double buffer
-- for receive and broadcast"
abbrev pub able_to_write : Kind → Bool
able_to_write Receive = true
able_to_write Transmit = false
able_to_write Broadcast = true

-- "A transmit command uses the transmit cell, broadcast or not. A broadcast receive uses the broadcast cell if
-- separate-broadcast is on, else the receive cell."
unfoldable pub kind_of : Settings → ℕ → Kind
kind_of s command =
    cond (transmits command) Transmit (cond (is_broadcast s command && s.separate_broadcast) Broadcast Receive)
