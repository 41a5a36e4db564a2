-- The forms of a mode command that the table defines.
use Rattle.std.specs.Prelude.{ℕ, Bool, not, cond, ◌&&◌, ◌||◌}
use Rattle.words.specs.Command.{transmits}
use Rattle.modes.specs.declared.table.Mode.{Mode}
use Rattle.modes.specs.Table.{mode_of}
use Rattle.modes.specs.Code.{code_of}

-- both yes or both no
abbrev pub agree : Bool → Bool → Bool
agree a b = cond a b (not b)

-- an entry of the table allows the transmit bit, and the broadcast where there is one
abbrev pub allows : Mode → Bool → Bool → Bool
allows m transmit broadcast = m.defined && (agree m.transmit transmit && (m.broadcast || not broadcast))

-- a form is a code, a transmit bit, and broadcast or not: "which transmit bit, data word and broadcast are allowed"
unfoldable pub is_defined : Bool → ℕ → Bool
is_defined broadcast command = allows (mode_of (code_of command)) (transmits command) broadcast
