-- Where a mode command's data word lives. "Data words live at 0110-013F: receive codes 16-31 first, then transmit, then
-- broadcast."
use Rattle.std.specs.Prelude.{ℕ, ◌+◌, ◌*◌, ◌%◌}
use Rattle.words.specs.declared.settings.Settings.{Settings}
use Rattle.memory.specs.declared.kind.Kind.{Kind}
use Rattle.memory.specs.Kind.{kind_number, kind_of}
use Rattle.modes.specs.Code.{code_of}

-- sixteen places for each kind
abbrev pub first_place : Kind → ℕ
first_place kind = 0x110 + 16 * kind_number kind

-- of the kind that the command has for cells: a broadcast word has places of its own where separate-broadcast is on
unfoldable pub mode_place : Settings → ℕ → ℕ
mode_place s command = first_place (kind_of s command) + code_of command % 16
