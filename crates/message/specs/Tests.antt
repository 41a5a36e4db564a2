-- The tests of a message, in the table's order. ".. an entry point tests exactly those about things that it is given."
use Rattle.std.specs.Prelude.{ℕ, Bool, not, List, [], ◌∷◌, ◌++◌, length, ltb}
use Rattle.words.specs.declared.settings.Settings.{Settings}
use Rattle.words.specs.Command.{is_mode_subaddress}
use Rattle.words.specs.Number.{ram_length, reply_room, bad_settings, record_length, record_layout, other_address, mode_subaddress, unsound_stack, unsound_cell}
use Rattle.words.specs.Refusal.{Test, ◌when◌, first_of}
use Rattle.words.specs.Settings.{settings_refused, is_not_ours}
use Rattle.memory.specs.Map.{ram_refused}
use Rattle.memory.specs.State.{State}
use Rattle.cells.specs.Cell.{sound_cell}
use Rattle.cells.specs.Stack.{stack_window, stack_sound}
use Rattle.lookup.specs.Target.{cell_for}
use Rattle.message.specs.Heard.{Heard}

-- "reply buffer under 33 words"
abbrev pub reply_refused : ℕ → Bool
reply_refused room = ltb room 33

-- "the message's cell unsound"
unfoldable pub cell_unsound : List ℕ → Settings → ℕ → Bool
cell_unsound ram s command = not (sound_cell (length ram) (stack_window ram s) (cell_for ram s command))

-- about RAM, reply buffer and settings
abbrev pub early_tests : ℕ → ℕ → Settings → List Test
early_tests words room s =
    ram_length when ram_refused words ∷ reply_room when reply_refused room ∷ bad_settings when settings_refused s ∷ []

-- about the record
abbrev pub record_tests : Heard → List Test
record_tests h = record_length when h.bad_length ∷ record_layout when h.bad_layout ∷ []

-- about the command: its address and subaddress
abbrev pub address_tests : Settings → ℕ → List Test
address_tests s command = other_address when is_not_ours s command ∷ mode_subaddress when is_mode_subaddress command ∷ []

-- and what it finds in RAM
abbrev pub command_tests : List ℕ → Settings → ℕ → List Test
command_tests ram s command =
    address_tests s command
    ++ (unsound_stack when not (stack_sound ram s) ∷ unsound_cell when cell_unsound ram s command ∷ [])

-- "Tested in this order"
abbrev pub tests_for : Settings → Heard → State → List Test
tests_for s h x =
    early_tests (length x.ram) (length x.reply) s ++ (record_tests h ++ command_tests x.ram s h.value.command)

unfoldable pub refusal_for : Settings → Heard → State → ℕ
refusal_for s h x = first_of (tests_for s h x)
