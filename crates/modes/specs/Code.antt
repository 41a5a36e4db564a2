-- The mode codes that a rule names, and what a mode command's code says by itself.
use Rattle.std.specs.Prelude.{ℕ, Bool, not, cond, ◌&&◌, ◌||◌, leb, eqb}
use Rattle.words.specs.Command.{transmits, count_field, is_mode_subaddress}

abbrev pub transmit_status_word : ℕ
transmit_status_word = 2

abbrev pub transmitter_shutdown : ℕ
transmitter_shutdown = 4

abbrev pub override_shutdown : ℕ
override_shutdown = 5

abbrev pub inhibit_terminal_flag : ℕ
inhibit_terminal_flag = 6

abbrev pub override_inhibit : ℕ
override_inhibit = 7

abbrev pub reset_terminal : ℕ
reset_terminal = 8

abbrev pub transmit_last_command : ℕ
transmit_last_command = 18

-- a mode command's code: bits 4-0 of the command
abbrev pub code_of : ℕ → ℕ
code_of command = count_field command

-- "codes 16-31" have a data word
abbrev pub has_word : ℕ → Bool
has_word command = leb 16 (code_of command)

-- "a receive command with code 16 to 31"
unfoldable pub brings_word : ℕ → Bool
brings_word command = not (transmits command) && has_word command

-- and a transmit command with such a code
unfoldable pub fetches_word : ℕ → Bool
fetches_word command = transmits command && has_word command

-- "One word is expected for a receive command with code 16 to 31, else none."
unfoldable pub mode_words : ℕ → ℕ
mode_words command = cond (brings_word command) 1 0

-- "Transmit status word and transmit last command return what was remembered before them": a mode command with one of
-- these codes
unfoldable pub recalls : ℕ → Bool
recalls command =
    is_mode_subaddress command && (eqb (code_of command) transmit_status_word || eqb (code_of command) transmit_last_command)
