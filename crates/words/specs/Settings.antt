-- Settings. "Settings: RT address 0 to 30; area A or B; stack size 256, 512, 1,024 or 2,048 words; yes/no for .."
-- "Settings gain a yes/no for broadcast. When it is off, 31 is an ordinary address, own if the settings say 31"
use Rattle.std.specs.Prelude.{ℕ, Bool, true, false, not, cond, ◌&&◌, ◌||◌, ltb, eqb}
use Rattle.words.specs.declared.settings.Settings.{Settings}
use Rattle.words.specs.declared.settings.Area.TheVariants.{A}
use Rattle.words.specs.Command.{address_of}

-- "stack size 256, 512, 1,024 or 2,048 words"
unfoldable pub stack_size_listed : ℕ → Bool
stack_size_listed size = (eqb size 256 || eqb size 512) || (eqb size 1024 || eqb size 2048)

-- "3 for RT address over 30 with broadcast on, over 31 with it off"
abbrev pub highest_address : Settings → ℕ
highest_address s = cond s.broadcast 30 31

-- refusal 3: RT address over the highest, "or stack size not listed"
unfoldable pub settings_refused : Settings → Bool
settings_refused s = ltb (highest_address s) s.address || not (stack_size_listed s.stack_size)

-- the command has the terminal's own address
unfoldable pub is_own : Settings → ℕ → Bool
is_own s command = eqb (address_of command) s.address

-- "Address 31 is broadcast.", and with broadcast off "no message is a broadcast". No other rule names 31 as an address.
unfoldable pub is_broadcast : Settings → ℕ → Bool
is_broadcast s command = s.broadcast && eqb (address_of command) 31

-- refusal 6: "not own address and not 31", and "6 for 31 when it is off and not our own"
unfoldable pub is_not_ours : Settings → ℕ → Bool
is_not_ours s command = not (is_own s command) && not (is_broadcast s command)

-- "broadcast cells are read only if separate-broadcast is on", and with broadcast off "broadcast cells are not read by
-- the whole-area check"
unfoldable pub has_broadcast_cells : Settings → Bool
has_broadcast_cells s = s.broadcast && s.separate_broadcast

-- "RT 5, area A, stack 256", overwrite-invalid as told, "and the rest off"; of broadcast "The trace program has it on."
abbrev pub plain_settings : Bool → Settings
plain_settings overwrite =
    record {
      address = 5;
      area = A;
      stack_size = 256;
      overwrite_invalid = overwrite;
      separate_broadcast = false;
      illegal_receive_disable = false;
      busy_receive_disable = false;
      busy_always = false;
      service_request = false;
      subsystem_flag = false;
      terminal_flag = false;
      broadcast = true;
    }

-- the trace program's: "with RT 5, area A, stack 256, overwrite-invalid on and the rest off"
unfoldable pub program_settings : Settings
program_settings = plain_settings true
