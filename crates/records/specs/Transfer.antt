-- The RT-to-RT transfer in a record value: "Two restored boxes now talk to each other and our terminal receives."
use Rattle.std.specs.Prelude.{◌/◌, ◌%◌, Bool, not, ◌&&◌, ◌||◌, eqb}
use Rattle.words.specs.Command.{transmits}
use Rattle.records.specs.declared.value.Record.{Record}

-- "Record flag 8 marks such a transfer"
abbrev pub is_transfer : Record → Bool
is_transfer v = eqb (v.flags / 8 % 2) 1

-- "Flag 16 means that the transmitter gave no status, 32 a wrong gap, sync or address in that status, 64 a bad second
-- command."
abbrev pub has_no_status : Record → Bool
has_no_status v = eqb (v.flags / 16 % 2) 1

abbrev pub has_wrong_gap : Record → Bool
has_wrong_gap v = eqb (v.flags / 32 % 2) 1

abbrev pub has_bad_second : Record → Bool
has_bad_second v = eqb (v.flags / 64 % 2) 1

-- any of "flags 16 to 64"
unfoldable pub transfer_fails : Record → Bool
transfer_fails v = has_no_status v || (has_wrong_gap v || has_bad_second v)

-- "5 also when flag 8 is on a transmit command, when flags 16 to 64 or bytes 2-3 are set without flag 8, or when the
-- count is not 0 with flags 16 to 64."
unfoldable pub breaks_transfer : Record → Bool
breaks_transfer v =
    (is_transfer v && transmits v.command)
    || ((not (is_transfer v) && (transfer_fails v || not (eqb v.transmit_command 0)))
    || (transfer_fails v && not (eqb v.count 0)))
