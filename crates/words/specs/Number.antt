-- The numbers that refuse, by name: the table "Numbers that refuse", in its order, and then those of later requests.
-- `src/number.rt` has the same names for the code, but for 15, which `number.rt` of `control_words` has.
use Rattle.std.specs.Prelude.{ℕ}

-- "RAM is not 4,096 words"; and since the 64K card, "1 for any other length" than these and 65,536
abbrev pub ram_length : ℕ
ram_length = 1

-- "reply buffer under 33 words"
abbrev pub reply_room : ℕ
reply_room = 2

-- "3 for RT address over 30 with broadcast on, over 31 with it off", or "stack size not listed"
abbrev pub bad_settings : ℕ
bad_settings = 3

-- "record is not 80 bytes"
abbrev pub record_length : ℕ
record_length = 4

-- "record breaks its layout (also the writer's answer)"
abbrev pub record_layout : ℕ
record_layout = 5

-- "not own address and not 31"
abbrev pub other_address : ℕ
other_address = 6

-- "subaddress 0 or 31"
abbrev pub mode_subaddress : ℕ
mode_subaddress = 7

-- "stack unsound"
abbrev pub unsound_stack : ℕ
unsound_stack = 8

-- "the message's cell unsound"
abbrev pub unsound_cell : ℕ
unsound_cell = 9

-- "then 10 when going back would lose a non-zero upper half or member number"
abbrev pub going_back_loses : ℕ
going_back_loses = 10

-- "11, tested last, when the cell's count is at its largest value"
abbrev pub count_full : ℕ
count_full = 11

-- "12 for an address beyond the RAM"
abbrev pub address_beyond : ℕ
address_beyond = 12

-- "15 for a start address with fewer than two words left"
abbrev pub no_room_to_start : ℕ
no_room_to_start = 15
