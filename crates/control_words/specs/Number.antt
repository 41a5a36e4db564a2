-- The number that refuses a start.
use Rattle.std.specs.Prelude.{ℕ}

-- "15 for a start address with fewer than two words left"
abbrev pub no_room_to_start : ℕ
no_room_to_start = 15
