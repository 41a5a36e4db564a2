-- A size that several layers name; `src/sizes.rt` has it for the code.
use Rattle.std.specs.Prelude.{ℕ}

-- the bytes of a record: "record is not 80 bytes"
abbrev pub record_bytes : ℕ
record_bytes = 80
