-- What was heard: a record value, and what its own form says against it. Bytes, values and long records are three ways
-- into one definition.
use Rattle.std.specs.Prelude.{ℕ, Bool, false, not, List}
use Rattle.records.specs.declared.value.Record.{Record}
use Rattle.records.specs.Value.{keeps_layout}
use Rattle.layout.specs.Layout.{wrong_length, breaks_layout, value_in}
use Rattle.layout_long.specs.Long.{old_part, wrong_long_length, breaks_long}

pub record Heard : Type 0 where
  pub value : Record
  -- "record is not 80 bytes"
  pub bad_length : Bool
  -- "record breaks its layout"
  pub bad_layout : Bool

-- a record value has no bytes, so no length
abbrev pub heard_value : Record → Heard
heard_value v = record { value = v; bad_length = false; bad_layout = not (keeps_layout v) }

abbrev pub heard_bytes : List ℕ → Heard
heard_bytes bytes = record { value = value_in bytes; bad_length = wrong_length bytes; bad_layout = breaks_layout bytes }

-- "The new record has 96 bytes: the old 80"; the upper half and the member number play no part: "The stack still stores
-- the lower half."
abbrev pub heard_long : List ℕ → Heard
heard_long bytes =
    record { value = value_in (old_part bytes); bad_length = wrong_long_length bytes; bad_layout = breaks_long bytes }
