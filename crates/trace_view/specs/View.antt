-- A view of a trace: the caller's bytes and a place in them. "with fewer than 80 bytes after its place it gives none
-- and the place stays"
use Rattle.std.specs.Prelude.{ℕ, ◌+◌, Bool, true, false, cond, List, length, take, drop, leb}
use Rattle.words.specs.Sizes.{record_bytes}
use Rattle.layout.specs.Layout.{read_record, not_read}
use Rattle.trace_view.specs.declared.view.Taken.{Taken}

-- the 80 bytes at the place are there: false also where the place lies beyond the end
abbrev pub has_record : List ℕ → ℕ → Bool
has_record trace at = leb (at + record_bytes) (length trace)

-- none, and the place as it was
unfoldable pub none_at : ℕ → Taken
none_at at = record { found = false; at = at; reading = not_read 0 }

-- what the record at the place reads as, and the place after it; or none
unfoldable pub taken_at : List ℕ → ℕ → Taken
taken_at trace at =
    cond (has_record trace at)
    (record { found = true; at = at + record_bytes; reading = read_record (take record_bytes (drop at trace)) })
    (none_at at)
