-- Rule 1: the faults of a message.
use Rattle.std.specs.Prelude.{ℕ, Bool, not, cond, ◌&&◌, ◌||◌, eqb}
use Rattle.records.specs.declared.value.Record.{Record}
use Rattle.words.specs.Command.{transmits, word_count}
use Rattle.records.specs.Transfer.{has_no_status, has_wrong_gap, has_bad_second, transfer_fails}
use Rattle.records.specs.Value.{has_wrong_sync, has_invalid_word}
use Rattle.faults.specs.declared.fault.Faults.{Faults}

-- "Expected words: the word count for receive, 0 for transmit."
unfoldable pub expected_words : ℕ → ℕ
expected_words command = cond (transmits command) 0 (word_count command)

-- a fault that the flags tell
abbrev pub told_fault : Record → Bool
told_fault v = (has_wrong_sync v || has_invalid_word v) || transfer_fails v

-- "Sync fault and invalid word come from the flags. Count fault: count differs from expected and neither flag is set."
-- Of flags 16 to 64: "each is a fault, and with any of them no count fault is set." The caller says how many words are
-- expected, and whether the contents are at fault.
unfoldable pub faults_of : ℕ → Bool → Record → Faults
faults_of expected contents v =
    record {
      sync = has_wrong_sync v;
      invalid = has_invalid_word v;
      count = not (eqb v.count expected) && not (told_fault v);
      contents = contents;
      no_status = has_no_status v;
      gap = has_wrong_gap v;
      second = has_bad_second v;
    }

-- "Contents fault: a broadcast transmit."
unfoldable pub faults_for : Bool → Record → Faults
faults_for broadcast v = faults_of (expected_words v.command) (broadcast && transmits v.command) v

-- "Valid means no fault."
unfoldable pub any_fault : Faults → Bool
any_fault f =
    ((f.sync || f.invalid) || (f.count || f.contents)) || (f.no_status || (f.gap || f.second))
