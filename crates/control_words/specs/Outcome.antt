-- What a message's record tells the conditions. "Message outcomes come from a trace."
use Rattle.std.specs.Prelude.{Bool, not, ◌&&◌, ◌||◌, leb}
use Rattle.words.specs.Command.{transmits, count_field, is_mode_subaddress}
use Rattle.words.specs.Settings.{is_broadcast, program_settings}
use Rattle.records.specs.declared.value.Record.{Record}
use Rattle.records.specs.Transfer.{is_transfer}
use Rattle.faults.specs.declared.fault.Faults.{Faults}
use Rattle.faults.specs.Fault.{faults_for, any_fault}
use Rattle.control_words.specs.declared.condition.Outcome.{Outcome}

-- the message's faults by rule 1, with broadcast on as in the trace program
abbrev pub faults_shown : Record → Faults
faults_shown v = faults_for (is_broadcast program_settings v.command) v

-- any fault but that the transmitter gave no status
unfoldable pub other_fault : Faults → Bool
other_fault f = ((f.sync || f.invalid) || (f.count || f.contents)) || (f.gap || f.second)

-- "RT-to-BC transfer, RT-to-RT transfer, or transmit mode code with data message": a mode code with data is one of 16 to
-- 31
unfoldable pub moves_data_block : Record → Bool
moves_data_block v =
    is_transfer v
    || (transmits v.command && (not (is_mode_subaddress v.command) || leb 16 (count_field v.command)))

-- "NORESP indicates that an RT has either not responded": flag 16. "FMT ERR": any other fault. "GD BLK XFER will be set
-- to logic "1" following completion of a valid (error-free)" one of these.
unfoldable pub outcome_shown : Record → Outcome
outcome_shown v =
    record {
      no_status = (faults_shown v).no_status;
      other_fault = other_fault (faults_shown v);
      good_transfer = not (any_fault (faults_shown v)) && moves_data_block v;
    }
