-- Rules 3 and 4: the words stored or sent.
use Rattle.std.specs.Prelude.{ℕ, min, Bool, not, cond, ◌&&◌, ◌||◌}
use Rattle.records.specs.declared.value.Record.{Record}
use Rattle.words.specs.declared.settings.Settings.{Settings}
use Rattle.words.specs.Command.{transmits, word_count}
use Rattle.faults.specs.declared.fault.Faults.{Faults}
use Rattle.lookup.specs.declared.target.Target.{Target}
use Rattle.plan.specs.declared.act.Act.{Act}
use Rattle.faults.specs.Fault.{faults_for, any_fault}

-- "It stores none if illegal under illegal-receive-disable, or busy under busy-receive-disable."
unfoldable pub withheld : Settings → Target → Bool
withheld s t = (t.illegal && s.illegal_receive_disable) || (t.busy && s.busy_receive_disable)

-- rule 3: "Receive stores min(count, word count) words"
unfoldable pub words_stored : Settings → Target → Record → ℕ
words_stored s t v = cond (transmits v.command || withheld s t) 0 (min v.count (word_count v.command))

-- rule 4: "Transmit sends its word count of words .. only if valid, not illegal and not busy; else none."
unfoldable pub words_sent : Target → Bool → ℕ → ℕ
words_sent t valid command =
    cond (transmits command && (valid && (not t.illegal && not t.busy))) (word_count command) 0

-- the faults, "Valid means no fault.", and the words stored or sent: "Let k be the words stored or sent."
unfoldable pub act_with : Settings → Target → Record → Faults → Bool → Act
act_with s t v f valid =
    record {
      faults = f;
      valid = valid;
      stored = words_stored s t v;
      sent = words_sent t valid v.command;
      k = cond (transmits v.command) (words_sent t valid v.command) (words_stored s t v);
    }

-- rules 3 and 4 for the message that was heard
unfoldable pub act_of : Settings → Target → Record → Act
act_of s t v = act_with s t v (faults_for t.broadcast v) (not (any_fault (faults_for t.broadcast v)))
