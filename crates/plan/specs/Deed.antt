-- The deed of an accepted message: all that it does in its cell, and all that it reports but for the stack.
use Rattle.std.specs.Prelude.{false, not, ◌&&◌}
use Rattle.records.specs.declared.value.Record.{Record}
use Rattle.records.specs.Value.{on_bus_b}
use Rattle.records.specs.Transfer.{is_transfer}
use Rattle.words.specs.declared.settings.Settings.{Settings}
use Rattle.lookup.specs.declared.target.Target.{Target}
use Rattle.plan.specs.declared.act.Act.{Act}
use Rattle.plan.specs.declared.motion.Motion.{Motion}
use Rattle.plan.specs.declared.deed.Signals.{Signals}
use Rattle.plan.specs.declared.deed.Deed.{Deed}
use Rattle.plan.specs.Act.{act_of}
use Rattle.plan.specs.Motion.{motion_of}
use Rattle.plan.specs.Report.{block_status, status_word}

-- what the interrupt word tells of the message: "14 illegal; 10 rollover with the cell's circular bit; .. 4 any fault;
-- 2 the cell's end-of-message bit"
unfoldable pub signals_of : Target → Act → Motion → Signals
signals_of t a m =
    record {
      illegal = t.illegal;
      rollover = m.rollover && t.cell.circular_interrupt;
      fault = not a.valid;
      end = t.cell.end_interrupt;
    }

-- the parts, by name. "the status is sent, before any data words, if valid and not broadcast"
unfoldable pub deed_with : Settings → Target → Record → Act → Motion → Deed
deed_with s t v a m =
    record {
      cell = t.number;
      window = t.window;
      stored = a.stored;
      sent = a.sent;
      before = t.cell.pointer;
      moves = m.moves;
      after = m.after;
      block_status = block_status (on_bus_b v) (is_transfer v) a.faults m.rollover t.illegal;
      -- "lookup pointer before the message"
      third = t.cell.pointer;
      status = status_word s t a.valid;
      answered = a.valid && not t.broadcast;
      -- a transmit's words are those of its window
      sends_third = false;
      signals = signals_of t a m;
    }

-- what the message does in its cell: no word of RAM is read beyond the target
unfoldable pub deed_of : Settings → Target → Record → Deed
deed_of s t v = deed_with s t v (act_of s t v) (motion_of s t (act_of s t v))
