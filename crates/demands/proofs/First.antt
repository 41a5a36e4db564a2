-- Demand 1, proved.
use Prim.Native.Nat.{ℕ}
use mathlib.Core.Path.{◌≡◌, refl, ◌∙◌}
use mathlib.Core.List.{List}
use Rattle.words.specs.declared.settings.Settings.{Settings}
use Rattle.words.specs.Refusal.{first_of}
use Rattle.layout.proofs.reader
use Rattle.layout.proofs.writer
use Rattle.layout.proofs.round_trip
use Rattle.layout_long.proofs.reader as long-reader
use Rattle.layout_long.proofs.writer as long-writer
use Rattle.layout_long.proofs.round_trip as long-trips
use Rattle.layout_long.proofs.conversion
use Rattle.area.specs.Area.{ground_tests, ground_refusal}
use Rattle.area.proofs.area
use Rattle.label.proofs.one
use Rattle.label.proofs.whole
use Rattle.soundness.proofs.cell as described-cell
use Rattle.soundness.proofs.stack as described-stack
use Rattle.message.proofs.heard
use Rattle.message.proofs.serve
use Rattle.message.proofs.long
use Rattle.trace.proofs.walk
use Rattle.trace_view.proofs.view
use Rattle.who.specs.Replay.{heard_in}
use Rattle.who.specs.Tests.{who_tests, who_refusal}
use Rattle.who.proofs.tests
use Rattle.who_tables.specs.Tests.{fill_tests, fill_refusal}
use Rattle.who_tables.proofs.table
use Rattle.who_tables.proofs.tests as table-tests
use Rattle.who_replay.proofs.question
use Rattle.who_replay.proofs.fill
use Rattle.demands.specs.Calls.{bytes_message, value_message, long_message, bytes_performed, value_performed, long_performed, performed_bytes, performed_value, performed_long}
use Rattle.demands.specs.First.{Demand}
use Rattle.demands.proofs.Answered.{message_answered, check_answered, read_answered, write_answered, read_back_answered, write_back_answered, number_answered, sharers_found, cell_labelled, area_labelled, take_answered}
use Rattle.demands.proofs.Long.{read_old_answered, long_read_back_answered, long_write_back_answered, read_long_answered, write_long_answered, longer_answered, shorter_answered}
use Rattle.demands.proofs.Described.{cell_described, stack_described}
use Rattle.demands.proofs.Asked.{ask_answered, go_on_answered, fill_answered, entry_answered}
use Rattle.demands.proofs.Served.{served_meets}
use Rattle.demands.proofs.Called.{call_served}
use Rattle.demands.proofs.Walks.{walks}

-- what the three functions that only test answer
ground_first : (ram : List ℕ) (s : Settings) → ground_refusal ram s ≡ first_of (ground_tests ram s)
unfolding ground_refusal
ground_first ram s = refl

who_first : (words : ℕ) (s : Settings) (a : ℕ) → who_refusal words s a ≡ first_of (who_tests words s a)
unfolding who_refusal
who_first words s a = refl

fill_first :
    (words numbers marks : ℕ) (s : Settings) →
    fill_refusal words numbers marks s ≡ first_of (fill_tests words numbers marks s)
unfolding fill_refusal
fill_first words numbers marks s = refl

pub first : Demand
first =
    record {
      message_from_bytes =
          record {
            any = λ κs given. tt;
            ends = serve.message_from_bytes.Met.met;
            says = λ c. message_answered (bytes_message c) c.allowed.0 c.allowed.1;
          };
      message_from_value =
          record {
            any = λ κs given. tt;
            ends = serve.message_from_value.Met.met;
            says = λ c. message_answered (value_message c) c.allowed.0 c.allowed.1;
          };
      perform_bytes =
          record {
            any = λ κs given. tt;
            ends = heard.perform_bytes.Met.met;
            says = λ c. (served_meets (bytes_performed c) (call_served (performed_bytes c))).first;
          };
      perform_value_call =
          record {
            any = λ κs given. tt;
            ends = heard.perform_value.Met.met;
            says = λ c. (served_meets (value_performed c) (call_served (performed_value c))).first;
          };
      check_area_call =
          record {
            any = λ κs given. tt;
            ends = area.check_area.Met.met;
            says = λ c. check_answered c.given.0.now c.given.1.0 c.back c.allowed;
          };
      read =
          record {
            any = λ κs given. tt;
            ends = reader.read.Met.met;
            says = λ c. read_answered c.given.0.now c.back c.allowed;
          };
      write =
          record {
            any = λ κs given. tt;
            ends = writer.write.Met.met;
            says = λ c. write_answered c.given.0 c.back c.allowed;
          };
      read_written =
          record {
            any = λ κs given. tt;
            ends = round_trip.read_written.Met.met;
            says = λ c. read_back_answered c.given.0 c.back c.allowed;
          };
      write_read =
          record {
            any = λ κs given. tt;
            ends = round_trip.write_read.Met.met;
            says = λ c. write_back_answered c.given.0.now c.back c.allowed;
          };
      message_from_long =
          record {
            any = λ κs given. tt;
            ends = long.message_from_long.Met.met;
            says = λ c. message_answered (long_message c) c.allowed.0 c.allowed.1;
          };
      perform_long_call =
          record {
            any = λ κs given. tt;
            ends = long.perform_long.Met.met;
            says = λ c. (served_meets (long_performed c) (call_served (performed_long c))).first;
          };
      read_old_call =
          record {
            any = λ κs given. tt;
            ends = long-reader.read_old.Met.met;
            says = λ c. read_old_answered c.given.0.now c.back c.allowed;
          };
      read_written_long =
          record {
            any = λ κs given. tt;
            ends = long-trips.read_written_long.Met.met;
            says = λ c. long_read_back_answered c.given.0 c.back c.allowed;
          };
      write_read_long =
          record {
            any = λ κs given. tt;
            ends = long-trips.write_read_long.Met.met;
            says = λ c. long_write_back_answered c.given.0.now c.back c.allowed;
          };
      read_long_call =
          record {
            any = λ κs given. tt;
            ends = long-reader.read_long.Met.met;
            says = λ c. read_long_answered c.given.0.now c.back c.allowed;
          };
      write_long_call =
          record {
            any = λ κs given. tt;
            ends = long-writer.write_long.Met.met;
            says = λ c. write_long_answered c.given.0 c.back c.allowed;
          };
      longer =
          record {
            any = λ κs given. tt;
            ends = conversion.longer.Met.met;
            says = λ c. longer_answered c.given.0.now c.back c.allowed;
          };
      shorter =
          record {
            any = λ κs given. tt;
            ends = conversion.shorter.Met.met;
            says = λ c. shorter_answered c.given.0.now c.back c.allowed;
          };
      label_cell =
          record {
            any = λ κs given. tt;
            ends = one.label_cell.Met.met;
            says = λ c. cell_labelled c.given.0.now c.given.1.0 c.given.1.1.0 c.back c.allowed;
          };
      find_sharers =
          record {
            any = λ κs given. tt;
            ends = one.find_sharers.Met.met;
            says =
                λ c.
                sharers_found c.given.0.now c.given.1.0 c.given.1.1.0 c.given.1.1.1.0.now
                c.left.1.1.1.0 c.back c.allowed.0 c.allowed.1;
          };
      label_area =
          record {
            any = λ κs given. tt;
            ends = whole.label_area.Met.met;
            says =
                λ c.
                area_labelled c.given.0.now c.given.1.0 c.given.1.1.0.now c.left.1.1.0 c.back
                c.allowed.0
                c.allowed.1;
          };
      ground_refusal_call =
          record {
            any = λ κs given. tt;
            ends = area.ground_refusal.Met.met;
            says =
                λ c.
                number_answered (ground_tests c.given.0.now c.given.1.0) c.back refl refl
                (c.allowed ∙ ground_first c.given.0.now c.given.1.0);
          };
      who_refusal_call =
          record {
            any = λ κs given. tt;
            ends = tests.who_refusal.Met.met;
            says =
                λ c.
                number_answered (who_tests c.given.0 c.given.1.0 c.given.1.1.0) c.back refl refl
                (c.allowed ∙ who_first c.given.0 c.given.1.0 c.given.1.1.0);
          };
      fill_refusal_call =
          record {
            any = λ κs given. tt;
            ends = table-tests.fill_refusal.Met.met;
            says =
                λ c.
                number_answered
                (fill_tests c.given.0 c.given.1.0 c.given.1.1.0 c.given.1.1.1.0) c.back refl refl
                (c.allowed ∙ fill_first c.given.0 c.given.1.0 c.given.1.1.0 c.given.1.1.1.0);
          };
      describe_cell =
          record {
            any = λ κs given. tt;
            ends = described-cell.describe_cell.Met.met;
            says = λ c. cell_described c.given.0.now c.given.1.0 c.given.1.1.0 c.back c.allowed;
          };
      describe_stack =
          record {
            any = λ κs given. tt;
            ends = described-stack.describe_stack.Met.met;
            says = λ c. stack_described c.given.0.now c.given.1.0 c.back c.allowed;
          };
      walk =
          record {
            any = λ κs given. tt;
            ends = walk.walk.Met.met;
            says = walks;
          };
      view =
          record {
            any = λ κs given. tt;
            ends = view.take_at.Met.met;
            says = λ c. take_answered c.given.0.now c.given.1.0 c.back c.allowed;
          };
      ask =
          record {
            any = λ κs given. tt;
            ends = question.ask.Met.met;
            says =
                λ c.
                ask_answered c.given.1.0 c.given.1.1.0 (heard_in c.given.1.1.1.0.now)
                c.given.0.now c.back c.left.0 c.allowed.0 c.allowed.1;
          };
      go_on =
          record {
            any = λ κs given. tt;
            ends = question.go_on.Met.met;
            says =
                λ c.
                go_on_answered c.given.1.0 c.given.1.1.0 (heard_in c.given.1.1.1.1.0.now)
                c.given.0.now c.given.1.1.1.0 c.back c.left.0 c.allowed;
          };
      fill =
          record {
            any = λ κs given. tt;
            ends = fill.fill.Met.met;
            says =
                λ c.
                fill_answered c.given.1.1.1.0 (heard_in c.given.1.1.1.1.1.0.now) c.given.0.now
                c.given.1.0.now c.given.1.1.0.now c.left.0 c.left.1.0 c.left.1.1.0
                c.given.1.1.1.1.0 c.back c.allowed.0 c.allowed.1;
          };
      entry_at_call =
          record {
            any = λ κs given. tt;
            ends = table.entry_at.Met.met;
            says =
                λ c.
                entry_answered c.given.0.now c.given.1.0.now c.given.1.1.0 c.back c.allowed;
          };
    }
