-- Demand 2: "After each accepted message the reply, the interrupt word, the remembered state and every word of RAM
-- are what document 01 works out from the makers' guide and MIL-STD-1553B. Message records are read and written by
-- one fixed layout, and each undoes the other."
-- The functions for callers in C and Rust stand in `Exported.antt`: each is one of these.
-- To believe: what `Meets` names; the layout, `value_in` and `bytes_of`, with `Typed` and `Bytes`, what the types of a value
-- and of bytes say; `read_back` and `write_back`; of long records `long_in`, `long_bytes`, `long_read_back`, `long_write_back`.
use Rattle.std.specs.Prelude.{◌+◌, ◌≡◌, true, List, map, length, get_or, take, drop}
use Rattle.records.specs.Value.{Typed}
use Rattle.layout.specs.Layout.{Bytes, word_at, value_in}
use Rattle.layout.specs.Writing.{bytes_of}
use Rattle.layout.specs.RoundTrip.{read_back, write_back}
use Rattle.layout_long.specs.Long.{old_part, end_zero, long_in}
use Rattle.layout_long.specs.WritingLong.{with_zeros, long_bytes}
use Rattle.layout_long.specs.RoundTrip.{long_read_back, long_write_back}
use Rattle.cells.specs.Stack.{stack_pointer}
use Rattle.plan.specs.declared.plan.Plan.{Plan}
use Rattle.message.specs.declared.perform.Performed.TheVariants.{Done}
use Rattle.message.specs.Edges.{run_case, cases, expected}
use Rattle.c_words.specs.Over.{record_bytes, long_record_bytes}
use Rattle.demands.specs.Entry.{Call}
use Rattle.demands.specs.Functions as f
use Rattle.demands.specs.Calls.{bytes_message, long_message, bytes_performed, value_performed, long_performed, MessageCall, shows, walked}
use Rattle.demands.specs.Meets.{planned, MessageWorked}
use Rattle.demands.specs.Walks.{Walks}
use Rattle.demands.specs.Filled.{SameQuestion, SameExportedQuestion}

pub record Demand : Type 0 where
  -- whichever function was called for it: from bytes, from a value, from a long record, and for who needs the plan
  pub message : (c : MessageCall) → MessageWorked (shows c)
  -- who needs the plan is given what document 01 works out
  pub plan_bytes :
      (c : Call f.perform_bytes) (p : Plan) → c.back ≡ Done p → p ≡ planned (bytes_performed c)
  pub plan_value :
      (c : Call f.perform_value_call) (p : Plan) → c.back ≡ Done p → p ≡ planned (value_performed c)
  pub plan_long :
      (c : Call f.perform_long_call) (p : Plan) → c.back ≡ Done p → p ≡ planned (long_performed c)
  -- each whole record of a trace is such a message, after those before it
  pub walk : (c : Call f.walk_trace) → Walks (walked c)
  -- a long record, where "84-95" are zero, is the message of its first 80 bytes in every lent word
  pub same_as_old :
      (c : Call f.message_from_long) (d : Call f.message_from_bytes) →
      length c.given.1.1.1.1.0.now ≡ long_record_bytes →
      end_zero c.given.1.1.1.1.0.now ≡ true →
      d.given.1.1.1.1.0.now ≡ old_part c.given.1.1.1.1.0.now →
      (long_message c).settings ≡ (bytes_message d).settings →
      (long_message c).before ≡ (bytes_message d).before →
      ((long_message c).answer ≡ (bytes_message d).answer) × ((long_message c).after ≡ (bytes_message d).after)
  -- "The stack still stores the lower half."
  pub lower_half :
      (c : Call f.message_from_long) →
      c.back.answer.number ≡ 0 →
      get_or c.left.0 (stack_pointer c.given.0.now c.given.1.1.0 + 1) 0
      ≡ word_at c.given.1.1.1.1.0.now 4
  -- what document 01 works out, on the cases that it works out itself: "P1 to P12 form a single table"
  pub edges : map run_case cases ≡ expected
  -- "Message records are read and written by one fixed layout"
  pub read : (r : Call f.read) → r.back.number ≡ 0 → r.back.value ≡ value_in r.given.0.now
  pub write : (w : Call f.write) → w.back.number ≡ 0 → w.back.bytes ≡ bytes_of w.given.0
  -- also where a view takes the record at its place of a trace
  pub view :
      (t : Call f.take_at) →
      t.back.found ≡ true →
      t.back.reading.number ≡ 0 →
      t.back.reading.value ≡ value_in (take record_bytes (drop t.given.1.0 t.given.0.now))
  -- "and each undoes the other.": what was written for a value, any that the type can hold, reads as that value
  pub read_written :
      (w : Call f.write) (r : Call f.read) →
      Typed w.given.0 →
      w.back.number ≡ 0 →
      r.given.0.now ≡ w.back.bytes →
      r.back ≡ record { number = 0; value = w.given.0 }
  -- and what was read is written as the same bytes
  pub written_read :
      (r : Call f.read) (w : Call f.write) →
      Bytes r.given.0.now →
      r.back.number ≡ 0 →
      w.given.0 ≡ r.back.value →
      w.back ≡ record { number = 0; bytes = r.given.0.now }
  -- with no condition on the value or the bytes: the functions that write and read, and read and write
  pub read_any : (c : Call f.read_written) → c.back ≡ read_back c.given.0
  pub write_any : (c : Call f.write_read) → c.back ≡ write_back c.given.0.now
  -- the same of long records: "The new record has 96 bytes: the old 80, then"
  pub read_long_call : (r : Call f.read_long_call) → r.back.number ≡ 0 → r.back.value ≡ long_in r.given.0.now
  pub write_long_call : (w : Call f.write_long_call) → w.back.number ≡ 0 → w.back.bytes ≡ long_bytes w.given.0
  pub read_any_long : (c : Call f.read_written_long) → c.back ≡ long_read_back c.given.0
  pub write_any_long : (c : Call f.write_read_long) → c.back ≡ long_write_back c.given.0.now
  -- "Convert old to new with zeros, and new to old; each undoes the other wherever going back is allowed."
  pub longer : (c : Call f.longer) → c.back.number ≡ 0 → c.back.bytes ≡ with_zeros c.given.0.now
  pub shorter : (c : Call f.shorter) → c.back.number ≡ 0 → c.back.bytes ≡ old_part c.given.0.now
  pub there_and_back :
      (c : Call f.longer) (d : Call f.shorter) →
      c.back.number ≡ 0 →
      d.given.0.now ≡ c.back.bytes →
      d.back ≡ record { number = 0; bytes = c.given.0.now }
  pub back_and_there :
      (c : Call f.shorter) (d : Call f.longer) →
      c.back.number ≡ 0 →
      d.given.0.now ≡ c.back.bytes →
      d.back ≡ record { number = 0; bytes = c.given.0.now }
  -- "Who put this word here" (document 02, request 10), for every address at once: each entry of tables that were filled
  -- part by part is the one-address answer, also where both are refusals; a part that was refused counts for nothing
  pub every_address :
      (fills : List (Call f.fill_tables)) (e : Call f.entry_at_call) (q : Call f.ask) →
      SameQuestion fills e q →
      e.back ≡ q.back
  pub exported_every_address :
      (fills : List (Call f.c_who_fill)) (e : Call f.c_who_entry) (q : Call f.c_who) →
      SameExportedQuestion fills e q →
      (e.back ≡ q.back)
      × ((e.left.1.1.1.0 ≡ q.left.1.1.1.1.0) × (e.left.1.1.1.1.0 ≡ q.left.1.1.1.1.1.0))
