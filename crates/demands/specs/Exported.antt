-- Demands 1 and 2 of the functions for callers in C and Rust: each is a function of the crates below, on what the lent
-- words say, with its answer put over what is lent (`Exports`).
-- To believe: what `Exports` and `Handed` name; `settings_from`, `value_from`, `long_from` and `tables_in`, what lent words
-- say; `over`, and an answer's words (`value_words`, `long_words`, `listing_words`, `count_words`, `cell_words`, `stack_words`,
-- `part_words`); the tests that `First.antt` names, and what its functions answer (`read_record`, `write_record`, `read_long`,
-- `write_long`, `longer_of`, `shorter_of`, `cell_label`, `area_label` and `pairs_into`, `cell_description`, `stack_description`,
-- `asked`, `filled_with`, `entry_at`).
use Rattle.std.specs.Prelude.{ℕ, ◌/◌, ◌%◌, ◌≡◌, List, [], ◌∷◌, length}
use Rattle.layout.specs.Layout.{read_record}
use Rattle.layout.specs.Writing.{write_record}
use Rattle.layout_long.specs.Long.{long_tests, read_long}
use Rattle.layout_long.specs.WritingLong.{long_writer_tests, write_long}
use Rattle.layout_long.specs.Conversion.{longer_of, shorter_tests, shorter_of}
use Rattle.area.specs.Area.{ground_tests}
use Rattle.label.specs.Label.{cell_tests, cell_label, area_label, pairs_into}
use Rattle.soundness.specs.Described.{given_tests, cell_description, stack_description}
use Rattle.message.specs.Heard.{heard_bytes}
use Rattle.message.specs.Tests.{record_tests}
use Rattle.who_origin.specs.declared.origin.Who.{Who}
use Rattle.who.specs.Tests.{who_tests}
use Rattle.who.specs.Values.{values_of}
use Rattle.who.specs.Replay.{heard_in, asked}
use Rattle.who_tables.specs.Tests.{fill_tests, entry_tests}
use Rattle.who_tables.specs.Table.{refusal_of, filled_with, entry_at}
use Rattle.c_words.specs.Over.{over, zeros_over, record_bytes, long_record_bytes}
use Rattle.c_words.specs.Setup.{settings_from}
use Rattle.c_words_messages.specs.Values.{value_from, value_words, value_length}
use Rattle.c_words_long.specs.LongValues.{long_from, long_words, long_length}
use Rattle.c_words_areas.specs.Labels.{listing_words, listing_length, count_words, counts_length, unsound_length}
use Rattle.c_words_areas.specs.Descriptions.{cell_words, cell_length, stack_words, stack_length}
use Rattle.c_who.specs.Origins.{part_words, part_length, tables_in, tables_back}
use Rattle.demands.specs.Entry.{Entry}
use Rattle.demands.specs.Functions as f
use Rattle.demands.specs.Calls.{c_bytes, c_value, c_long}
use Rattle.demands.specs.Exports.{leaving, Gives, Exports}
use Rattle.demands.specs.Handed.{MessageExported}
use Rattle.demands.specs.Filled.{filled_part, exported_part}
use Rattle.demands.specs.First.{CheckAnswered, writer_tests}

-- who put a word there, told over what is lent: the record's number, and the part; a refusal tells record 0, and puts
-- zeros over the part
abbrev pub told_over : List ℕ → List ℕ → Who → List (List ℕ)
told_over last part w = over last ((values_of w).last ∷ []) ∷ over part (part_words (values_of w)) ∷ []

abbrev pub not_told_over : List ℕ → List ℕ → List (List ℕ)
not_told_over last part = zeros_over last 1 ∷ zeros_over part part_length ∷ []

pub record Demand : Type 2 where
  -- one message, from bytes, from a value or from a long record
  pub message : Entry f.c_message (λ c. MessageExported (c_bytes c))
  pub message_value : Entry f.c_message_value (λ c. MessageExported (c_value c))
  pub message_long : Entry f.c_message_long (λ c. MessageExported (c_long c))
  -- the reader and the writer
  pub read :
      Entry f.c_read
      (λ c.
      let (bytes, (value, none)) = c.given in
      Exports (record_tests (heard_bytes bytes.now)) (read_record bytes.now)
      (Gives f.read (λ r. r.given.0.now ≡ bytes.now) (λ r. r.back))
      (λ a. a.number)
      (λ a. over value.now (value_words a.value))
      (λ n. zeros_over value.now value_length)
      c.back
      c.left.1.0)
  pub write :
      Entry f.c_write
      (λ c.
      let (value, (bytes, none)) = c.given in
      Exports (writer_tests (value_from value.now)) (write_record (value_from value.now))
      (Gives f.write (λ r. r.given.0 ≡ value_from value.now) (λ r. r.back))
      (λ a. a.number)
      (λ a. over bytes.now a.bytes)
      (λ n. zeros_over bytes.now record_bytes)
      c.back
      c.left.1.0)
  -- the same of long records, and the way to them and back
  pub read_long_call :
      Entry f.c_read_long
      (λ c.
      let (bytes, (value, none)) = c.given in
      Exports (long_tests bytes.now) (read_long bytes.now)
      (Gives f.read_long_call (λ r. r.given.0.now ≡ bytes.now) (λ r. r.back))
      (λ a. a.number)
      (λ a. over value.now (long_words a.value))
      (λ n. zeros_over value.now long_length)
      c.back
      c.left.1.0)
  pub write_long_call :
      Entry f.c_write_long
      (λ c.
      let (value, (bytes, none)) = c.given in
      Exports (long_writer_tests (long_from value.now)) (write_long (long_from value.now))
      (Gives f.write_long_call (λ r. r.given.0 ≡ long_from value.now) (λ r. r.back))
      (λ a. a.number)
      (λ a. over bytes.now a.bytes)
      (λ n. zeros_over bytes.now long_record_bytes)
      c.back
      c.left.1.0)
  pub longer :
      Entry f.c_longer
      (λ c.
      let (old, (bytes, none)) = c.given in
      Exports (record_tests (heard_bytes old.now)) (longer_of old.now)
      (Gives f.longer (λ r. r.given.0.now ≡ old.now) (λ r. r.back))
      (λ a. a.number)
      (λ a. over bytes.now a.bytes)
      (λ n. zeros_over bytes.now long_record_bytes)
      c.back
      c.left.1.0)
  pub shorter :
      Entry f.c_shorter
      (λ c.
      let (long, (bytes, none)) = c.given in
      Exports (shorter_tests long.now) (shorter_of long.now)
      (Gives f.shorter (λ r. r.given.0.now ≡ long.now) (λ r. r.back))
      (λ a. a.number)
      (λ a. over bytes.now a.bytes)
      (λ n. zeros_over bytes.now record_bytes)
      c.back
      c.left.1.0)
  -- the whole-area check: the number in the upper half of what comes back, the cell in the lower
  pub check_area_call :
      Entry f.c_check_area
      (λ c.
      let (ram, (settings, none)) = c.given in
      CheckAnswered ram.now (settings_from settings.now)
      (record { number = c.back / 65536; cell = c.back % 65536 }))
  -- the labels; the pairs are put where the function puts them
  pub label_cell :
      Entry f.c_label_cell
      (λ c.
      let (ram, (settings, (cell, (listing, none)))) = c.given in
      let s = settings_from settings.now in
      Exports (cell_tests ram.now s cell) (cell_label ram.now s cell)
      (Gives f.label_cell
      (λ r. (r.given.0.now ≡ ram.now) × ((r.given.1.0 ≡ s) × (r.given.1.1.0 ≡ cell))) (λ r. r.back))
      (λ a. a.number)
      (λ a. over listing.now (listing_words a))
      (λ n. zeros_over listing.now listing_length)
      c.back
      c.left.1.1.1.0)
  pub label_area :
      Entry f.c_label_area
      (λ c.
      let (ram, (settings, (counts, (unsound, (pairs, none))))) = c.given in
      let s = settings_from settings.now in
      Exports (ground_tests ram.now s) (leaving (area_label ram.now s) (pairs_into ram.now s pairs.now))
      (Gives f.label_area
      (λ r. (r.given.0.now ≡ ram.now) × ((r.given.1.0 ≡ s) × (r.given.1.1.0.now ≡ pairs.now)))
      (λ r. leaving r.back r.left.1.1.0))
      (λ a. a.back.number)
      (λ a. over counts.now (count_words a.back) ∷ over unsound.now a.back.unsound ∷ a.left ∷ [])
      (λ n. zeros_over counts.now counts_length ∷ zeros_over unsound.now unsound_length ∷ pairs.now ∷ [])
      c.back
      (c.left.1.1.0 ∷ c.left.1.1.1.0 ∷ c.left.1.1.1.1.0 ∷ []))
  -- what a cell and the stack are like
  pub describe_cell :
      Entry f.c_describe_cell
      (λ c.
      let (ram, (settings, (cell, (description, none)))) = c.given in
      let s = settings_from settings.now in
      Exports (given_tests (length ram.now) s) (cell_description ram.now s cell)
      (Gives f.describe_cell
      (λ r. (r.given.0.now ≡ ram.now) × ((r.given.1.0 ≡ s) × (r.given.1.1.0 ≡ cell))) (λ r. r.back))
      (λ a. a.number)
      (λ a. over description.now (cell_words a))
      (λ n. zeros_over description.now cell_length)
      c.back
      c.left.1.1.1.0)
  pub describe_stack :
      Entry f.c_describe_stack
      (λ c.
      let (ram, (settings, (description, none))) = c.given in
      let s = settings_from settings.now in
      Exports (given_tests (length ram.now) s) (stack_description ram.now s)
      (Gives f.describe_stack (λ r. (r.given.0.now ≡ ram.now) × (r.given.1.0 ≡ s)) (λ r. r.back))
      (λ a. a.number)
      (λ a. over description.now (stack_words a))
      (λ n. zeros_over description.now stack_length)
      c.back
      c.left.1.1.0)
  -- "Who put this word here": the question about one address, of a whole trace, which RAM goes through
  pub who :
      Entry f.c_who
      (λ c.
      let (ram, (settings, (a, (trace, (last, (part, none)))))) = c.given in
      let s = settings_from settings.now in
      Exports (who_tests (length ram.now) s a)
      (leaving (asked s a (heard_in trace.now) ram.now).at.who (asked s a (heard_in trace.now) ram.now).ram)
      (Gives f.ask
      (λ r.
      (r.given.0.now ≡ ram.now)
      × ((r.given.1.0 ≡ s) × ((r.given.1.1.0 ≡ a) × (r.given.1.1.1.0.now ≡ trace.now))))
      (λ r. leaving r.back r.left.0))
      (λ w. (values_of w.back).number)
      (λ w. w.left ∷ told_over last.now part.now w.back)
      (λ n. ram.now ∷ not_told_over last.now part.now)
      c.back
      (c.left.0 ∷ c.left.1.1.1.1.0 ∷ c.left.1.1.1.1.1.0 ∷ []))
  -- and for every address at once: tables that go on with each part of a trace, and what they say of an address
  pub who_fill :
      Entry f.c_who_fill
      (λ c.
      let p = exported_part c in
      let l = p.before in
      Exports (fill_tests (length l.ram) (length l.numbers) (length l.marks) p.settings)
      (leaving (refusal_of p.settings (tables_in l)) (filled_with p.settings p.heard (tables_in l)))
      (Gives f.fill_tables
      (λ r.
      ((filled_part r).settings ≡ p.settings)
      × (((filled_part r).heard ≡ p.heard) × ((filled_part r).before ≡ tables_in l)))
      (λ r. leaving (filled_part r).number (filled_part r).after))
      (λ t. t.back)
      (λ t. tables_back l t.back t.left)
      (λ n. l)
      p.number
      p.after)
  pub who_entry :
      Entry f.c_who_entry
      (λ c.
      let (numbers, (marks, (a, (last, (part, none))))) = c.given in
      Exports (entry_tests numbers.now marks.now a) (entry_at numbers.now marks.now a)
      (Gives f.entry_at_call
      (λ r. (r.given.0.now ≡ numbers.now) × ((r.given.1.0.now ≡ marks.now) × (r.given.1.1.0 ≡ a)))
      (λ r. r.back))
      (λ w. (values_of w).number)
      (λ w. told_over last.now part.now w)
      (λ n. not_told_over last.now part.now)
      c.back
      (c.left.1.1.1.0 ∷ c.left.1.1.1.1.0 ∷ []))
