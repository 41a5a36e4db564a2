-- Demands 1 and 2 of the functions for callers in C and Rust, proved: each by the one law, from what the function answers.
use Prim.Native.Nat.{ℕ, ◌/◌, ◌%◌}
use mathlib.Core.Path.{◌≡◌, refl, sym, ap, ◌∙◌}
use mathlib.Core.List.{List, [], ◌∷◌}
use lib.ListN.{length}
use borrow.Author.Tests.{ne_eqb}
use Rattle.words.specs.declared.settings.Settings.{Settings}
use Rattle.records.specs.Value.{zero_value}
use Rattle.layout.specs.Layout.{read_record, not_read}
use Rattle.layout.specs.Writing.{write_record}
use Rattle.layout_long.specs.Long.{zero_long, not_read_long, read_long}
use Rattle.layout_long.specs.WritingLong.{not_long, write_long}
use Rattle.layout_long.specs.Conversion.{longer_of, not_short, shorter_of}
use Rattle.area.specs.Area.{ground_tests, check_area}
use Rattle.label.specs.Label.{cell_answer, cell_label, area_answer, area_label, pairs_into}
use Rattle.soundness.specs.Described.{no_cell, cell_description, no_stack, stack_description}
use Rattle.message.specs.Heard.{Heard}
use Rattle.message.specs.Answer.{refused_with}
use Rattle.message.specs.Tests.{tests_for}
use Rattle.message.proofs.Refusals.{number_told}
use Rattle.who_origin.specs.declared.origin.Who.TheVariants.{Refused}
use Rattle.who.specs.Tests.{who_tests}
use Rattle.who.specs.Values.{values_of}
use Rattle.who.specs.Replay.{heard_in, asked}
use Rattle.who_tables.specs.Tests.{fill_tests, fill_refusal}
use Rattle.who_tables.specs.Table.{Tables, refusal_of, filled_with, entry_at}
use Rattle.who_tables.proofs.Parts.{filled_refused}
use Rattle.c_words.specs.Over.{over, zeros_over, record_bytes, long_record_bytes}
use Rattle.c_words.specs.Setup.{settings_from}
use Rattle.c_words_messages.specs.Answers.{answer_words}
use Rattle.c_words_messages.specs.Values.{value_from, value_words, value_length}
use Rattle.c_words_messages.specs.Call.{state_in, handed_back, call_number, lent_after}
use Rattle.c_words_long.specs.LongValues.{long_from, long_words, long_length}
use Rattle.c_words_areas.specs.Check.{check_word}
use Rattle.c_words_areas.specs.Labels.{sharer_words, listing_words, listing_length, count_words, counts_length, unsound_length}
use Rattle.c_words_areas.specs.Descriptions.{cell_words, cell_length, stack_words, stack_length}
use Rattle.c_words_areas.proofs.Halves.{upper_half, lower_half}
use Rattle.c_who.specs.Origins.{part_words, LentTables, tables_in, tables_back, tables_after}
use Rattle.c_message_bytes.proofs.from_bytes
use Rattle.c_message_values.proofs.from_value
use Rattle.c_message_long.proofs.from_long
use Rattle.c_long.proofs.calls as long-calls
use Rattle.c_questions.proofs.calls
use Rattle.c_questions.proofs.descriptions
use Rattle.c_who.proofs.origins
use Rattle.demands.specs.Calls.{message_of, CMessage, c_bytes, c_value, c_long}
use Rattle.demands.specs.Meets.{Meets}
use Rattle.demands.specs.First.{AnsweredOnly, CheckAnswered, not_written}
use Rattle.demands.specs.Exports.{leaving}
use Rattle.demands.specs.Handed.{shown_by, MessageExported}
use Rattle.demands.specs.Filled.{exported_part}
use Rattle.demands.specs.Exported.{told_over, not_told_over, Demand}
use Rattle.demands.proofs.Answered.{answered, step_answered, check_answered, read_answered, write_answered, cell_labelled, area_labelled}
use Rattle.demands.proofs.Long.{read_long_answered, write_long_answered, longer_answered, shorter_answered}
use Rattle.demands.proofs.Described.{cell_described, stack_described}
use Rattle.demands.proofs.Asked.{ask_answered, entry_answered}
use Rattle.demands.proofs.Served.{meets}
use Rattle.demands.proofs.Exports.{beside, exported}

-- ---- a message

message_exported :
    (e : CMessage) →
    e.number ≡ call_number e.settings e.heard e.before →
    e.after ≡ lent_after e.settings e.heard e.before →
    MessageExported e
unfolding call_number lent_after handed_back answer_words refused_with
message_exported e n f =
    let s = e.settings in
    let h = e.heard in
    let x = state_in e.before in
    let a = step_answered s h x in
    exported (tests_for s h x) Meets (λ m. m.answer.number) (λ m. handed_back e.before m.after m.answer)
    (shown_by e)
    (λ k. message_of s h x (refused_with k) x)
    _ e.number e.after
    (record {
      order = a.order;
      done = a.done;
      refused = a.refused;
      zero = λ m i. message_of s h x (a.zero m i) (a.kept m i);
      kept = λ m. refl;
    })
    (λ k m. rw (ne_eqb k 0 m))
    (meets s h x)
    (n ∙ sym (number_told s h x))
    f

-- ---- the whole-area check

exported_check :
    (ram : List ℕ) (s : Settings) (back : ℕ) → back ≡ check_word (check_area ram s) →
    CheckAnswered ram s (record { number = back / 65536; cell = back % 65536 })
exported_check ram s back e =
    check_answered ram s _
    (λ i. record {
      number = (ap (λ (k : ℕ). k / 65536) e ∙ upper_half ram s) i;
      cell = (ap (λ (k : ℕ). k % 65536) e ∙ lower_half ram s) i;
    })

-- ---- what a refusal puts over what is lent: "everything else zero"

value_zeros : (xs : List ℕ) (n : ℕ) → over xs (value_words (not_read n).value) ≡ zeros_over xs value_length
unfolding not_read zero_value value_words
value_zeros xs n = refl

long_zeros : (xs : List ℕ) (n : ℕ) → over xs (long_words (not_read_long n).value) ≡ zeros_over xs long_length
unfolding not_read_long zero_long zero_value long_words value_words
long_zeros xs n = refl

long_bytes_zeros : (xs : List ℕ) (n : ℕ) → over xs (not_long n).bytes ≡ zeros_over xs long_record_bytes
unfolding not_long
long_bytes_zeros xs n = refl

short_zeros : (xs : List ℕ) (n : ℕ) → over xs (not_short n).bytes ≡ zeros_over xs record_bytes
unfolding not_short
short_zeros xs n = refl

listing_zeros : (xs : List ℕ) (n : ℕ) → over xs (listing_words (cell_answer n [])) ≡ zeros_over xs listing_length
unfolding cell_answer listing_words sharer_words
listing_zeros xs n = refl

counts_zeros : (xs : List ℕ) (n : ℕ) → over xs (count_words (area_answer n [] 0)) ≡ zeros_over xs counts_length
unfolding area_answer count_words
counts_zeros xs n = refl

unsound_zeros : (xs : List ℕ) (n : ℕ) → over xs (area_answer n [] 0).unsound ≡ zeros_over xs unsound_length
unfolding area_answer
unsound_zeros xs n = refl

cell_zeros : (xs : List ℕ) (n : ℕ) → over xs (cell_words (no_cell n)) ≡ zeros_over xs cell_length
unfolding no_cell cell_words
cell_zeros xs n = refl

stack_zeros : (xs : List ℕ) (n : ℕ) → over xs (stack_words (no_stack n)) ≡ zeros_over xs stack_length
unfolding no_stack stack_words
stack_zeros xs n = refl

told_zeros : (last part : List ℕ) (n : ℕ) → told_over last part (Refused n) ≡ not_told_over last part
unfolding values_of part_words
told_zeros last part n = refl

-- tables keep what they hold
tables_kept : (l : LentTables) (n : ℕ) → (n ≡ 0 → ⊥) → tables_back l n (tables_in l) ≡ l
unfolding tables_back
tables_kept l n m = rw (ne_eqb n 0 m)

-- what a part of a trace answers: its number, and the tables after it
fill_beside :
    (s : Settings) (hs : List Heard) (t : Tables) →
    AnsweredOnly (fill_tests (length t.ram) (length t.numbers) (length t.marks) s) (refusal_of s t)
    (leaving (refusal_of s t) (filled_with s hs t)) (λ n. leaving n t)
unfolding fill_refusal
fill_beside s hs t =
    answered (fill_tests (length t.ram) (length t.numbers) (length t.marks) s) (refusal_of s t)
    (leaving (refusal_of s t) (filled_with s hs t)) (λ n. leaving n t) tt tt refl refl refl
    (λ m i. leaving (refusal_of s t) (filled_refused s hs t m i))
    (λ m. refl)

pub for_callers : Demand
unfolding tables_after
for_callers =
    record {
      message =
          record {
            any = λ κs given. tt;
            ends = from_bytes.solkverva_message.Met.met;
            says = λ c. message_exported (c_bytes c) c.allowed.0 c.allowed.1;
          };
      message_value =
          record {
            any = λ κs given. tt;
            ends = from_value.solkverva_message_value.Met.met;
            says = λ c. message_exported (c_value c) c.allowed.0 c.allowed.1;
          };
      message_long =
          record {
            any = λ κs given. tt;
            ends = from_long.solkverva_message_long.Met.met;
            says = λ c. message_exported (c_long c) c.allowed.0 c.allowed.1;
          };
      read =
          record {
            any = λ κs given. tt;
            ends = calls.solkverva_read.Met.met;
            says =
                λ c.
                exported _ _ _ _ _ not_read _ _ _ (read_answered c.given.0.now _ refl) (λ n m. value_zeros _ n)
                (λ r e. r.allowed ∙ ap read_record e)
                c.allowed.0
                c.allowed.1;
          };
      write =
          record {
            any = λ κs given. tt;
            ends = calls.solkverva_write.Met.met;
            says =
                λ c.
                exported _ _ _ _ _ not_written _ _ _ (write_answered (value_from c.given.0.now) _ refl) (λ n m. refl)
                (λ r e. r.allowed ∙ ap write_record e)
                c.allowed.0
                c.allowed.1;
          };
      read_long_call =
          record {
            any = λ κs given. tt;
            ends = long-calls.solkverva_read_long.Met.met;
            says =
                λ c.
                exported _ _ _ _ _ not_read_long _ _ _ (read_long_answered c.given.0.now _ refl) (λ n m. long_zeros _ n)
                (λ r e. r.allowed ∙ ap read_long e)
                c.allowed.0
                c.allowed.1;
          };
      write_long_call =
          record {
            any = λ κs given. tt;
            ends = long-calls.solkverva_write_long.Met.met;
            says =
                λ c.
                exported _ _ _ _ _ not_long _ _ _ (write_long_answered (long_from c.given.0.now) _ refl)
                (λ n m. long_bytes_zeros _ n)
                (λ r e. r.allowed ∙ ap write_long e)
                c.allowed.0
                c.allowed.1;
          };
      longer =
          record {
            any = λ κs given. tt;
            ends = long-calls.solkverva_longer.Met.met;
            says =
                λ c.
                exported _ _ _ _ _ not_long _ _ _ (longer_answered c.given.0.now _ refl) (λ n m. long_bytes_zeros _ n)
                (λ r e. r.allowed ∙ ap longer_of e)
                c.allowed.0
                c.allowed.1;
          };
      shorter =
          record {
            any = λ κs given. tt;
            ends = long-calls.solkverva_shorter.Met.met;
            says =
                λ c.
                exported _ _ _ _ _ not_short _ _ _ (shorter_answered c.given.0.now _ refl) (λ n m. short_zeros _ n)
                (λ r e. r.allowed ∙ ap shorter_of e)
                c.allowed.0
                c.allowed.1;
          };
      check_area_call =
          record {
            any = λ κs given. tt;
            ends = calls.solkverva_check_area.Met.met;
            says = λ c. exported_check c.given.0.now (settings_from c.given.1.0.now) c.back c.allowed;
          };
      label_cell =
          record {
            any = λ κs given. tt;
            ends = calls.solkverva_label_cell.Met.met;
            says =
                λ c.
                exported _ _ _ _ _ (λ n. cell_answer n []) _ _ _
                (cell_labelled c.given.0.now (settings_from c.given.1.0.now) c.given.1.1.0 _ refl)
                (λ n m. listing_zeros _ n)
                (λ r e. r.allowed ∙ λ i. cell_label (e.0 i) (e.1.0 i) (e.1.1 i))
                c.allowed.0
                c.allowed.1;
          };
      label_area =
          record {
            any = λ κs given. tt;
            ends = calls.solkverva_label_area.Met.met;
            says =
                λ c.
                let ram = c.given.0.now in
                let s = settings_from c.given.1.0.now in
                let pairs = c.given.1.1.1.1.0.now in
                exported _ _ _ _ _ (λ n. leaving (area_answer n [] 0) pairs) _ _ _
                (beside (ground_tests ram s) _ _ _ _ _
                (area_labelled ram s pairs (pairs_into ram s pairs) (area_label ram s) refl refl))
                (λ n m i. counts_zeros c.given.1.1.0.now n i ∷ unsound_zeros c.given.1.1.1.0.now n i ∷ pairs ∷ [])
                (λ r e i.
                leaving ((r.allowed.0 ∙ λ j. area_label (e.0 j) (e.1.0 j)) i)
                ((r.allowed.1 ∙ λ j. pairs_into (e.0 j) (e.1.0 j) (e.1.1 j)) i))
                c.allowed.0
                (λ i. c.allowed.1.0 i ∷ c.allowed.1.1.0 i ∷ c.allowed.1.1.1 i ∷ []);
          };
      describe_cell =
          record {
            any = λ κs given. tt;
            ends = descriptions.solkverva_describe_cell.Met.met;
            says =
                λ c.
                exported _ _ _ _ _ no_cell _ _ _
                (cell_described c.given.0.now (settings_from c.given.1.0.now) c.given.1.1.0 _ refl)
                (λ n m. cell_zeros _ n)
                (λ r e. r.allowed ∙ λ i. cell_description (e.0 i) (e.1.0 i) (e.1.1 i))
                c.allowed.0
                c.allowed.1;
          };
      describe_stack =
          record {
            any = λ κs given. tt;
            ends = descriptions.solkverva_describe_stack.Met.met;
            says =
                λ c.
                exported _ _ _ _ _ no_stack _ _ _
                (stack_described c.given.0.now (settings_from c.given.1.0.now) _ refl)
                (λ n m. stack_zeros _ n)
                (λ r e. r.allowed ∙ λ i. stack_description (e.0 i) (e.1 i))
                c.allowed.0
                c.allowed.1;
          };
      who =
          record {
            any = λ κs given. tt;
            ends = origins.solkverva_who.Met.met;
            says =
                λ c.
                let ram = c.given.0.now in
                let s = settings_from c.given.1.0.now in
                let a = c.given.1.1.0 in
                let hs = heard_in c.given.1.1.1.0.now in
                let last = c.given.1.1.1.1.0.now in
                let part = c.given.1.1.1.1.1.0.now in
                exported _ _ _ _ _ (λ n. leaving (Refused n) ram) _ _ _
                (beside (who_tests (length ram) s a) _ _ _ _ _ (ask_answered s a hs ram _ _ refl refl))
                (λ n m i. ram ∷ told_zeros last part n i)
                (λ r e i.
                leaving ((r.allowed.0 ∙ λ j. (asked (e.1.0 j) (e.1.1.0 j) (heard_in (e.1.1.1 j)) (e.0 j)).at.who) i)
                ((r.allowed.1 ∙ λ j. (asked (e.1.0 j) (e.1.1.0 j) (heard_in (e.1.1.1 j)) (e.0 j)).ram) i))
                c.allowed.0
                (λ i. c.allowed.1.0 i ∷ c.allowed.1.1.0 i ∷ c.allowed.1.1.1 i ∷ []);
          };
      who_fill =
          record {
            any = λ κs given. tt;
            ends = origins.solkverva_who_fill.Met.met;
            says =
                λ c.
                let p = exported_part c in
                exported _ _ _ _ _ (λ n. leaving n (tables_in p.before)) _ _ _
                (fill_beside p.settings p.heard (tables_in p.before))
                (tables_kept p.before)
                (λ r e i.
                leaving ((r.allowed.0 ∙ λ j. refusal_of (e.0 j) (e.1.1 j)) i)
                ((r.allowed.1 ∙ λ j. filled_with (e.0 j) (e.1.0 j) (e.1.1 j)) i))
                c.allowed.0
                c.allowed.1;
          };
      who_entry =
          record {
            any = λ κs given. tt;
            ends = origins.solkverva_who_entry.Met.met;
            says =
                λ c.
                let last = c.given.1.1.1.0.now in
                let part = c.given.1.1.1.1.0.now in
                exported _ _ _ _ _ (λ n. Refused n) _ _ _
                (entry_answered c.given.0.now c.given.1.0.now c.given.1.1.0 _ refl)
                (λ n m. told_zeros last part n)
                (λ r e. r.allowed ∙ λ i. entry_at (e.0 i) (e.1.0 i) (e.1.1 i))
                c.allowed.0
                (λ i. c.allowed.1.0 i ∷ c.allowed.1.1 i ∷ []);
          };
    }
