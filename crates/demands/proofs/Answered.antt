-- What each entry point answers, from what its contract says of it.
use Prim.Native.Nat.{ℕ, ◌+◌, ◌-◌}
use native.Mathlib.Omega.{arith}
use mathlib.Core.Path.{◌≡◌, refl, sym, ap, ◌∙◌}
use mathlib.Core.Logic.{⊎_elim}
use mathlib.Core.Bool.{true, false, cond}
use mathlib.Core.List.{List, []}
use lib.ListN.{length, take, drop}
use lib.Seq.{sets}
use lib.Dec.{eqb}
use borrow.Author.Tests.{eq-eqb, ne_eqb}
use Rattle.words.specs.Refusal.{Test, first_of}
use Rattle.words.specs.declared.settings.Settings.{Settings}
use Rattle.words.proofs.Basics.{yes_or_no, eq_or_ne}
use Rattle.words.proofs.Refusals.{numbered, first_zero, first_number}
use Rattle.memory.specs.State.{State}
use Rattle.records.specs.declared.value.Record.{Record}
use Rattle.records.specs.Value.{keeps_layout}
use Rattle.layout.specs.declared.reader.Reading.{Reading}
use Rattle.layout.specs.declared.writer.Written.{Written}
use Rattle.layout.specs.Layout.{value_in, reader_refusal, read_record, not_read}
use Rattle.layout.specs.Writing.{bytes_of, writer_refusal, write_record}
use Rattle.layout.specs.RoundTrip.{read_back, write_back}
use Rattle.area.specs.declared.area.Checked.{Checked}
use Rattle.label.specs.declared.one.CellLabel.{CellLabel}
use Rattle.label.specs.declared.one.Counted.{Counted}
use Rattle.label.specs.declared.whole.AreaLabel.{AreaLabel}
use Rattle.label.specs.Label.{cell_tests, cell_refusal, sharers_of, counted_of, cell_answer, cell_label, area_answer, area_pairs, area_unsound, area_label, pairs_into}
use Rattle.area.specs.Area.{ground_tests, ground_refusal, area_tests, area_refusal, check_area}
use Rattle.area.proofs.Whole.{area_lowest, area_no_cell}
use Rattle.message.specs.Heard.{Heard, heard_bytes}
use Rattle.message.specs.Tests.{tests_for, record_tests, refusal_for}
use Rattle.message.specs.Answer.{refused_with}
use Rattle.message.specs.Message.{answer_of, step}
use Rattle.message.proofs.Refusals.{number_told, refused_answer, refused_state}
use Rattle.demands.specs.Calls.{Message}
use Rattle.trace_view.specs.declared.view.Taken.{Taken}
use Rattle.trace_view.specs.View.{none_at, taken_at}
use Rattle.trace_view.proofs.Views.{taken_none, taken_some}
use Rattle.demands.specs.Order.{stated_order, follow}
use Rattle.demands.specs.Answered.{Answered}
use Rattle.demands.specs.Meets.{MessageAnswered}
use Rattle.demands.specs.First.{AnsweredOnly, NumberAnswered, CheckAnswered, ReadAnswered, writer_tests, not_written, TakeAnswered}

-- where the number is that of the first test that holds, what is left to show is what a refusal gives back and leaves
pub answered :
    (tests : List Test) {Back Lent : Type 0} (number : ℕ) (back : Back) (refusal : ℕ → Back) (before after : Lent) →
    follow stated_order tests ≡ true →
    numbered tests ≡ true →
    number ≡ first_of tests →
    ((number ≡ 0 → ⊥) → back ≡ refusal number) →
    ((number ≡ 0 → ⊥) → after ≡ before) →
    Answered tests number back refusal before after
answered tests number back refusal before after order some e zero kept =
    record {
      order = order;
      done = rw e (first_zero tests some);
      refused = λ n m. rw e (first_number tests n m);
      zero = zero;
      kept = kept;
    }

-- what the definitions say of one message
pub step_answered :
    (s : Settings) (h : Heard) (x : State) →
    Answered (tests_for s h x) (answer_of s h x).number (answer_of s h x) refused_with x (step s h x)
unfolding refusal_for
step_answered s h x =
    let told = number_told s h x in
    answered (tests_for s h x) _ _ refused_with x (step s h x) refl refl told
    (λ m. refused_answer s h x (λ z. m (told ∙ z)) ∙ ap refused_with (sym told))
    (λ m. refused_state s h x (λ z. m (told ∙ z)))

pub message_answered :
    (m : Message) →
    m.answer ≡ answer_of m.settings m.heard m.before →
    m.after ≡ step m.settings m.heard m.before →
    MessageAnswered m
message_answered m e f = rw (e, f) (step_answered m.settings m.heard m.before)

pub check_answered : (ram : List ℕ) (s : Settings) (back : Checked) → back ≡ check_area ram s → CheckAnswered ram s back
unfolding check_area area_refusal
check_answered ram s back e =
    record {
      answered =
          answered (area_tests ram s) _ back _ tt tt refl refl (ap (λ (c : Checked). c.number) e) (λ m. refl)
          (λ m. refl);
      named = rw e (area_lowest ram s);
      unnamed = rw e (area_no_cell ram s);
    }

-- what is given back by the number of the first test that holds, where nothing is lent to be changed
pub by_number :
    (tests : List Test) {Back : Type 0} (number_of : Back → ℕ) (back done : Back) (refusal : ℕ → Back) →
    follow stated_order tests ≡ true →
    numbered tests ≡ true →
    number_of done ≡ 0 →
    ((n : ℕ) → number_of (refusal n) ≡ n) →
    back ≡ cond (eqb (first_of tests) 0) done (refusal (first_of tests)) →
    AnsweredOnly tests (number_of back) back refusal
by_number tests number_of back done refusal order some none tells e =
    let number = first_of tests in
    ⊎_elim
    (λ (z : number ≡ 0).
    let same : back ≡ done = e ∙ rw (eq-eqb number 0 z) in
    let told : number_of back ≡ 0 = ap number_of same ∙ none in
    answered tests (number_of back) back refusal tt tt order some (told ∙ sym z) (λ m. absurd (m told)) (λ m. refl))
    (λ (m : number ≡ 0 → ⊥).
    let same : back ≡ refusal number = e ∙ rw (ne_eqb number 0 m) in
    let told : number_of back ≡ number = ap number_of same ∙ tells number in
    answered tests (number_of back) back refusal tt tt order some told (λ k. same ∙ ap refusal (sym told)) (λ k. refl))
    (eq_or_ne number 0)

pub read_answered : (bytes : List ℕ) (back : Reading) → back ≡ read_record bytes → ReadAnswered bytes back
unfolding read_record reader_refusal not_read
read_answered bytes back e =
    by_number (record_tests (heard_bytes bytes)) (λ r. r.number) back (record { number = 0; value = value_in bytes })
    not_read
    refl refl refl (λ n. refl) e

pub write_answered :
    (v : Record) (back : Written) →
    back ≡ write_record v →
    AnsweredOnly (writer_tests v) back.number back not_written
unfolding write_record writer_refusal
write_answered v back e =
    by_number (writer_tests v) (λ w. w.number) back (record { number = 0; bytes = bytes_of v }) not_written
    refl refl refl (λ n. refl) e

-- the function that writes and reads, and the one that reads and writes
pub read_back_answered :
    (v : Record) (back : Reading) →
    back ≡ read_back v →
    AnsweredOnly (writer_tests v) back.number back not_read
unfolding read_back not_read first_of
read_back_answered v back e =
    by_number (writer_tests v) (λ r. r.number) back (record { number = 0; value = v }) not_read refl refl refl (λ n. refl)
    (e ∙ ⊎_elim (λ (y : keeps_layout v ≡ true). rw y) (λ (n : keeps_layout v ≡ false). rw n) (yes_or_no (keeps_layout v)))

pub write_back_answered :
    (bytes : List ℕ) (back : Written) →
    back ≡ write_back bytes →
    AnsweredOnly (record_tests (heard_bytes bytes)) back.number back not_written
unfolding write_back reader_refusal
write_back_answered bytes back e =
    by_number (record_tests (heard_bytes bytes)) (λ w. w.number) back (record { number = 0; bytes = bytes }) not_written
    refl refl refl (λ n. refl) e

-- the number alone
pub number_answered :
    (tests : List Test) (number : ℕ) →
    follow stated_order tests ≡ true →
    numbered tests ≡ true →
    number ≡ first_of tests →
    NumberAnswered tests number
number_answered tests number order some e =
    answered tests number number (λ n. n) tt tt order some e (λ m. refl) (λ m. refl)

-- ---- the label

pub sharers_found :
    (ram : List ℕ) (s : Settings) (cell : ℕ) (numbers after : List ℕ) (back : Counted) →
    back ≡ counted_of ram s cell →
    after ≡ sets numbers 0 (sharers_of ram s cell) →
    Answered (cell_tests ram s cell) back.number back (λ n. record { number = n; count = 0 }) numbers after
unfolding counted_of cell_refusal
sharers_found ram s cell numbers after back e f =
    let told : back.number ≡ cell_refusal ram s cell = ap (λ (c : Counted). c.number) e in
    let none : (back.number ≡ 0 → ⊥) → sharers_of ram s cell ≡ [] =
    λ m. rw (ne_eqb (cell_refusal ram s cell) 0 (λ z. m (told ∙ z))) in
    answered (cell_tests ram s cell) back.number back _ numbers after refl refl told
    (λ m i. record { number = back.number; count = (ap (λ (c : Counted). c.count) e ∙ ap (λ (l : List ℕ). length l) (none m)) i })
    (λ m. f ∙ rw (none m))

pub cell_labelled :
    (ram : List ℕ) (s : Settings) (cell : ℕ) (back : CellLabel) →
    back ≡ cell_label ram s cell →
    AnsweredOnly (cell_tests ram s cell) back.number back (λ n. cell_answer n [])
unfolding cell_label cell_refusal cell_answer
cell_labelled ram s cell back e =
    let told : back.number ≡ cell_refusal ram s cell = ap (λ (l : CellLabel). l.number) e in
    answered (cell_tests ram s cell) back.number back _ tt tt refl refl told
    (λ m.
    let none : cell_label ram s cell ≡ cell_answer (cell_refusal ram s cell) [] =
    rw (ne_eqb (cell_refusal ram s cell) 0 (λ z. m (told ∙ z))) in
    e ∙ none ∙ ap (λ (n : ℕ). cell_answer n []) (sym told))
    (λ m. refl)

pub area_labelled :
    (ram : List ℕ) (s : Settings) (pairs after : List ℕ) (back : AreaLabel) →
    back ≡ area_label ram s →
    after ≡ pairs_into ram s pairs →
    Answered (ground_tests ram s) back.number back (λ n. area_answer n [] 0) pairs after
unfolding area_label area_unsound area_pairs pairs_into ground_refusal area_answer
area_labelled ram s pairs after back e f =
    let told : back.number ≡ ground_refusal ram s = ap (λ (l : AreaLabel). l.number) e in
    answered (ground_tests ram s) back.number back _ pairs after refl refl told
    (λ m.
    let none : area_label ram s ≡ area_answer (ground_refusal ram s) [] 0 =
    rw (ne_eqb (ground_refusal ram s) 0 (λ z. m (told ∙ z))) in
    e ∙ none ∙ ap (λ (n : ℕ). area_answer n [] 0) (sym told))
    (λ m. f ∙ rw (ne_eqb (ground_refusal ram s) 0 (λ z. m (told ∙ z))))

-- ---- the view

pub take_answered : (trace : List ℕ) (at : ℕ) (back : Taken) → back ≡ taken_at trace at → TakeAnswered trace at back
unfolding none_at
take_answered trace at back e =
    record {
      some =
          λ h.
          let same = e ∙ taken_some trace at h in
          let long : at + 80 - at ≡ 80 = omega arith in (
            ap (λ (t : Taken). t.found) same,
            (
              ap (λ (t : Taken). t.at) same,
              read_answered (take 80 (drop at trace)) back.reading
                  (rw (← long) (ap (λ (t : Taken). t.reading) same)),
            ),
          );
      none = λ h. e ∙ taken_none trace at h;
    }
