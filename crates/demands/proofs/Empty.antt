-- "Demand 2 shuts out: a terminal that refuses everything (the table's "no other case"); one that sends the same status
-- always; one that touches no RAM; one that handles the first record and only numbers the rest; one that invents words
-- sent or records ended." Each of them, ruled out by a field.
use Prim.Native.Nat.{ℕ, zero, suc, ◌+◌, ◌%◌, ◌^◌, ◌<◌}
use native.Mathlib.Omega.{arith}
use mathlib.Core.Path.{◌≡◌, refl, sym, ap, ◌∙◌}
use mathlib.Core.Logic.{⊎_elim}
use mathlib.Core.Bool.{true}
use mathlib.Core.List.{List, [], ◌∷◌, ◌++◌}
use lib.ListN.{length, get_or, drop, length-append, length-map, get_or-map}
use Rattle.words.specs.declared.settings.Settings.{Settings}
use Rattle.words.specs.Settings.{program_settings}
use Rattle.words.proofs.SettingsLaws.{ListedSize, settings_agreed}
use Rattle.records.specs.Value.{zero_value}
use Rattle.memory.specs.State.{State}
use Rattle.windows.specs.Window.{place_of, aligned}
use Rattle.windows.proofs.Wrap.{places_differ}
use Rattle.cells.specs.Stack.{stack_pointer, stack_window}
use Rattle.cells.proofs.Block.{stack_word_lem}
use Rattle.message.specs.declared.answer.Answer.{Answer}
use Rattle.message.specs.Heard.{Heard, heard_value}
use Rattle.message.specs.Tests.{refusal_for}
use Rattle.message.specs.Answer.{accepted_with}
use Rattle.message.specs.Edges.{Case, Row, start_of, run_case, cases, expected}
use Rattle.message.proofs.Edges.{edges}
use Rattle.message.proofs.Refusals.{message_done, number_told, accepted_answer}
use Rattle.message.proofs.Sure.{accepted_sure}
use Rattle.trace.specs.Walk.{whole_records}
use Rattle.demands.specs.Calls.{Message, Walked}
use Rattle.demands.specs.Meets.{deed, Meets}
use Rattle.demands.specs.Walks.{records_heard, Walks}

-- whatever is heard, in whatever state
pub record Terminal : Type 0 where
  pub answer : Settings → Heard → State → Answer
  pub after : Settings → Heard → State → State

abbrev pub message : Terminal → Settings → Heard → State → Message
message t s h x = record { settings = s; heard = h; before = x; answer = t.answer s h x; after = t.after s h x }

-- `accepted`: what no test refuses is taken
taken : (m : Message) → Meets m → refusal_for m.settings m.heard m.before ≡ 0 → m.answer.number ≡ 0
taken m k e = k.second.accepted ((message_done m.settings m.heard m.before).0 e)

-- and what is taken no test refuses
no_test : (m : Message) → Meets m → m.answer.number ≡ 0 → refusal_for m.settings m.heard m.before ≡ 0
no_test m k z = (message_done m.settings m.heard m.before).1 (k.first.done.0 z)

-- ---- a row of the table of cases

abbrev no_case : Case
no_case = record { words = 0; image = []; settings = program_settings; value = zero_value }

abbrev case_of : ℕ → Case
case_of n = get_or cases n no_case

abbrev row_of : ℕ → Row
row_of n = get_or expected n (run_case no_case)

row : (n : ℕ) → run_case (case_of n) ≡ row_of n
row n = sym (get_or-map run_case cases n no_case) ∙ ap (λ (rows : List Row). get_or rows n (run_case no_case)) edges

abbrev of_case : Terminal → ℕ → Message
of_case t n = message t (case_of n).settings (heard_value (case_of n).value) (start_of (case_of n))

module _ (t : Terminal) (n : ℕ) (k : Meets (of_case t n)) (z : (row_of n).answer.number ≡ 0) where
  abbrev it : Message
  it = of_case t n

  passes : refusal_for it.settings it.heard it.before ≡ 0
  unfolding run_case
  passes = sym (number_told it.settings it.heard it.before) ∙ ap (λ (r : Row). r.answer.number) (row n) ∙ z

  row_taken : it.answer.number ≡ 0
  row_taken = taken it k passes

  row_answer : it.answer ≡ (row_of n).answer
  unfolding run_case
  row_answer =
      (k.second.worked row_taken).answer
      ∙ sym (accepted_answer it.settings it.heard it.before passes)
      ∙ ap (λ (r : Row). r.answer) (row n)

  row_reply : it.after.reply ≡ (row_of n).sends ++ drop (length (row_of n).sends) it.before.reply
  unfolding run_case
  row_reply = rw (← (ap (λ (r : Row). r.sends) (row n))) (k.second.worked row_taken).reply

-- ---- one that refuses everything

abbrev Always : Terminal → Type 0
Always t = (s : Settings) (h : Heard) (x : State) → Meets (message t s h x)

pub refuses_everything :
    (t : Terminal) →
    Always t →
    ((s : Settings) (h : Heard) (x : State) → (t.answer s h x).number ≡ 0 → ⊥) →
    ⊥
unfolding expected
refuses_everything t k refuses = refuses _ _ _ (row_taken t 0 (k _ _ _) refl)

-- ---- one that sends the same status always: P1's is 2800, and P11's 2808

pub same_status_always :
    (t : Terminal) (w : ℕ) →
    Always t →
    ((s : Settings) (h : Heard) (x : State) →
    (t.answer s h x).number ≡ 0 →
    (t.answer s h x).answered ≡ true →
    get_or (t.after s h x).reply 0 0 ≡ w) →
    ⊥
unfolding expected
same_status_always t w k same =
    let one : get_or (of_case t 0).after.reply 0 0 ≡ 0x2800 = rw (row_reply t 0 (k _ _ _) refl) in
    let two : get_or (of_case t 10).after.reply 0 0 ≡ 0x2808 = rw (row_reply t 10 (k _ _ _) refl) in
    let a = same _ _ _ (row_taken t 0 (k _ _ _) refl)
    (ap (λ (r : Answer). r.answered) (row_answer t 0 (k _ _ _) refl)) in
    let b = same _ _ _ (row_taken t 10 (k _ _ _) refl)
    (ap (λ (r : Answer). r.answered) (row_answer t 10 (k _ _ _) refl)) in
    omega arith

-- ---- one that touches no RAM: an accepted message moves the stack pointer

size_large : (n : ℕ) → ListedSize n → 4 < n
size_large n h =
    ⊎_elim (⊎_elim (λ e. omega arith) (λ e. omega arith)) (⊎_elim (λ e. omega arith) (λ e. omega arith)) h

ram_touched : (m : Message) → Meets m → m.answer.number ≡ 0 → m.after.ram ≡ m.before.ram → ⊥
unfolding stack_window aligned
ram_touched m k z e =
    let s = m.settings in
    let ram = m.before.ram in
    let f = accepted_sure s m.heard m.before (no_test m k z) in
    let large = size_large s.stack_size (settings_agreed s f.agreed).size in
    let w = stack_window ram s in
    let here = stack_word_lem ram s f.agreed f.stack 0 (omega arith) in
    let none : stack_pointer ram s + 0 ≡ stack_pointer ram s = omega arith in
    let on : stack_pointer ram s ≡ place_of w 4 = ap (λ (r : List ℕ). stack_pointer r s) (sym e) ∙ (k.second.worked z).stack in
    places_differ w 0 4 (omega arith) (omega arith) (here ∙ none ∙ on)

pub touches_no_ram :
    (t : Terminal) →
    Always t →
    ((s : Settings) (h : Heard) (x : State) → (t.after s h x).ram ≡ x.ram) →
    ⊥
unfolding expected
touches_no_ram t k same = ram_touched (of_case t 0) (k _ _ _) (row_taken t 0 (k _ _ _) refl) (same _ _ _)

-- ---- one that handles the first record and only numbers the rest

pub only_numbers_the_rest :
    (w : Walked) (k : Walks w) (a b : Message) →
    k.messages ≡ a ∷ b ∷ [] →
    b.answer.number ≡ 0 →
    w.after.ram ≡ a.after.ram →
    ⊥
only_numbers_the_rest w k a b e z same =
    let chain = rw e at k.chain in
    let each = rw e at k.each in
    ram_touched b each.1.0 z
    (ap (λ (x : State). x.ram) (sym chain.1.1.1.1) ∙ same ∙ ap (λ (x : State). x.ram) (sym chain.1.1.1.0))

-- ---- one that invents words sent or records ended

pub invents_words : (m : Message) → Meets m → m.answer.number ≡ 0 → (m.answer.sent ≡ (deed m).sent → ⊥) → ⊥
unfolding accepted_with
invents_words m k z other = other (ap (λ (r : Answer). r.sent) (k.second.worked z).answer)

records_heard_lem : (trace : List ℕ) (n : ℕ) → length (records_heard trace n) ≡ n
unfolding records_heard
records_heard_lem trace zero = refl
records_heard_lem trace (suc n) = simp (length-append, records_heard_lem trace n) (omega arith)

pub invents_records :
    (w : Walked) →
    Walks w →
    w.from < 2 ^ 64 →
    (w.number ≡ (w.from + whole_records w.trace) % 2 ^ 64 → ⊥) →
    ⊥
invents_records w k h other =
    let heard : length k.messages ≡ whole_records w.trace =
    sym (length-map k.messages (λ (m : Message). m.heard))
    ∙ ap (λ (l : List Heard). length l) k.heard
    ∙ records_heard_lem _ _ in
    other (rw (← heard) (k.ended h))
