-- Every address at once: what the tables say of an address is the answer to the question about it.
use Prim.Native.Nat.{ℕ, suc, ◌+◌, ◌^◌, ◌<◌, ◌≤◌}
use native.Mathlib.Omega.{arith}
use mathlib.Core.Path.{◌≡◌, refl, sym, ap, ◌∙◌}
use mathlib.Core.Logic.{⊎_elim}
use mathlib.Core.Bool.{true, false}
use mathlib.Core.List.{List, [], ◌∷◌}
use lib.ListN.{length, get_or, length-replicate, get_or-replicate, get_or-eq_default}
use lib.Dec.{leb}
use borrow.Author.Tests.{eq-eqb, ne_eqb, leb-true, leb-false}
use Rattle.words.specs.declared.settings.Settings.{Settings}
use Rattle.words.specs.declared.remembered.Remembered.{Remembered}
use Rattle.words.specs.Number.{ram_length, address_beyond}
use Rattle.words.specs.Refusal.{first_of}
use Rattle.words.specs.Settings.{settings_refused}
use Rattle.words.proofs.Basics.{yes_or_no, eq_or_ne}
use Rattle.records.specs.declared.value.Record.{Record}
use Rattle.memory.specs.Rows.{Each}
use Rattle.memory.specs.State.{State}
use Rattle.memory.specs.Map.{ram_refused}
use Rattle.memory.specs.Writes.{apply_writes}
use Rattle.memory.proofs.Writes.{length_apply}
use Rattle.lookup.specs.Target.{target_of}
use Rattle.plan.specs.Deed.{deed_with, deed_of}
use Rattle.plan.proofs.Reach.{deed_stored}
use Rattle.plan.specs.Plan.{plan_with, plan_of}
use Rattle.message.specs.Heard.{Heard}
use Rattle.message.specs.Tests.{refusal_for}
use Rattle.message.specs.Message.{plan_for}
use Rattle.message.proofs.Step.{cell_low}
use Rattle.trace.specs.Walk.{next_number}
use Rattle.writes.specs.declared.part.Part.{Part}
use Rattle.writes.specs.Asked.{Planned, planned}
use Rattle.who_origin.specs.declared.origin.Who.{Who}
use Rattle.who_origin.specs.declared.origin.Who.TheVariants.{Refused}
use Rattle.who.specs.Tests.{who_refusal}
use Rattle.who_origin.specs.Origin.{names_not, LastNaming, last_said, written}
use Rattle.who_origin.proofs.Last.{names_or_not, each_last, last_none, last_found}
use Rattle.who.specs.Next.{list_in, who_next}
use Rattle.who.specs.Replay.{Replay, replay_of, replay_record, replay, beginning, refused_at, asked}
use Rattle.who.proofs.Gone.{part_replayed}
use Rattle.who.proofs.Answers.{first_told, who_put_this_here}
use Rattle.who_tables.specs.Mark.{mark_of, entry_of, is_entry}
use Rattle.who_tables.specs.Tests.{tables_refused, fill_refusal, entry_refusal}
use Rattle.who_tables.specs.Table.{entry_at, marking, Tables, terminal_at, fill_record, fill_all, refusal_of, filled_with, blank_tables}
use Rattle.who_tables.proofs.Marks.{entry_written, entry_good, Fits, parts_fit}
use Rattle.who_tables.proofs.Beside.{table_said}
use Rattle.who_tables.proofs.Parts.{all_lengths, filled_done, filled_refused}

-- what the tables say of an address
abbrev pub who_in : Tables → ℕ → Who
who_in t a = entry_of (get_or t.numbers a 0) (get_or t.marks a 0)

-- the question about an address, as it stands there
abbrev pub replay_in : Tables → ℕ → Replay
replay_in t a =
    replay_of t.ram (record { remembered = t.at.remembered; number = t.at.number; who = who_in t a })

-- what the tables hold of an address is an entry
abbrev Good : Tables → ℕ → Type 0
Good t a = is_entry (get_or t.numbers a 0) (get_or t.marks a 0) ≡ true

-- ---- the marks of a record

module _ (s : Settings) (ram : List ℕ) (remembered : Remembered) (v : Record) where
  plan_cell : (plan_of s ram remembered v).deed.cell < 96
  unfolding plan_of plan_with deed_of deed_with
  plan_cell = cell_low ram s v

  plan_stored : (plan_of s ram remembered v).deed.stored ≤ 32
  unfolding plan_of plan_with
  plan_stored = deed_stored s (target_of ram s v.command) v

record_fits : (s : Settings) (h : Heard) (x : State) → Each Fits (list_in planned s h x)
unfolding list_in
record_fits s h x =
    ⊎_elim
    (λ (z : refusal_for s h x ≡ 0).
    rw (eq-eqb (refusal_for s h x) 0 z)
    (parts_fit s (plan_for s h.value x) h.value (plan_stored s x.ram x.remembered h.value)))
    (λ (m : refusal_for s h x ≡ 0 → ⊥). rw (ne_eqb (refusal_for s h x) 0 m) tt)
    (eq_or_ne (refusal_for s h x) 0)

-- ---- one record

module _ (s : Settings) (h : Heard) (t : Tables) (a : ℕ) where
  abbrev x : State
  x = terminal_at t

  abbrev cell : ℕ
  cell = (plan_for s h.value x).deed.cell

  abbrev next : ℕ
  next = next_number t.at.number

  abbrev numbering : Part → ℕ
  numbering part = next

  abbrev ws : List Planned
  ws = list_in planned s h x

  -- what stands there before and after
  abbrev number₀ : ℕ
  number₀ = get_or t.numbers a 0

  abbrev mark₀ : ℕ
  mark₀ = get_or t.marks a 0

  abbrev number₁ : ℕ
  number₁ = last_said (λ w. next) a ws number₀

  abbrev mark₁ : ℕ
  mark₁ = last_said (λ w. mark_of cell w.part) a ws mark₀

  module _ (n : next ≡ 0 → ⊥) where
    abbrev low : cell < 96
    low = plan_cell s x.ram x.remembered h.value

    -- the last write is told, or what was there
    said_next : entry_of number₁ mark₁ ≡ who_next s a h x next (entry_of number₀ mark₀)
    unfolding who_next
    said_next =
        let numbers : Planned → ℕ = λ w. next in
        let marks : Planned → ℕ = λ w. mark_of cell w.part in
        let told : Planned → Who = λ w. written next cell w.part in
        ⊎_elim
        (λ (k : names_not a ws).
        rw (
          last_none numbers a ws number₀ k,
          last_none marks a ws mark₀ k,
          last_none told a ws (entry_of number₀ mark₀) k,
        ))
        (λ (k : LastNaming a ws).
        rw (
          last_found numbers a ws number₀ k,
          last_found marks a ws mark₀ k,
          last_found told a ws (entry_of number₀ mark₀) k,
        )
        (entry_written next cell k.it.part n (omega (arith, low)) (each_last Fits a ws (record_fits s h x) k).0))
        (names_or_not a ws)

    -- and is an entry, where that was one
    said_good : is_entry number₀ mark₀ ≡ true → is_entry number₁ mark₁ ≡ true
    said_good g =
        let numbers : Planned → ℕ = λ w. next in
        let marks : Planned → ℕ = λ w. mark_of cell w.part in
        ⊎_elim
        (λ (k : names_not a ws). rw (last_none numbers a ws number₀ k, last_none marks a ws mark₀ k) g)
        (λ (k : LastNaming a ws).
        let fits = each_last Fits a ws (record_fits s h x) k in
        rw (last_found numbers a ws number₀ k, last_found marks a ws mark₀ k)
        (entry_good next cell k.it.part n low fits.0 fits.1))
        (names_or_not a ws)

  module _ (l : a < length t.numbers) (m : a < length t.marks) (n : next ≡ 0 → ⊥) where
    number_said : get_or (apply_writes (list_in (marking numbering) s h x) t.numbers) a 0 ≡ number₁
    number_said = table_said numbering s h x a t.numbers l

    mark_said : get_or (apply_writes (list_in (marking (mark_of cell)) s h x) t.marks) a 0 ≡ mark₁
    mark_said = table_said (mark_of cell) s h x a t.marks m

    good_next : Good t a → Good (fill_record s h t) a
    unfolding fill_record
    good_next g = rw (number_said, mark_said) (said_good n g)

    -- replaying with the question, from what the tables say, goes on as the tables do
    record_same : replay_record s a h (replay_in t a) ≡ replay_in (fill_record s h t) a
    unfolding replay_record fill_record
    record_same = rw (number_said, mark_said, said_next n)

-- ---- records one after the other

module _ (s : Settings) (h : Heard) (t : Tables) where
  numbers_long : (a : ℕ) → a < length t.numbers → a < length (fill_record s h t).numbers
  unfolding fill_record
  numbers_long a l = rw length_apply l

  marks_long : (a : ℕ) → a < length t.marks → a < length (fill_record s h t).marks
  unfolding fill_record
  marks_long a l = rw length_apply l

  number_short : (n : ℕ) → t.at.number + suc n < 2 ^ 64 → (fill_record s h t).at.number + n < 2 ^ 64
  unfolding fill_record
  number_short n l = omega arith

all_same :
    (s : Settings) (hs : List Heard) (t : Tables) (a : ℕ) →
    a < length t.numbers →
    a < length t.marks →
    t.at.number + length hs < 2 ^ 64 →
    replay s a hs (replay_in t a) ≡ replay_in (fill_all s hs t) a
unfolding replay fill_all
all_same s [] t a l m n = refl
all_same s (h ∷ hs) t a l m n =
    let k : next_number t.at.number ≡ 0 → ⊥ = λ q. omega arith in
    rw (record_same s h t a l m k)
    (all_same s hs (fill_record s h t) a (numbers_long s h t a l) (marks_long s h t a m) (number_short s h t (length hs) n))

all_good :
    (s : Settings) (hs : List Heard) (t : Tables) (a : ℕ) →
    a < length t.numbers →
    a < length t.marks →
    t.at.number + length hs < 2 ^ 64 →
    Good t a →
    Good (fill_all s hs t) a
unfolding fill_all
all_good s [] t a l m n g = g
all_good s (h ∷ hs) t a l m n g =
    let k : next_number t.at.number ≡ 0 → ⊥ = λ q. omega arith in
    all_good s hs (fill_record s h t) a (numbers_long s h t a l) (marks_long s h t a m) (number_short s h t (length hs) n)
    (good_next s h t a l m k g)

-- ---- what refuses the tables' answer, and the question's

entry_refused :
    (numbers marks : List ℕ) (a n : ℕ) →
    entry_refusal numbers marks a ≡ n →
    (n ≡ 0 → ⊥) →
    entry_at numbers marks a ≡ Refused n
unfolding entry_at
entry_refused numbers marks a n e m = rw (e, ne_eqb n 0 m)

entry_given :
    (numbers marks : List ℕ) (a : ℕ) →
    entry_refusal numbers marks a ≡ 0 →
    entry_at numbers marks a ≡ entry_of (get_or numbers a 0) (get_or marks a 0)
unfolding entry_at
entry_given numbers marks a e = rw (eq-eqb (entry_refusal numbers marks a) 0 e)

question_refused :
    (s : Settings) (hs : List Heard) (image : List ℕ) (a n : ℕ) →
    who_refusal (length image) s a ≡ n →
    (n ≡ 0 → ⊥) →
    (asked s a hs image).at.who ≡ Refused n
unfolding refused_at
question_refused s hs image a n e m =
    rw ((who_put_this_here s a hs image).refused (λ z. m (sym e ∙ z))) (ap (λ (k : ℕ). Refused k) e)

-- ---- from blank tables beside an image

blank_first : (image : List ℕ) (a : ℕ) → a < length image → replay_in (blank_tables image) a ≡ replay_of image beginning
unfolding blank_tables beginning entry_of
blank_first image a l = rw (get_or-replicate {A = ℕ} (length image) a 0 0 l)

module _ (s : Settings) (hs : List Heard) (image : List ℕ) (a : ℕ) (good : settings_refused s ≡ false) where
  abbrev blank : Tables
  blank = blank_tables image

  abbrev filled : Tables
  filled = filled_with s hs blank

  abbrev Same : Type 0
  Same = entry_at filled.numbers filled.marks a ≡ (asked s a hs image).at.who

  -- an image that is refused: so are its tables
  module _ (r : ram_refused (length image) ≡ true) where
    blank_refused : refusal_of s blank ≡ ram_length
    unfolding fill_refusal tables_refused first_of blank_tables
    blank_refused = rw r

    blank_entry : entry_refusal blank.numbers blank.marks a ≡ ram_length
    unfolding entry_refusal tables_refused first_of blank_tables
    blank_entry = rw (length-replicate, r)

    image_refused : who_refusal (length image) s a ≡ ram_length
    unfolding who_refusal first_of
    image_refused = rw r

    refused_same : Same
    refused_same =
        let m : ram_length ≡ 0 → ⊥ = λ z. omega arith in
        rw (filled_refused s hs blank (λ z. m (sym blank_refused ∙ z)))
        (entry_refused blank.numbers blank.marks a ram_length blank_entry m
        ∙ sym (question_refused s hs image a ram_length image_refused m))

  module _ (r : ram_refused (length image) ≡ false) where
    blank_taken : refusal_of s blank ≡ 0
    unfolding fill_refusal tables_refused first_of blank_tables
    blank_taken = rw (length-replicate, r, eq-eqb (length image) (length image) refl, good)

    abbrev end : Tables
    end = fill_all s hs blank

    numbers_fit : length end.numbers ≡ length image
    unfolding blank_tables
    numbers_fit = (all_lengths s hs blank).numbers ∙ length-replicate (length image) 0

    marks_fit : length end.marks ≡ length image
    unfolding blank_tables
    marks_fit = (all_lengths s hs blank).marks ∙ length-replicate (length image) 0

    lengths_taken : tables_refused (length end.numbers) (length end.numbers) (length end.marks) ≡ false
    unfolding tables_refused
    lengths_taken = rw (numbers_fit, marks_fit, r, eq-eqb (length image) (length image) refl)

    -- an address beyond the RAM lies beyond its tables
    module _ (beyond : leb (length image) a ≡ true) where
      nothing_there : Good end a
      unfolding is_entry
      nothing_there =
          let l = leb-true (length image) a beyond in
          let n : length end.numbers ≤ a = rw numbers_fit l in
          let m : length end.marks ≤ a = rw marks_fit l in
          rw (get_or-eq_default end.numbers 0 n, get_or-eq_default end.marks 0 m)

      entry_beyond : entry_refusal end.numbers end.marks a ≡ address_beyond
      unfolding entry_refusal first_of
      entry_beyond = rw (lengths_taken, nothing_there, numbers_fit, beyond)

      question_beyond : who_refusal (length image) s a ≡ address_beyond
      unfolding who_refusal first_of
      question_beyond = rw (r, good, beyond)

      beyond_same : Same
      beyond_same =
          let m : address_beyond ≡ 0 → ⊥ = λ z. omega arith in
          rw (filled_done s hs blank blank_taken)
          (entry_refused end.numbers end.marks a address_beyond entry_beyond m
          ∙ sym (question_refused s hs image a address_beyond question_beyond m))

    module _ (within : leb (length image) a ≡ false) (n : length hs < 2 ^ 64) where
      abbrev l : a < length image
      l = leb-false (length image) a within

      numbers_reach : a < length blank.numbers
      unfolding blank_tables
      numbers_reach = rw length-replicate l

      marks_reach : a < length blank.marks
      unfolding blank_tables
      marks_reach = rw length-replicate l

      few : blank.at.number + length hs < 2 ^ 64
      unfolding blank_tables
      few = omega arith

      blank_good : Good blank a
      unfolding blank_tables is_entry
      blank_good = rw (get_or-replicate {A = ℕ} (length image) a 0 0 l)

      entry_taken_in : entry_refusal end.numbers end.marks a ≡ 0
      unfolding entry_refusal first_of
      entry_taken_in =
          rw (lengths_taken, all_good s hs blank a numbers_reach marks_reach few blank_good, numbers_fit, within)

      question_taken : who_refusal (length image) s a ≡ 0
      unfolding who_refusal first_of
      question_taken = rw (r, good, within)

      within_same : Same
      unfolding asked
      within_same =
          let first = replay_of image beginning in
          let replayed = part_replayed s a hs first (first_told s a hs image) question_taken in
          rw (filled_done s hs blank blank_taken, replayed, entry_given end.numbers end.marks a entry_taken_in)
          (rw (blank_first image a l) at (sym (ap (λ (w : Replay). w.at.who) (all_same s hs blank a numbers_reach marks_reach few))))

  -- Every address: after a trace from blank tables, each entry is the answer to the question about its address, also
  -- where both are refused.
  pub every_address : length hs < 2 ^ 64 → Same
  every_address n =
      ⊎_elim refused_same
      (λ (r : ram_refused (length image) ≡ false).
      ⊎_elim (beyond_same r) (λ (w : leb (length image) a ≡ false). within_same r w n) (yes_or_no (leb (length image) a)))
      (yes_or_no (ram_refused (length image)))
