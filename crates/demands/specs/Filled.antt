-- Tables that tell of every address who put its word there ("Who put this word here", document 02, request 10), filled
-- part by part, and the question about one address.
-- To believe: `heard_in`, the whole records of a part; `blank_tables`, tables of zeros beside an image, with nothing
-- remembered and no record gone by; `tables_in`, what a caller in C or Rust lends, as values.
use Rattle.std.specs.Prelude.{ℕ, ◌^◌, ◌≤◌, ◌<◌, ◌≡◌, false, cond, List, [], ◌∷◌, ◌++◌, map, length, eqb}
use Rattle.words.specs.declared.settings.Settings.{Settings}
use Rattle.words.specs.Settings.{settings_refused}
use Rattle.message.specs.Heard.{Heard}
use Rattle.who.specs.Replay.{heard_in}
use Rattle.who_tables.specs.Table.{Tables, tables_of, blank_tables}
use Rattle.c_words.specs.Setup.{settings_from, remembered_length}
use Rattle.c_who.specs.Origins.{LentTables, lent_tables_of, tables_in}
use Rattle.demands.specs.Entry.{Call}
use Rattle.demands.specs.Functions.{ask, fill_tables, entry_at_call, c_who, c_who_fill, c_who_entry}

-- ---- parts of a trace

-- what one part shows: its settings and records, the number that it answers, and what it was lent, before and after
pub record Part (Lent : Type 0) : Type 0 where
  pub settings : Settings
  pub heard : List Heard
  pub before : Lent
  pub number : ℕ
  pub after : Lent

-- from x to y, with "fixed settings": each part begins with what the one before left. One that is refused may have had
-- others.
abbrev pub Parts : {Lent : Type 0} → Settings → Lent → List (Part Lent) → Lent → Type 0
Parts s x [] y = y ≡ x
Parts s x (p ∷ ps) y = (p.number ≡ 0 → p.settings ≡ s) × ((p.before ≡ x) × Parts s p.after ps y)

-- the records of those that were not refused
abbrev pub records_taken : {Lent : Type 0} → List (Part Lent) → List Heard
records_taken [] = []
records_taken (p ∷ ps) = cond (eqb p.number 0) p.heard [] ++ records_taken ps

-- ---- the calls

abbrev pub filled_part : Call fill_tables → Part Tables
filled_part c =
    let (ram, (numbers, (marks, (s, (at, (trace, none)))))) = c.given in
    record {
      settings = s;
      heard = heard_in trace.now;
      before = tables_of ram.now numbers.now marks.now at;
      number = c.back.number;
      after = tables_of c.left.0 c.left.1.0 c.left.1.1.0 c.back.at;
    }

-- and for callers in C and Rust
abbrev pub exported_part : Call c_who_fill → Part LentTables
exported_part c =
    let (ram, (numbers, (marks, (settings, (remembered, (records, (trace, none))))))) = c.given in
    record {
      settings = settings_from settings.now;
      heard = heard_in trace.now;
      before = lent_tables_of ram.now numbers.now marks.now remembered.now records.now;
      number = c.back;
      after =
          lent_tables_of c.left.0 c.left.1.0 c.left.1.1.0 c.left.1.1.1.1.0
          c.left.1.1.1.1.1.0;
    }

-- ---- the same question

-- tables that are blank beside an image at first, filled by these parts, and then asked about an address; and the
-- question about that address, of that image and the records of those parts
pub record SameQuestion (fills : List (Call fill_tables)) (e : Call entry_at_call) (q : Call ask) : Type 0 where
  pub settings : Settings
  pub allowed : settings_refused settings ≡ false
  pub image : List ℕ
  pub end : Tables
  pub filled : Parts settings (blank_tables image) (map filled_part fills) end
  -- their numbers fit 64 bits
  pub few : length (records_taken (map filled_part fills)) < 2 ^ 64
  pub numbers : e.given.0.now ≡ end.numbers
  pub marks : e.given.1.0.now ≡ end.marks
  pub of_image : q.given.0.now ≡ image
  pub of_settings : q.given.1.0 ≡ settings
  pub of_address : q.given.1.1.0 ≡ e.given.1.1.0
  pub of_records : heard_in q.given.1.1.1.0.now ≡ records_taken (map filled_part fills)

-- for a caller in C or Rust, who lends room for what goes on from part to part, and the same room for either answer
pub record SameExportedQuestion (fills : List (Call c_who_fill)) (e : Call c_who_entry) (q : Call c_who) : Type 0 where
  pub settings : Settings
  pub allowed : settings_refused settings ≡ false
  pub image : List ℕ
  pub begin : LentTables
  pub end : LentTables
  pub blank : tables_in begin ≡ blank_tables image
  pub remembered_room : remembered_length ≤ length begin.remembered
  pub records_room : 1 ≤ length begin.records
  pub filled : Parts settings begin (map exported_part fills) end
  pub few : length (records_taken (map exported_part fills)) < 2 ^ 64
  pub numbers : e.given.0.now ≡ end.numbers
  pub marks : e.given.1.0.now ≡ end.marks
  pub of_image : q.given.0.now ≡ image
  pub of_settings : settings_from q.given.1.0.now ≡ settings
  pub of_address : q.given.1.1.0 ≡ e.given.1.1.0
  pub of_records : heard_in q.given.1.1.1.0.now ≡ records_taken (map exported_part fills)
  pub last_room : q.given.1.1.1.1.0.now ≡ e.given.1.1.1.0.now
  pub part_room : q.given.1.1.1.1.1.0.now ≡ e.given.1.1.1.1.0.now
