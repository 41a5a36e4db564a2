-- Who put a word where it is (document 02, request 10) as plain words.
use Rattle.std.specs.Prelude.{ℕ, cond, List, [], ◌∷◌, eqb}
use Rattle.words.specs.declared.settings.Settings.{Settings}
use Rattle.message.specs.Heard.{Heard}
use Rattle.who_tables.specs.declared.table.Filling.{Filling}
use Rattle.who.specs.declared.values.Values.{Values}
use Rattle.who_tables.specs.Table.{Tables, tables_of, refusal_of, filled_with}
use Rattle.c_words.specs.Over.{over}
use Rattle.c_words.specs.Fields.{word_in}
use Rattle.c_words.specs.Setup.{remembered_from, remembered_words}

-- three words: what was written, "its cell and its place in the message"
abbrev pub part_length : ℕ
part_length = 3

unfoldable pub part_words : Values → List ℕ
part_words v = v.kind ∷ v.cell ∷ v.place ∷ []

-- where a replay stands: what is remembered, and how many records have gone by
unfoldable pub filling_from : List ℕ → List ℕ → Filling
filling_from remembered records = record { remembered = remembered_from remembered; number = word_in records 0 }

-- what is lent for the tables
pub record LentTables : Type 0 where
  pub ram : List ℕ
  pub numbers : List ℕ
  pub marks : List ℕ
  pub remembered : List ℕ
  pub records : List ℕ

abbrev pub lent_tables_of : List ℕ → List ℕ → List ℕ → List ℕ → List ℕ → LentTables
lent_tables_of ram numbers marks remembered records =
    record { ram = ram; numbers = numbers; marks = marks; remembered = remembered; records = records }

abbrev pub tables_in : LentTables → Tables
tables_in l = tables_of l.ram l.numbers l.marks (filling_from l.remembered l.records)

-- tables put back into it. They are put only where the part is done: a refusal writes nothing.
abbrev pub tables_put : LentTables → Tables → LentTables
tables_put l t =
    record {
      ram = t.ram;
      numbers = t.numbers;
      marks = t.marks;
      remembered = over l.remembered (remembered_words t.at.remembered);
      records = over l.records (t.at.number ∷ []);
    }

unfoldable pub tables_back : LentTables → ℕ → Tables → LentTables
tables_back l number t = cond (eqb number 0) (tables_put l t) l

-- and what stands in it after a part of a trace
unfoldable pub tables_after : Settings → List Heard → LentTables → LentTables
tables_after s hs l = tables_back l (refusal_of s (tables_in l)) (filled_with s hs (tables_in l))
