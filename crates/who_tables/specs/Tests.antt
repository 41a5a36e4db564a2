-- What is tested of two tables: that they stand beside a RAM, word for word, and that they hold what a replay puts there.
-- "an entry point tests exactly those about things that it is given."
use Rattle.std.specs.Prelude.{ℕ, Bool, not, ◌&&◌, ◌||◌, List, [], ◌∷◌, length, get_or, leb, eqb}
use Rattle.words.specs.declared.settings.Settings.{Settings}
use Rattle.words.specs.Number.{ram_length, bad_settings, record_layout, address_beyond}
use Rattle.words.specs.Refusal.{Test, ◌when◌, first_of}
use Rattle.words.specs.Settings.{settings_refused}
use Rattle.memory.specs.Map.{ram_refused}
use Rattle.who_tables.specs.Mark.{is_entry}

-- refusal 1, of the lengths of RAM and its two tables: RAM's is refused, or a table is not as long as RAM
unfoldable pub tables_refused : ℕ → ℕ → ℕ → Bool
tables_refused words numbers marks = ram_refused words || not (eqb numbers words && eqb marks words)

-- before a part of a trace is replayed into tables: 1, then 3
abbrev pub fill_tests : ℕ → ℕ → ℕ → Settings → List Test
fill_tests words numbers marks s =
    ram_length when tables_refused words numbers marks ∷ bad_settings when settings_refused s ∷ []

unfoldable pub fill_refusal : ℕ → ℕ → ℕ → Settings → ℕ
fill_refusal words numbers marks s = first_of (fill_tests words numbers marks s)

-- before tables are asked about an address: they are not as long as a RAM; what they hold of it is no entry; "12 for an
-- address beyond the RAM"
abbrev pub entry_tests : List ℕ → List ℕ → ℕ → List Test
entry_tests numbers marks a =
    ram_length when tables_refused (length numbers) (length numbers) (length marks)
    ∷ record_layout when not (is_entry (get_or numbers a 0) (get_or marks a 0))
    ∷ address_beyond when leb (length numbers) a
    ∷ []

unfoldable pub entry_refusal : List ℕ → List ℕ → ℕ → ℕ
entry_refusal numbers marks a = first_of (entry_tests numbers marks a)
