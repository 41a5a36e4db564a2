-- A part of a trace is lent what the part before left: what was put there is read again.
use Prim.Native.Nat.{ℕ, ◌≤◌}
use mathlib.Core.Path.{◌≡◌, sym}
use mathlib.Core.Logic.{⊎_elim}
use mathlib.Core.List.{List}
use lib.ListN.{length}
use lib.Seq.{length-sets, get_or-set_same}
use borrow.Author.Tests.{eq-eqb, ne_eqb}
use Rattle.words.specs.declared.settings.Settings.{Settings}
use Rattle.words.proofs.Basics.{eq_or_ne}
use Rattle.message.specs.Heard.{Heard}
use Rattle.who_tables.specs.Table.{Tables, refusal_of, filled_with}
use Rattle.who_tables.proofs.Parts.{filled_refused}
use Rattle.c_words.specs.Setup.{remembered_length}
use Rattle.c_words.proofs.Again.{remembered_again}
use Rattle.c_who.specs.Origins.{LentTables, filling_from, tables_in, tables_put, tables_back, tables_after}

-- room for what is remembered, and for how many records have gone by
pub record Room (l : LentTables) : Type 0 where
  pub remembered : remembered_length ≤ length l.remembered
  pub records : 1 ≤ length l.records

put_again : (l : LentTables) (t : Tables) → Room l → tables_in (tables_put l t) ≡ t
unfolding filling_from
put_again l t r =
    rw (
      remembered_again l.remembered t.at.remembered r.remembered,
      get_or-set_same l.records 0 t.at.number 0 r.records,
    )

put_room : (l : LentTables) (t : Tables) → Room l → Room (tables_put l t)
put_room l t r = record { remembered = rw length-sets r.remembered; records = rw length-sets r.records }

-- a part that is refused puts nothing, and nothing of it was gone through
module _ (s : Settings) (hs : List Heard) (l : LentTables) (r : Room l) where
  abbrev number : ℕ
  number = refusal_of s (tables_in l)

  pub after_again : tables_in (tables_after s hs l) ≡ filled_with s hs (tables_in l)
  unfolding tables_after tables_back
  after_again =
      ⊎_elim (λ (z : number ≡ 0). rw (eq-eqb number 0 z) (put_again l (filled_with s hs (tables_in l)) r))
      (λ (m : number ≡ 0 → ⊥). rw (ne_eqb number 0 m) (sym (filled_refused s hs (tables_in l) m)))
      (eq_or_ne number 0)

  pub still_room : Room (tables_after s hs l)
  unfolding tables_after tables_back
  still_room =
      ⊎_elim (λ (z : number ≡ 0). rw (eq-eqb number 0 z) (put_room l (filled_with s hs (tables_in l)) r))
      (λ (m : number ≡ 0 → ⊥). rw (ne_eqb number 0 m) r)
      (eq_or_ne number 0)
