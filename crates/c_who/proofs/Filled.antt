-- What the tables' call leaves in what is lent is what the definition says.
use Prim.Native.Nat.{ℕ}
use mathlib.Core.Path.{◌≡◌, ◌∙◌}
use mathlib.Core.List.{List, [], ◌∷◌}
use borrow.Author.Tests.{eq-eqb, ne_eqb}
use Rattle.words.specs.declared.settings.Settings.{Settings}
use Rattle.message.specs.Heard.{Heard}
use Rattle.who_tables.specs.declared.table.Filling.{Filling}
use Rattle.who_tables.specs.Table.{tables_of, refusal_of, filled_with}
use Rattle.who_tables.proofs.Parts.{filled_refused}
use Rattle.c_words.specs.Over.{over}
use Rattle.c_words.specs.Setup.{remembered_words}
use Rattle.c_who.specs.Origins.{LentTables, lent_tables_of, tables_in, tables_back, tables_after}

module _
    (s : Settings)
    (hs : List Heard)
    (l : LentTables)
    (at : Filling)
    (n : ℕ)
    (ram numbers marks : List ℕ)
    (left : tables_of ram numbers marks at ≡ filled_with s hs (tables_in l))
    (told : n ≡ refusal_of s (tables_in l))
  where
    -- a part that is refused: nothing is put
    pub not_filled :
        (n ≡ 0 → ⊥) → lent_tables_of ram numbers marks l.remembered l.records ≡ tables_after s hs l
    unfolding tables_after tables_back
    not_filled m =
        let same : tables_of ram numbers marks at ≡ tables_in l = left ∙ filled_refused s hs (tables_in l) (λ z. m (told ∙ z)) in
        rw (← told, ne_eqb n 0 m)
        (λ i. lent_tables_of (same i).ram (same i).numbers (same i).marks l.remembered l.records)

    pub filled_in :
        n ≡ 0 →
        (remembered records : List ℕ) →
        remembered ≡ over l.remembered (remembered_words at.remembered) →
        records ≡ over l.records (at.number ∷ []) →
        lent_tables_of ram numbers marks remembered records ≡ tables_after s hs l
    unfolding tables_after tables_back
    filled_in z remembered records e f = rw (← told, eq-eqb n 0 z, ← left, e, f)
