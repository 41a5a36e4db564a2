-- Each entry of tables that were filled part by part is the one-address answer.
use Prim.Native.Nat.{ℕ, ◌^◌, ◌<◌}
use mathlib.Core.Path.{◌≡◌, sym, ap, ◌∙◌}
use mathlib.Core.Logic.{⊎_elim}
use mathlib.Core.Bool.{false, cond}
use mathlib.Core.List.{List, [], ◌∷◌, ◌++◌, map}
use lib.ListN.{length}
use lib.Dec.{eqb}
use borrow.Author.Tests.{eq-eqb, ne_eqb}
use Rattle.words.specs.declared.settings.Settings.{Settings}
use Rattle.words.specs.Settings.{settings_refused}
use Rattle.words.proofs.Basics.{eq_or_ne}
use Rattle.message.specs.Heard.{Heard}
use Rattle.who.specs.Replay.{heard_in, asked}
use Rattle.who_tables.specs.Table.{Tables, entry_at, refusal_of, filled_with, blank_tables}
use Rattle.who_tables.proofs.Parts.{filled_refused, filled_parts, filled_none}
use Rattle.who_tables.proofs.Tables.{every_address}
use Rattle.c_words.specs.Setup.{settings_from}
use Rattle.c_who.specs.Origins.{LentTables, tables_in}
use Rattle.c_who.proofs.GoOn.{Room, after_again, still_room}
use Rattle.demands.specs.Entry.{Call}
use Rattle.demands.specs.Functions.{ask, fill_tables, entry_at_call, c_who, c_who_fill, c_who_entry}
use Rattle.demands.specs.Filled.{Parts, records_taken, filled_part, exported_part, SameQuestion, SameExportedQuestion}

-- ---- parts one after the other

-- one part more in front: its records where it was taken, none where it was refused
one_part :
    (s s₁ : Settings) (hs ys : List Heard) (n : ℕ) (t t' x : Tables) →
    n ≡ refusal_of s₁ t →
    t' ≡ filled_with s₁ hs t →
    (n ≡ 0 → s₁ ≡ s) →
    t ≡ x →
    filled_with s ys t' ≡ filled_with s (cond (eqb n 0) hs [] ++ ys) x
one_part s s₁ hs ys n t t' x told left same from =
    ⊎_elim
    (λ (z : n ≡ 0). rw (eq-eqb n 0 z, left, same z, from) (filled_parts s hs x ys))
    (λ (m : n ≡ 0 → ⊥).
    let kept : t' ≡ x = left ∙ filled_refused s₁ hs t (λ z. m (told ∙ z)) ∙ from in
    rw (ne_eqb n 0 m, kept))
    (eq_or_ne n 0)

fills_filled :
    (s : Settings) (x y : Tables) (fills : List (Call fill_tables)) →
    Parts s x (map filled_part fills) y →
    y ≡ filled_with s (records_taken (map filled_part fills)) x
fills_filled s x y [] e = e ∙ sym (filled_none s x)
fills_filled s x y (c ∷ cs) k =
    let p = filled_part c in
    fills_filled s p.after y cs k.1.1
    ∙ one_part s p.settings p.heard (records_taken (map filled_part cs)) p.number p.before p.after x
    c.allowed.0 c.allowed.1 k.0 k.1.0

exported_filled :
    (s : Settings) (x y : LentTables) (fills : List (Call c_who_fill)) →
    Room x →
    Parts s x (map exported_part fills) y →
    tables_in y ≡ filled_with s (records_taken (map exported_part fills)) (tables_in x)
exported_filled s x y [] r e = ap (λ (l : LentTables). tables_in l) e ∙ sym (filled_none s (tables_in x))
exported_filled s x y (c ∷ cs) r k =
    let p = exported_part c in
    let room : Room p.before = rw k.1.0 r in
    let again = after_again p.settings p.heard p.before room in
    let further : Room p.after = rw c.allowed.1 (still_room p.settings p.heard p.before room) in
    exported_filled s p.after y cs further k.1.1
    ∙ one_part s p.settings p.heard (records_taken (map exported_part cs)) p.number (tables_in p.before)
    (tables_in p.after) (tables_in x) c.allowed.0 (ap (λ (l : LentTables). tables_in l) c.allowed.1 ∙ again) k.0
    (ap (λ (l : LentTables). tables_in l) k.1.0)

-- ---- the same answer

same_answer :
    (s : Settings) (hs : List Heard) (image : List ℕ) (t : Tables) (a : ℕ) →
    settings_refused s ≡ false →
    length hs < 2 ^ 64 →
    t ≡ filled_with s hs (blank_tables image) →
    entry_at t.numbers t.marks a ≡ (asked s a hs image).at.who
same_answer s hs image t a good few e = rw e (every_address s hs image a good few)

pub entry_is_answer : (fills : List (Call fill_tables)) (e : Call entry_at_call) (q : Call ask) → SameQuestion fills e q → e.back ≡ q.back
entry_is_answer fills e q k =
    let filled = fills_filled k.settings (blank_tables k.image) k.end fills k.filled in
    let same =
    same_answer k.settings (records_taken (map filled_part fills)) k.image k.end e.given.1.1.0 k.allowed
    k.few filled in
    rw (
      e.allowed,
      q.allowed.0,
      k.numbers,
      k.marks,
      k.of_image,
      k.of_settings,
      k.of_address,
      k.of_records,
    )
    same

module _ (fills : List (Call c_who_fill)) (e : Call c_who_entry) (q : Call c_who) (k : SameExportedQuestion fills e q) where
  same_who :
      entry_at e.given.0.now e.given.1.0.now e.given.1.1.0
      ≡ (asked (settings_from q.given.1.0.now) q.given.1.1.0 (heard_in q.given.1.1.1.0.now)
      q.given.0.now).at.who
  same_who =
      let room : Room k.begin = record { remembered = k.remembered_room; records = k.records_room } in
      let filled = exported_filled k.settings k.begin k.end fills room k.filled in
      let same =
      same_answer k.settings (records_taken (map exported_part fills)) k.image (tables_in k.end)
      e.given.1.1.0 k.allowed k.few (rw k.blank at filled) in
      rw (k.numbers, k.marks, k.of_image, k.of_settings, k.of_address, k.of_records) same

  pub exported_entry_is_answer :
      (e.back ≡ q.back)
      × ((e.left.1.1.1.0 ≡ q.left.1.1.1.1.0) × (e.left.1.1.1.1.0 ≡ q.left.1.1.1.1.1.0))
  exported_entry_is_answer = (
    rw (e.allowed.0, q.allowed.0, same_who),
    (
      rw (e.allowed.1.0, q.allowed.1.1.0, same_who, k.last_room),
      rw (e.allowed.1.1, q.allowed.1.1.1, same_who, k.part_room),
    ),
  )
