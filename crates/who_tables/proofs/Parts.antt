-- A trace in parts fills the tables as the whole does, and a refused part leaves no trace.
use mathlib.Core.Path.{◌≡◌, refl, sym, ◌∙◌}
use mathlib.Core.Logic.{⊎_elim}
use mathlib.Core.List.{List, [], ◌∷◌, ◌++◌}
use lib.ListN.{length}
use borrow.Author.Tests.{eq-eqb, ne_eqb}
use Rattle.words.specs.declared.settings.Settings.{Settings}
use Rattle.words.proofs.Basics.{eq_or_ne}
use Rattle.memory.proofs.Writes.{length_apply}
use Rattle.message.specs.Heard.{Heard}
use Rattle.who.proofs.Alike.{writes_made}
use Rattle.who_tables.specs.Table.{Tables, terminal_at, fill_record, fill_all, refusal_of, filled_with}

-- two lists of records one after the other
pub fill_append : (s : Settings) (hs ys : List Heard) (t : Tables) → fill_all s (hs ++ ys) t ≡ fill_all s ys (fill_all s hs t)
unfolding fill_all
fill_append s [] ys t = refl
fill_append s (h ∷ hs) ys t = fill_append s hs ys (fill_record s h t)

-- ---- records keep every length

pub record SameLengths (t u : Tables) : Type 0 where
  pub ram : length u.ram ≡ length t.ram
  pub numbers : length u.numbers ≡ length t.numbers
  pub marks : length u.marks ≡ length t.marks

record_lengths : (s : Settings) (h : Heard) (t : Tables) → SameLengths t (fill_record s h t)
unfolding fill_record
record_lengths s h t =
    record { ram = rw (writes_made s h (terminal_at t), length_apply); numbers = rw length_apply; marks = rw length_apply }

pub all_lengths : (s : Settings) (hs : List Heard) (t : Tables) → SameLengths t (fill_all s hs t)
unfolding fill_all
all_lengths s [] t = record { ram = refl; numbers = refl; marks = refl }
all_lengths s (h ∷ hs) t =
    let one = record_lengths s h t in
    let rest = all_lengths s hs (fill_record s h t) in
    record {
      ram = rest.ram ∙ one.ram;
      numbers = rest.numbers ∙ one.numbers;
      marks = rest.marks ∙ one.marks;
    }

-- ---- a part, refused or not

module _ (s : Settings) (hs : List Heard) (t : Tables) where
  pub filled_done : refusal_of s t ≡ 0 → filled_with s hs t ≡ fill_all s hs t
  unfolding filled_with
  filled_done z = rw (eq-eqb (refusal_of s t) 0 z)

  pub filled_refused : (refusal_of s t ≡ 0 → ⊥) → filled_with s hs t ≡ t
  unfolding filled_with
  filled_refused m = rw (ne_eqb (refusal_of s t) 0 m)

  still_refused : refusal_of s (fill_all s hs t) ≡ refusal_of s t
  still_refused =
      let k = all_lengths s hs t in
      rw (k.ram, k.numbers, k.marks)

  pub filled_parts : (ys : List Heard) → filled_with s ys (filled_with s hs t) ≡ filled_with s (hs ++ ys) t
  unfolding filled_with
  filled_parts ys =
      let n = refusal_of s t in
      ⊎_elim
      (λ (z : n ≡ 0). rw (eq-eqb n 0 z, still_refused, eq-eqb n 0 z) (sym (fill_append s hs ys t)))
      (λ (m : n ≡ 0 → ⊥). rw (ne_eqb n 0 m, ne_eqb n 0 m))
      (eq_or_ne n 0)

-- no records
pub filled_none : (s : Settings) (t : Tables) → filled_with s [] t ≡ t
unfolding filled_with fill_all
filled_none s t =
    let n = refusal_of s t in
    ⊎_elim (λ (z : n ≡ 0). rw (eq-eqb n 0 z)) (λ (m : n ≡ 0 → ⊥). rw (ne_eqb n 0 m)) (eq_or_ne n 0)
