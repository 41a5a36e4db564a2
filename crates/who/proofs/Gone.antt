-- A part of a trace, case by case: an answer that is a refusal already, a part that is refused, one that is replayed.
use Prim.Native.Nat.{ℕ}
use mathlib.Core.Path.{◌≡◌, refl}
use mathlib.Core.List.{List, [], ◌∷◌}
use lib.ListN.{length}
use borrow.Author.Tests.{eq-eqb, ne_eqb}
use Rattle.words.specs.declared.settings.Settings.{Settings}
use Rattle.message.specs.Heard.{Heard}
use Rattle.message.specs.Message.{plan_for}
use Rattle.trace.specs.Walk.{next_number}
use Rattle.who_origin.specs.declared.origin.Who.{Who}
use Rattle.who_origin.specs.declared.origin.Who.TheVariants.{Refused, AsInImage, Written}
use Rattle.writes.specs.Asked.{Planned, planned}
use Rattle.who_origin.specs.Origin.{written}
use Rattle.who_origin.proofs.Last.{last_holds}
use Rattle.who.specs.Tests.{who_refusal}
use Rattle.who.specs.Next.{list_in, who_next}
use Rattle.who.specs.Values.{values_of}
use Rattle.who.specs.Replay.{Replay, terminal_in, replay_record, replay, refused_at, gone_on}

-- an answer with a number is that refusal
pub refusal_told : (w : Who) → ((values_of w).number ≡ 0 → ⊥) → w ≡ Refused (values_of w).number
unfolding values_of
refusal_told (Refused number) m = refl
refusal_told AsInImage m = absurd (m refl)
refusal_told (Written origin) m = absurd (m refl)

-- an answer that is no refusal is none after more records
pub still_told :
    (s : Settings) (a : ℕ) (hs : List Heard) (w : Replay) →
    (values_of w.at.who).number ≡ 0 →
    (values_of (replay s a hs w).at.who).number ≡ 0
unfolding replay replay_record who_next values_of
still_told s a [] w z = z
still_told s a (h ∷ hs) w z =
    let x = terminal_in w in
    let cell = (plan_for s h.value x).deed.cell in
    still_told s a hs (replay_record s a h w)
    (last_holds (λ (p : Planned). written (next_number w.at.number) cell p.part) a (λ (who : Who). (values_of who).number ≡ 0)
    (λ p. refl) (list_in planned s h x) w.at.who z)

module _ (s : Settings) (a : ℕ) (hs : List Heard) (w : Replay) where
  abbrev before : ℕ
  before = (values_of w.at.who).number

  abbrev number : ℕ
  number = who_refusal (length w.ram) s a

  pub handed_back_lem : (before ≡ 0 → ⊥) → gone_on s a hs w ≡ w
  unfolding gone_on
  handed_back_lem m = rw (ne_eqb before 0 m)

  pub part_refused : before ≡ 0 → (number ≡ 0 → ⊥) → gone_on s a hs w ≡ refused_at number w
  unfolding gone_on
  part_refused z m = rw (eq-eqb before 0 z, ne_eqb number 0 m)

  pub part_replayed : before ≡ 0 → number ≡ 0 → gone_on s a hs w ≡ replay s a hs w
  unfolding gone_on
  part_replayed z e = rw (eq-eqb before 0 z, eq-eqb number 0 e)

-- a refusal's number
pub refused_number : (n : ℕ) (w : Replay) → (values_of (refused_at n w).at.who).number ≡ n
unfolding refused_at values_of
refused_number n w = refl
