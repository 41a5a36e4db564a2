-- The answer is right: the theorem of request 10.
use Prim.Native.Nat.{ℕ, ◌+◌, ◌%◌, ◌^◌, ◌<◌}
use native.Mathlib.Omega.{arith}
use mathlib.Core.Path.{◌≡◌, refl, ap, ◌∙◌}
use mathlib.Core.Logic.{◌⊎◌, inl, inr, ⊎_elim}
use mathlib.Core.List.{List, [], ◌∷◌}
use lib.ListN.{length, get_or}
use borrow.Author.Tests.{eq-eqb, ne_eqb, leb-false}
use Rattle.words.specs.declared.settings.Settings.{Settings}
use Rattle.words.specs.Number.{address_beyond}
use Rattle.words.proofs.Basics.{eq_or_ne}
use Rattle.words.proofs.Refusals.{accepted}
use Rattle.memory.specs.State.{State}
use Rattle.memory.proofs.Writes.{length_apply}
use Rattle.writes.specs.Asked.{Planned, planned, as_write}
use Rattle.message.specs.Heard.{Heard}
use Rattle.message.specs.Tests.{refusal_for}
use Rattle.message.specs.Message.{plan_for, step}
use Rattle.message.specs.Run.{run}
use Rattle.trace.specs.Walk.{next_number}
use Rattle.who_origin.specs.declared.origin.Origin.{Origin}
use Rattle.who_origin.specs.declared.origin.Who.{Who}
use Rattle.who_origin.specs.declared.origin.Who.TheVariants.{AsInImage, Written}
use Rattle.who_origin.specs.Origin.{names_not, LastNaming, written}
use Rattle.who.specs.Next.{list_in, who_next}
use Rattle.who.specs.Tests.{who_tests, who_refusal}
use Rattle.who.specs.Values.{values_of}
use Rattle.who.specs.Replay.{Replay, replay_of, terminal_in, replay_record, replay, beginning, refused_at, asked}
use Rattle.who.specs.Answered.{terminal_with, none_writes, Named, Answered}
use Rattle.who_origin.proofs.Last.{names_or_not, none_named, each_last, last_none, last_found, put_last, put_none}
use Rattle.who.proofs.Listed.{asked_in, DataOf, data_words}
use Rattle.who.proofs.Gone.{part_refused, part_replayed}
use Rattle.who.proofs.Alike.{Alike, writes_made, plan_alike, list_alike, record_alike, replay_alike}

-- ---- records, one after the other

module _ (s : Settings) (a : ℕ) where
  -- an address that no record writes keeps its word
  pub none_kept : (hs : List Heard) (x : State) → none_writes s a x hs → get_or (run s hs x).ram a 0 ≡ get_or x.ram a 0
  unfolding run
  none_kept [] x n = refl
  none_kept (h ∷ hs) x n =
      none_kept hs (step s h x) n.1
      ∙ rw (writes_made s h x, asked_in as_write s h x) (put_none (λ (w : Planned). w.word) a (list_in planned s h x) x.ram n.0)

  length_kept : (h : Heard) (x : State) → length (step s h x).ram ≡ length x.ram
  length_kept h x = rw (writes_made s h x, length_apply)

  module _ (h : Heard) (x : State) (l : LastNaming a (list_in planned s h x)) where
    -- a record that writes is accepted
    writer_accepted : refusal_for s h x ≡ 0
    unfolding list_in
    writer_accepted =
        ⊎_elim
        (λ (z : refusal_for s h x ≡ 0). z)
        (λ (m : refusal_for s h x ≡ 0 → ⊥). absurd (none_named a (rw (ne_eqb (refusal_for s h x) 0 m) at l)))
        (eq_or_ne (refusal_for s h x) 0)

    writer_word : DataOf h.value.words l.it
    unfolding list_in
    writer_word =
        each_last (DataOf h.value.words) a (list_in planned s h x)
        (rw (eq-eqb (refusal_for s h x) 0 writer_accepted) (data_words s (plan_for s h.value x) h.value))
        l

    abbrev origin : ℕ → Origin
    origin n =
        record { number = (n + 1) % 2 ^ 64; cell = (plan_for s h.value x).deed.cell; part = l.it.part }

    -- the first record of a list is the last that writes there
    named_here :
        (n : ℕ) (hs : List Heard) → a < length x.ram → none_writes s a (step s h x) hs → Named s a x n (h ∷ hs) (origin n)
    unfolding run
    named_here n hs room none =
        let word : Planned → ℕ = λ w. w.word in
        let ws = list_in planned s h x in
        let shown : get_or (step s h x).ram a 0 ≡ l.it.word =
        rw (writes_made s h x, asked_in as_write s h x) (put_last word a ws x.ram room ∙ last_found word a ws (get_or x.ram a 0) l) in
        record {
          earlier = [];
          it = h;
          later = hs;
          splits = refl;
          number = omega arith;
          accepted = writer_accepted;
          cell = refl;
          write = l;
          part = refl;
          shows = shown;
          word = λ k e. shown ∙ writer_word k e;
          nobody = none;
          stays = none_kept hs (step s h x) none;
        }

  -- one record more in front
  named_further :
      (h : Heard) (x : State) (n : ℕ) (hs : List Heard) (o : Origin) →
      Named s a (step s h x) ((n + 1) % 2 ^ 64) hs o →
      Named s a x n (h ∷ hs) o
  unfolding run
  named_further h x n hs o k =
      record {
        earlier = h ∷ k.earlier;
        it = k.it;
        later = k.later;
        splits = ap (λ (l : List Heard). h ∷ l) k.splits;
        number = omega (arith, k.number);
        accepted = k.accepted;
        cell = k.cell;
        write = k.write;
        part = k.part;
        shows = k.shows;
        word = k.word;
        nobody = k.nobody;
        stays = k.stays;
      }

  -- an answer that was given by a record of the list
  record Told (x : State) (n : ℕ) (hs : List Heard) (who : Who) : Type 0 where
    pub origin : Origin
    pub is : who ≡ Written origin
    pub named : Named s a x n hs origin

  -- the answer after a record that does not write there, and after one that does
  who_same :
      (h : Heard) (w : Replay) (x : State) → Alike w x → names_not a (list_in planned s h x) → (replay_record s a h w).at.who ≡ w.at.who
  unfolding replay_record who_next
  who_same h w x k n =
      let cell = (plan_for s h.value (terminal_in w)).deed.cell in
      let says : Planned → Who = λ p. written (next_number w.at.number) cell p.part in
      rw (list_alike s w x k planned h) (last_none says a (list_in planned s h x) w.at.who n)

  who_new :
      (h : Heard) (w : Replay) (x : State) → Alike w x → (l : LastNaming a (list_in planned s h x)) →
      (replay_record s a h w).at.who ≡ Written (origin h x l w.at.number)
  unfolding replay_record who_next
  who_new h w x k l =
      let cell = (plan_for s h.value x).deed.cell in
      let says : Planned → Who = λ p. written (next_number w.at.number) cell p.part in
      rw (list_alike s w x k planned h, plan_alike s w x k h.value) (last_found says a (list_in planned s h x) w.at.who l)

  told_further :
      (h : Heard) (hs : List Heard) (w : Replay) (x : State) (who : Who) →
      Told (step s h x) (replay_record s a h w).at.number hs who →
      Told x w.at.number (h ∷ hs) who
  unfolding replay_record
  told_further h hs w x who t =
      record {
        origin = t.origin;
        is = t.is;
        named = named_further h x w.at.number hs t.origin t.named;
      }

  told :
      (hs : List Heard) (w : Replay) (x : State) →
      Alike w x →
      a < length x.ram →
      (none_writes s a x hs × ((replay s a hs w).at.who ≡ w.at.who)) ⊎ Told x w.at.number hs (replay s a hs w).at.who
  unfolding replay
  told [] w x k l = inl (tt, refl)
  told (h ∷ hs) w x k l =
      let l' : a < length (step s h x).ram = rw (length_kept h x) l in
      ⊎_elim
      (λ (n : none_writes s a (step s h x) hs × ((replay s a hs (replay_record s a h w)).at.who ≡ (replay_record s a h w).at.who)).
      ⊎_elim
      (λ (z : names_not a (list_in planned s h x)). inl ((z, n.0), n.1 ∙ who_same h w x k z))
      (λ (m : LastNaming a (list_in planned s h x)).
      inr
      (record {
        origin = origin h x m w.at.number;
        is = n.1 ∙ who_new h w x k m;
        named = named_here h x m w.at.number hs l n.0;
      }))
      (names_or_not a (list_in planned s h x)))
      (λ t. inr (told_further h hs w x (replay s a hs (replay_record s a h w)).at.who t))
      (told hs (replay_record s a h w) (step s h x) (record_alike s w x k a h) l')

  -- where no record writes there, the answer is what it was
  none_same :
      (hs : List Heard) (w : Replay) (x : State) → Alike w x → none_writes s a x hs → (replay s a hs w).at.who ≡ w.at.who
  unfolding replay
  none_same [] w x k n = refl
  none_same (h ∷ hs) w x k n =
      none_same hs (replay_record s a h w) (step s h x) (record_alike s w x k a h) n.1 ∙ who_same h w x k n.0

-- ---- the question

module _ (s : Settings) (a : ℕ) (hs : List Heard) (image : List ℕ) where
  abbrev first : Replay
  first = replay_of image beginning

  first_alike : Alike first (terminal_with image)
  unfolding beginning
  first_alike = record { ram = refl; remembered = refl; room = refl }

  -- "as in the image" is no refusal
  pub first_told : (values_of first.at.who).number ≡ 0
  unfolding beginning values_of
  first_told = refl

  module _ (z : who_refusal (length image) s a ≡ 0) where
    all_replayed : asked s a hs image ≡ replay s a hs first
    unfolding asked
    all_replayed = part_replayed s a hs first first_told z

    pub inside : a < length image
    unfolding who_refusal
    inside = leb-false (length image) a (accepted (who_tests (length image) s a) refl z address_beyond)

    outcome :
        (none_writes s a (terminal_with image) hs × ((asked s a hs image).at.who ≡ AsInImage))
        ⊎ Told s a (terminal_with image) 0 hs (asked s a hs image).at.who
    unfolding beginning
    outcome = rw all_replayed (told s a hs first (terminal_with image) first_alike inside)

    by_record : (o : Origin) → (asked s a hs image).at.who ≡ Written o → Named s a (terminal_with image) 0 hs o
    by_record o e =
        ⊎_elim
        (λ n. let f = n.1 in let one : ◌≡◌ {A = ℕ} 0 1 = cc in absurd (omega arith))
        (λ t. let f = t.is in let q : t.origin ≡ o = cc in rw q at t.named)
        outcome

    by_nobody : (asked s a hs image).at.who ≡ AsInImage → none_writes s a (terminal_with image) hs
    by_nobody e =
        ⊎_elim (λ n. n.0) (λ t. let f = t.is in let one : ◌≡◌ {A = ℕ} 0 1 = cc in absurd (omega arith)) outcome

    nobody_told : none_writes s a (terminal_with image) hs → (asked s a hs image).at.who ≡ AsInImage
    unfolding beginning
    nobody_told n = rw all_replayed (none_same s a hs first (terminal_with image) first_alike n)

  asked_refused :
      (who_refusal (length image) s a ≡ 0 → ⊥) → asked s a hs image ≡ refused_at (who_refusal (length image) s a) first
  unfolding asked
  asked_refused m = part_refused s a hs first first_told m

  asked_number : (values_of (asked s a hs image).at.who).number ≡ who_refusal (length image) s a
  unfolding values_of refused_at
  asked_number =
      ⊎_elim
      (λ (z : who_refusal (length image) s a ≡ 0). ⊎_elim (λ n. rw (n.1, z)) (λ t. rw (t.is, z)) (outcome z))
      (λ (m : who_refusal (length image) s a ≡ 0 → ⊥). rw (asked_refused m))
      (eq_or_ne (who_refusal (length image) s a) 0)

  -- "Who put this word here": the answer says all that request 10 asks
  pub who_put_this_here : Answered s a hs image
  who_put_this_here =
      record {
        refused = asked_refused;
        number = asked_number;
        replayed = λ z. rw (all_replayed z) (replay_alike s a hs first (terminal_with image) first_alike).ram;
        named = λ o z e. by_record z o e;
        untouched = λ z. (by_nobody z, nobody_told z);
        kept = none_kept s a hs (terminal_with image);
      }
