-- A trace in parts gives the answer of the whole: first a whole number of records, then the rest.
use Prim.Native.Nat.{ℕ, zero, suc, ◌+◌, ◌*◌, ◌/◌, ◌%◌, ◌≤◌}
use native.Mathlib.Nat.{add-zero, add-suc}
use native.Mathlib.Omega.{arith}
use mathlib.Core.Path.{◌≡◌, refl, sym, ◌∙◌}
use mathlib.Core.Logic.{⊎_elim}
use mathlib.Core.List.{List, [], ◌∷◌, ◌++◌, append-nil, append_assoc}
use lib.ListN.{length}
use Rattle.words.specs.declared.settings.Settings.{Settings}
use Rattle.words.proofs.Basics.{eq_or_ne}
use Rattle.memory.proofs.Writes.{length_apply}
use Rattle.message.specs.Heard.{Heard}
use Rattle.trace.specs.Output.{refilled, WholeRefills}
use Rattle.trace.proofs.Chunks.{record_first, record_second, whole_append}
use Rattle.who.specs.Tests.{who_refusal}
use Rattle.who.specs.Values.{values_of}
use Rattle.who.specs.Replay.{heard_to, heard_in, Replay, terminal_in, replay_record, replay, refused_at, gone_on, gone_through}
use Rattle.who.proofs.Turns.{replay_append}
use Rattle.who.proofs.Alike.{writes_made}
use Rattle.who.proofs.Gone.{still_told, handed_back_lem, part_refused, part_replayed, refused_number}

-- ---- the records of a trace

heard_first : (xs ys : List ℕ) (n : ℕ) → 80 * n ≤ length xs → heard_to (xs ++ ys) n ≡ heard_to xs n
unfolding heard_to
heard_first xs ys zero h = refl
heard_first xs ys (suc n) h = rw (record_first xs ys n h, heard_first xs ys n (omega arith))

heard_both : (xs ys : List ℕ) (m n : ℕ) → length xs ≡ 80 * m → heard_to (xs ++ ys) (m + n) ≡ heard_to xs m ++ heard_to ys n
unfolding heard_to
heard_both xs ys m zero h = rw (add-zero, append-nil) (heard_first xs ys m (omega arith))
heard_both xs ys m (suc n) h = rw (add-suc, record_second xs ys m n h, heard_both xs ys m n h, append_assoc)

pub heard_append : (xs ys : List ℕ) → length xs % 80 ≡ 0 → heard_in (xs ++ ys) ≡ heard_in xs ++ heard_in ys
unfolding heard_in
heard_append xs ys h = rw (whole_append xs ys h) (heard_both xs ys (length xs / 80) (length ys / 80) (omega arith))

-- ---- the answer

record_length_lem : (s : Settings) (a : ℕ) (h : Heard) (w : Replay) → length (replay_record s a h w).ram ≡ length w.ram
unfolding replay_record
record_length_lem s a h w = rw (writes_made s h (terminal_in w), length_apply)

replay_length : (s : Settings) (a : ℕ) (hs : List Heard) (w : Replay) → length (replay s a hs w).ram ≡ length w.ram
unfolding replay
replay_length s a [] w = refl
replay_length s a (h ∷ hs) w = replay_length s a hs (replay_record s a h w) ∙ record_length_lem s a h w

-- two lists of records one after the other
gone_append :
    (s : Settings) (a : ℕ) (hs ys : List Heard) (w : Replay) → gone_on s a (hs ++ ys) w ≡ gone_on s a ys (gone_on s a hs w)
gone_append s a hs ys w =
    let before = (values_of w.at.who).number in
    let n = who_refusal (length w.ram) s a in
    ⊎_elim
    (λ (b : before ≡ 0).
    ⊎_elim
    (λ (z : n ≡ 0).
    let r = replay s a hs w in
    let first = part_replayed s a hs w b z in
    let long : who_refusal (length r.ram) s a ≡ 0 = rw (replay_length s a hs w) z in
    let second = part_replayed s a ys r (still_told s a hs w b) long in
    rw (first, second, part_replayed s a (hs ++ ys) w b z) (replay_append s a hs ys w))
    (λ (m : n ≡ 0 → ⊥).
    let told = refused_number n w in
    let second = handed_back_lem s a ys (refused_at n w) (λ z. m (sym told ∙ z)) in
    rw (part_refused s a hs w b m, second, part_refused s a (hs ++ ys) w b m))
    (eq_or_ne n 0))
    (λ (m : before ≡ 0 → ⊥).
    rw (handed_back_lem s a hs w m, handed_back_lem s a ys w m, handed_back_lem s a (hs ++ ys) w m))
    (eq_or_ne before 0)

-- two parts of a trace
pub gone_on_parts :
    (s : Settings) (a : ℕ) (xs ys : List ℕ) (w : Replay) →
    length xs % 80 ≡ 0 →
    gone_on s a (heard_in (xs ++ ys)) w ≡ gone_on s a (heard_in ys) (gone_on s a (heard_in xs) w)
gone_on_parts s a xs ys w h = rw (heard_append xs ys h) (gone_append s a (heard_in xs) (heard_in ys) w)

-- a trace of any length, in refills of whole records and a rest
pub in_refills :
    (s : Settings) (a : ℕ) (fulls : List (List ℕ)) (rest : List ℕ) (w : Replay) →
    WholeRefills fulls →
    gone_through s a fulls rest w ≡ gone_on s a (heard_in (refilled fulls rest)) w
unfolding gone_through refilled WholeRefills
in_refills s a [] rest w h = refl
in_refills s a (full ∷ fulls) rest w h =
    rw (gone_on_parts s a full (refilled fulls rest) w h.0)
    (in_refills s a fulls rest (gone_on s a (heard_in full) w) h.1)
