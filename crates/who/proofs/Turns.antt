-- Replaying records one after the other: in parts, and one record more.
use Prim.Native.Nat.{ℕ, ◌+◌}
use native.Mathlib.Numerals.{add-one}
use mathlib.Core.Path.{◌≡◌, refl}
use mathlib.Core.List.{List, [], ◌∷◌, ◌++◌}
use Rattle.words.specs.declared.settings.Settings.{Settings}
use Rattle.message.specs.Heard.{Heard, heard_bytes}
use Rattle.trace.specs.Walk.{record_at}
use Rattle.who.specs.Replay.{heard_to, Replay, replay_record, replay}

-- two lists of records one after the other
pub replay_append :
    (s : Settings) (a : ℕ) (hs ys : List Heard) (w : Replay) → replay s a (hs ++ ys) w ≡ replay s a ys (replay s a hs w)
unfolding replay
replay_append s a [] ys w = refl
replay_append s a (h ∷ hs) ys w = replay_append s a hs ys (replay_record s a h w)

pub replay_more :
    (s : Settings) (a : ℕ) (trace : List ℕ) (n : ℕ) (w : Replay) →
    replay s a (heard_to trace (n + 1)) w
    ≡ replay_record s a (heard_bytes (record_at trace n)) (replay s a (heard_to trace n) w)
unfolding replay heard_to
replay_more s a trace n w = rw add-one (replay_append s a (heard_to trace n) (heard_bytes (record_at trace n) ∷ []) w)
