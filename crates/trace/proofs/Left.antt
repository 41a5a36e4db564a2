-- What an iterator over the records of a trace has left: each chunk is the next record, and where less than one record is
-- left all are taken.
use Rattle.std.proofs.Common.{◌≡◌, ℕ, ◌+◌, ◌-◌, ◌*◌, ◌<◌, ◌≤◌, List, ◌++◌, length, drop, refl, ◌∙◌, arith, length-append, length-drop, take_at, drop_at}
use Rattle.std.proofs.lemmas.List.{drop-drop}
use Rattle.trace.specs.Walk.{record_at, whole_records}

-- n records are taken, and the rest is left
pub record RecordsLeft (trace : List ℕ) (n : ℕ) (left : List ℕ) (size : ℕ) : Type 0 where
  pub within : 80 * n ≤ length trace
  pub rest : left ≡ drop (80 * n) trace
  pub long : size ≡ 80

pub all_left : (trace : List ℕ) → RecordsLeft trace 0 trace 80
all_left trace = record { within = omega arith; rest = refl; long = refl }

module _ {trace left : List ℕ} {n size : ℕ} (h : RecordsLeft trace n left size) where
  -- a chunk is the next record
  pub next_record : (bytes left₁ : List ℕ) → left ≡ bytes ++ left₁ → length bytes ≡ size → bytes ≡ record_at trace n
  next_record bytes left₁ e l = rw (← h.rest, e, take_at bytes left₁ 80 (l ∙ h.long))

  -- and leaves the rest
  pub fewer_left :
      (bytes left₁ : List ℕ) (size₁ : ℕ) →
      left ≡ bytes ++ left₁ →
      length bytes ≡ size →
      size₁ ≡ size →
      RecordsLeft trace (n + 1) left₁ size₁
  fewer_left bytes left₁ size₁ e l same =
      let eighty = l ∙ h.long in
      let long : length bytes + length left₁ ≡ length trace - 80 * n = rw (← length-append, ← e, h.rest, length-drop) in
      let further : drop 80 (drop (80 * n) trace) ≡ drop (80 * (n + 1)) trace =
      let place : 80 * n + 80 ≡ 80 * (n + 1) = omega arith in
      rw (drop-drop, place) in
      record {
        within = omega (arith, eighty, h.within, long);
        rest = rw (← further, ← h.rest, e, drop_at bytes left₁ 80 eighty);
        long = same ∙ h.long;
      }

  -- less than a record is left: all are taken
  pub none_left : length left < size → n ≡ whole_records trace
  none_left s =
      let long : length left ≡ length trace - 80 * n = rw (h.rest, length-drop) in
      omega (arith, h.long, h.within, long)
