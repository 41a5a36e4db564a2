-- Long records: their reader's number is that of the record's tests; and one whose last twelve bytes are zero is heard as
-- its first 80, so that what holds of those holds of it.
use Prim.Native.Nat.{ℕ}
use mathlib.Core.Path.{◌≡◌, refl, sym, ap}
use mathlib.Core.Bool.{Bool, true, false, ◌||◌}
use mathlib.Core.List.{List}
use lib.ListN.{length}
use borrow.Author.Tests.{eq-eqb}
use Rattle.words.specs.declared.settings.Settings.{Settings}
use Rattle.words.specs.Refusal.{first_of}
use Rattle.memory.specs.State.{State}
use Rattle.layout.specs.Layout.{breaks_layout}
use Rattle.layout_long.specs.Long.{old_part, end_zero, breaks_long, long_refusal, read_old}
use Rattle.layout_long.proofs.Cases.{old_long, old_number}
use Rattle.message.specs.Heard.{Heard, heard_bytes, heard_long}
use Rattle.message.specs.Tests.{record_tests}
use Rattle.message.specs.Message.{answer_of, step}

pub long_record_number : (bytes : List ℕ) → first_of (record_tests (heard_long bytes)) ≡ (read_old bytes).number
unfolding long_refusal
long_record_number bytes = sym (old_number bytes)

or_none : (a : Bool) → (a || false) ≡ a
or_none true = refl
or_none false = refl

-- where nothing but the old part can break the layout, nothing else is heard
pub heard_as_old :
    (bytes : List ℕ) → length bytes ≡ 96 → end_zero bytes ≡ true → heard_long bytes ≡ heard_bytes (old_part bytes)
unfolding breaks_long
heard_as_old bytes h e =
    rw (eq-eqb (length bytes) 96 h, eq-eqb (length (old_part bytes)) 80 (old_long bytes h), e, or_none (breaks_layout (old_part bytes)))

-- the message is that of the first 80 bytes, in its answer and in every lent word
pub record SameAsOld (s : Settings) (bytes : List ℕ) (x : State) : Type 0 where
  pub answer : answer_of s (heard_long bytes) x ≡ answer_of s (heard_bytes (old_part bytes)) x
  pub after : step s (heard_long bytes) x ≡ step s (heard_bytes (old_part bytes)) x

pub same_as_old :
    (s : Settings) (bytes : List ℕ) (x : State) → length bytes ≡ 96 → end_zero bytes ≡ true → SameAsOld s bytes x
same_as_old s bytes x h e =
    let same = heard_as_old bytes h e in
    record {
      answer = ap (λ (k : Heard). answer_of s k x) same;
      after = ap (λ (k : Heard). step s k x) same;
    }
