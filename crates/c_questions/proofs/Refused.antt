-- A record that is not written: zeros go over what is lent.
use mathlib.Core.Path.{◌≡◌}
use mathlib.Core.Logic.{⊎_elim}
use mathlib.Core.List.{List}
use Prim.Native.Nat.{ℕ}
use lib.Dec.{eqb}
use Rattle.words.proofs.Basics.{yes_or_no}
use Rattle.records.specs.declared.value.Record.{Record}
use Rattle.layout.specs.Writing.{writer_refusal, write_record}
use Rattle.c_words.specs.Over.{over, zeros_over, record_bytes}

pub write_refused :
    (v : Record) (xs : List ℕ) → ((write_record v).number ≡ 0 → ⊥) → over xs (write_record v).bytes ≡ zeros_over xs record_bytes
unfolding write_record
write_refused v xs m =
    ⊎_elim (λ b. absurd (m (rw b))) (λ b. rw b) (yes_or_no (eqb (writer_refusal v) 0))
