-- Words put behind those of a value.
use Prim.Native.Nat.{ℕ}
use mathlib.Core.Path.{◌≡◌}
use mathlib.Core.List.{List, [], ◌∷◌}
use lib.ListN.{length, set, length-append}
use Rattle.words.proofs.Runs.{sets_append}
use Rattle.records.specs.declared.value.Record.{Record}
use Rattle.c_words.specs.Over.{over}
use Rattle.layout_long.specs.declared.value.LongRecord.{LongRecord}
use Rattle.c_words_messages.specs.Values.{value_words}
use Rattle.c_words_long.specs.LongValues.{long_words}

value_long : (v : Record) → length v.words ≡ 32 → length (value_words v) ≡ 37
unfolding value_words
value_long v h = rw (length-append v.words (v.transmit_command ∷ []), h)

-- the value's 37 words, and then two
pub long_put :
    (xs : List ℕ) (v : LongRecord) → length v.old.words ≡ 32 →
    (a b c : List ℕ) → a ≡ over xs (value_words v.old) → b ≡ set a 37 v.upper → c ≡ set b 38 v.member →
    c ≡ over xs (long_words v)
unfolding long_words
long_put xs v h a b c p q r =
    let e = sets_append xs (value_words v.old) (v.upper ∷ v.member ∷ []) 0 in
    let f = rw (value_long v.old h) at e in
    rw (r, q, p) f
