-- The inputs determine the answer: for each public function, any two results that its contract allows are equal.
-- Each line speaks of the contract as the checker reads it (`Reads.Post`), so that none can drift from its function.
use mathlib.Core.Path.{refl}
use Rattle.words.proofs.Settled.{determined, Settled}
use Rattle.modes.proofs.code
use Rattle.modes.proofs.form
use Rattle.modes.proofs.marks
use Rattle.modes.proofs.place
use Rattle.modes.proofs.remembered
use Rattle.modes.proofs.table

pub mode_of_settled : Settled 0 table.mode_of.Kinds.ps table.mode_of.Kinds.r table.mode_of.Reads.Post
mode_of_settled κs a x y v w p q = (determined p q, refl)

pub brings_word_settled : Settled 0 code.brings_word.Kinds.ps code.brings_word.Kinds.r code.brings_word.Reads.Post
brings_word_settled κs a x y v w p q = (determined p q, refl)

pub fetches_word_settled : Settled 0 code.fetches_word.Kinds.ps code.fetches_word.Kinds.r code.fetches_word.Reads.Post
fetches_word_settled κs a x y v w p q = (determined p q, refl)

pub mode_words_settled : Settled 0 code.mode_words.Kinds.ps code.mode_words.Kinds.r code.mode_words.Reads.Post
mode_words_settled κs a x y v w p q = (determined p q, refl)

pub recalls_settled : Settled 0 code.recalls.Kinds.ps code.recalls.Kinds.r code.recalls.Reads.Post
recalls_settled κs a x y v w p q = (determined p q, refl)

pub is_defined_settled : Settled 0 form.is_defined.Kinds.ps form.is_defined.Kinds.r form.is_defined.Reads.Post
is_defined_settled κs a x y v w p q = (determined p q, refl)

pub mode_place_settled : Settled 0 place.mode_place.Kinds.ps place.mode_place.Kinds.r place.mode_place.Reads.Post
mode_place_settled κs a x y v w p q = (determined p q, refl)

pub marks_after_settled : Settled 0 marks.marks_after.Kinds.ps marks.marks_after.Kinds.r marks.marks_after.Reads.Post
marks_after_settled κs a x y v w p q = (determined p q, refl)

pub no_marks_settled : Settled 0 remembered.no_marks.Kinds.ps remembered.no_marks.Kinds.r remembered.no_marks.Reads.Post
no_marks_settled κs a x y v w p q = (determined p q, refl)

pub is_shut_settled : Settled 0 remembered.is_shut.Kinds.ps remembered.is_shut.Kinds.r remembered.is_shut.Reads.Post
is_shut_settled κs a x y v w p q = (determined p q, refl)

pub with_other_bus_settled : Settled 0 remembered.with_other_bus.Kinds.ps remembered.with_other_bus.Kinds.r remembered.with_other_bus.Reads.Post
with_other_bus_settled κs a x y v w p q = (determined p q, refl)

pub with_inhibit_settled : Settled 0 remembered.with_inhibit.Kinds.ps remembered.with_inhibit.Kinds.r remembered.with_inhibit.Reads.Post
with_inhibit_settled κs a x y v w p q = (determined p q, refl)
