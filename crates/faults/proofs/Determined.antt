-- The inputs determine the answer: for each public function, any two results that its contract allows are equal.
-- Each line speaks of the contract as the checker reads it (`Reads.Post`), so that none can drift from its function.
use mathlib.Core.Path.{refl}
use Rattle.words.proofs.Settled.{determined, Settled}
use Rattle.faults.proofs.fault

pub faults_of_settled : Settled 0 fault.faults_of.Kinds.ps fault.faults_of.Kinds.r fault.faults_of.Reads.Post
faults_of_settled κs a x y v w p q = (determined p q, refl)

pub at_fault_settled : Settled 0 fault.at_fault.Kinds.ps fault.at_fault.Kinds.r fault.at_fault.Reads.Post
at_fault_settled κs a x y v w p q = (determined p q, refl)

pub expected_words_settled : Settled 0 fault.expected_words.Kinds.ps fault.expected_words.Kinds.r fault.expected_words.Reads.Post
expected_words_settled κs a x y v w p q = (determined p q, refl)

pub faults_for_settled : Settled 0 fault.faults_for.Kinds.ps fault.faults_for.Kinds.r fault.faults_for.Reads.Post
faults_for_settled κs a x y v w p q = (determined p q, refl)

pub told_fault_settled : Settled 0 fault.told_fault.Kinds.ps fault.told_fault.Kinds.r fault.told_fault.Reads.Post
told_fault_settled κs a x y v w p q = (determined p q, refl)
