-- The inputs determine the answer and every lent word: for each public function, any two results that its contract
-- allows are equal. Each line speaks of the contract as the checker reads it (`Reads.Post`), so that none can drift
-- from its function.
use mathlib.Core.Path.{refl}
use Rattle.words.proofs.Settled.{determined, Settled}
use Rattle.message.proofs.Performing.{performed_as-injective}
use Rattle.message.proofs.answer
use Rattle.message.proofs.heard
use Rattle.message.proofs.long
use Rattle.message.proofs.perform
use Rattle.message.proofs.serve

pub accepted_with_settled : Settled 0 answer.accepted_with.Kinds.ps answer.accepted_with.Kinds.r answer.accepted_with.Reads.Post
accepted_with_settled κs a x y v w p q = (determined p q, refl)

-- the answer, and every word of RAM, reply and remembered state
pub message_from_value_settled :
    Settled 2 serve.message_from_value.Kinds.ps serve.message_from_value.Kinds.r serve.message_from_value.Reads.Post
message_from_value_settled κs a x y v w p q =
    let state = determined p.1 q.1 in (
      λ i. record { answer = determined p.0 q.0 i; remembered = (state i).remembered },
      λ i. ((state i).ram, ((state i).reply, v.1.1)),
    )

pub message_from_bytes_settled :
    Settled 3 serve.message_from_bytes.Kinds.ps serve.message_from_bytes.Kinds.r serve.message_from_bytes.Reads.Post
message_from_bytes_settled κs a x y v w p q =
    let state = determined p.1 q.1 in (
      λ i. record { answer = determined p.0 q.0 i; remembered = (state i).remembered },
      λ i. ((state i).ram, ((state i).reply, v.1.1)),
    )

pub perform_settled : Settled 2 perform.perform.Kinds.ps perform.perform.Kinds.r perform.perform.Reads.Post
perform_settled κs a x y v w p q =
    (performed_as-injective _ _ (determined p.0 q.0), λ i. (determined p.1.0 q.1.0 i, (determined p.1.1 q.1.1 i, v.1.1)))

pub perform_value_settled : Settled 2 heard.perform_value.Kinds.ps heard.perform_value.Kinds.r heard.perform_value.Reads.Post
perform_value_settled κs a x y v w p q =
    (determined p.0 q.0, λ i. (determined p.1.0 q.1.0 i, (determined p.1.1 q.1.1 i, v.1.1)))

pub perform_bytes_settled : Settled 3 heard.perform_bytes.Kinds.ps heard.perform_bytes.Kinds.r heard.perform_bytes.Reads.Post
perform_bytes_settled κs a x y v w p q =
    (determined p.0 q.0, λ i. (determined p.1.0 q.1.0 i, (determined p.1.1 q.1.1 i, v.1.1)))

pub message_from_long_settled :
    Settled 3 long.message_from_long.Kinds.ps long.message_from_long.Kinds.r long.message_from_long.Reads.Post
message_from_long_settled κs a x y v w p q =
    let state = determined p.1 q.1 in (
      λ i. record { answer = determined p.0 q.0 i; remembered = (state i).remembered },
      λ i. ((state i).ram, ((state i).reply, v.1.1)),
    )

pub perform_long_settled : Settled 3 long.perform_long.Kinds.ps long.perform_long.Kinds.r long.perform_long.Reads.Post
perform_long_settled κs a x y v w p q =
    (determined p.0 q.0, λ i. (determined p.1.0 q.1.0 i, (determined p.1.1 q.1.1 i, v.1.1)))
