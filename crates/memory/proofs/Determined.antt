-- The inputs determine the answer and every lent word: for each public function, any two results that its contract
-- allows are equal. Each line speaks of the contract as the checker reads it (`Reads.Post`), so that none can drift
-- from its function.
use mathlib.Core.Path.{refl}
use mir.Syntax.{Dict}
use denote.RattleType.{RattleType}
use Rattle.std.specs.declared.clone.Clone
use denote.Param.Laws.{Laws, IsCopy}
use Rattle.words.proofs.Settled.{determined, Settled}
use Rattle.memory.proofs.kind
use Rattle.memory.proofs.map
use Rattle.memory.proofs.ram

pub kind_number_settled : Settled 0 kind.kind_number.Kinds.ps kind.kind_number.Kinds.r kind.kind_number.Reads.Post
kind_number_settled κs a x y v w p q = (determined p q, refl)

pub cell_number_settled : Settled 0 kind.cell_number.Kinds.ps kind.cell_number.Kinds.r kind.cell_number.Reads.Post
cell_number_settled κs a x y v w p q = (determined p q, refl)

pub kind_numbered_settled : Settled 0 kind.kind_numbered.Kinds.ps kind.kind_numbered.Kinds.r kind.kind_numbered.Reads.Post
kind_numbered_settled κs a x y v w p q = (determined p q, refl)

pub able_to_write_settled : Settled 0 kind.able_to_write.Kinds.ps kind.able_to_write.Kinds.r kind.able_to_write.Reads.Post
able_to_write_settled κs a x y v w p q = (determined p q, refl)

pub kind_of_settled : Settled 0 kind.kind_of.Kinds.ps kind.kind_of.Kinds.r kind.kind_of.Reads.Post
kind_of_settled κs a x y v w p q = (determined p q, refl)

pub ram_refused_settled : Settled 0 map.ram_refused.Kinds.ps map.ram_refused.Kinds.r map.ram_refused.Reads.Post
ram_refused_settled κs a x y v w p q = (determined p q, refl)

pub stack_pointer_place_settled : Settled 0 map.stack_pointer_place.Kinds.ps map.stack_pointer_place.Kinds.r map.stack_pointer_place.Reads.Post
stack_pointer_place_settled κs a x y v w p q = (determined p q, refl)

pub lookup_table_settled : Settled 0 map.lookup_table.Kinds.ps map.lookup_table.Kinds.r map.lookup_table.Reads.Post
lookup_table_settled κs a x y v w p q = (determined p q, refl)

pub control_place_settled : Settled 0 map.control_place.Kinds.ps map.control_place.Kinds.r map.control_place.Reads.Post
control_place_settled κs a x y v w p q = (determined p q, refl)

pub is_busy_at_settled : Settled 1 map.is_busy_at.Kinds.ps map.is_busy_at.Kinds.r map.is_busy_at.Reads.Post
is_busy_at_settled κs a x y v w p q = (determined p q, refl)

pub is_illegal_at_settled : Settled 1 map.is_illegal_at.Kinds.ps map.is_illegal_at.Kinds.r map.is_illegal_at.Reads.Post
is_illegal_at_settled κs a x y v w p q = (determined p q, refl)

pub word_at_settled : Settled 1 ram.word_at.Kinds.ps ram.word_at.Kinds.r ram.word_at.Reads.Post
word_at_settled κs a x y v w p q = (determined p q, refl)

pub item_or_settled :
    (T : RattleType) (laws : Laws T) (copy : IsCopy T) (clone : Clone.Ghosts T.Denot) (dict : Dict) →
    Settled 2 (ram.item_or.Kinds.ps T laws copy) (ram.item_or.Kinds.r T laws copy) (ram.item_or.Reads.Post T laws copy clone dict)
item_or_settled T laws copy clone dict κs a x y v w p q = (determined p q, refl)

pub put_settled :
    (T : RattleType) (laws : Laws T) (copy : IsCopy T) (clone : Clone.Ghosts T.Denot) (dict : Dict) →
    Settled 2 (ram.put.Kinds.ps T laws copy) (ram.put.Kinds.r T laws copy) (ram.put.Reads.Post T laws copy clone dict)
put_settled T laws copy clone dict κs a x y v w p q = (refl, λ i. (determined p q i, v.1))
