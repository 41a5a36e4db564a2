-- The inputs determine the answer and every lent word: for each public function, any two results that its contract
-- allows are equal. Each line speaks of the contract as the checker reads it (`Reads.Post`), so that none can drift
-- from its function.
use mathlib.Core.Path.{refl}
use denote.RattleType.{RattleType}
use denote.Param.Laws.{Laws, IsCopy}
use mir.Syntax.{Dict}
use Rattle.std.specs.declared.clone.Clone.{Ghosts}
use Rattle.words.proofs.Settled.{determined, Settled}
use Rattle.c_words.proofs.over
use Rattle.c_words.proofs.setup

pub settings_from_settled : Settled 1 setup.settings_from.Kinds.ps setup.settings_from.Kinds.r setup.settings_from.Reads.Post
settings_from_settled κs a x y v w p q = (determined p q, refl)

pub remembered_from_settled : Settled 1 setup.remembered_from.Kinds.ps setup.remembered_from.Kinds.r setup.remembered_from.Reads.Post
remembered_from_settled κs a x y v w p q = (determined p q, refl)

pub put_remembered_settled : Settled 1 setup.put_remembered.Kinds.ps setup.put_remembered.Kinds.r setup.put_remembered.Reads.Post
put_remembered_settled κs a x y v w p q = (refl, λ i. (determined p q i, v.1))

pub put_four_settled : Settled 1 over.put_four.Kinds.ps over.put_four.Kinds.r over.put_four.Reads.Post
put_four_settled κs a x y v w p q = (refl, λ i. (determined p q i, v.1))

pub put_words_settled : Settled 1 over.put_words.Kinds.ps over.put_words.Kinds.r over.put_words.Reads.Post
put_words_settled κs a x y v w p q = (refl, λ i. (determined p q i, v.1))

-- of values of any type, however it is cloned
pub put_over_settled :
    (T : RattleType) (laws : Laws T) (copy : IsCopy T) (clone : Ghosts T.Denot) (dict : Dict) →
    Settled 3 (over.put_over.Kinds.ps T laws copy) (over.put_over.Kinds.r T laws copy)
    (over.put_over.Reads.Post T laws copy clone dict)
put_over_settled T laws copy clone dict κs a x y v w p q = (refl, λ i. (determined p q i, v.1))
