-- Carrying a plan out, part by part, is its list of writes.
use Prim.Native.Nat.{ℕ}
use mathlib.Core.Path.{◌≡◌}
use mathlib.Core.List.{List}
use lib.ListN.{set}
use Rattle.records.specs.declared.value.Record.{Record}
use Rattle.words.specs.declared.settings.Settings.{Settings}
use Rattle.memory.specs.Map.{stack_pointer_place}
use Rattle.plan.specs.declared.plan.Plan.{Plan}
use Rattle.writes.specs.Writes.{descriptor_of, list_of, deed_list, stack_list, pointer_writes, entry_writes, writes_of}
use Rattle.memory.specs.Writes.{apply_writes}
use Rattle.writes.specs.Copies.{data_writes}
use Rattle.memory.proofs.Writes.{apply_append}

-- the whole plan
pub plan_carried :
    (s : Settings) (p : Plan) (v : Record) (at : ℕ) (m m₁ m₂ m₃ m₄ : List ℕ) →
    m₁ ≡ apply_writes (data_writes p.deed.window v.words p.deed.stored) m →
    m₂ ≡ apply_writes (pointer_writes s p.deed) m₁ →
    m₃ ≡ apply_writes (entry_writes p.entry (descriptor_of p.deed v)) m₂ →
    at ≡ stack_pointer_place s.area → m₄ ≡ set m₃ at p.entry.after →
    m₄ ≡ apply_writes (writes_of s p v) m
unfolding list_of deed_list stack_list apply_writes
plan_carried s p v at m m₁ m₂ m₃ m₄ e₁ e₂ e₃ a e₄ =
    rw (apply_append, apply_append, apply_append, ← e₁, ← e₂, ← e₃, ← a) e₄
