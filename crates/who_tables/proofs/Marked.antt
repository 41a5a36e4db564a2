-- Marking a plan's writes, part by part, is its list of marks.
use Prim.Native.Nat.{ℕ}
use mathlib.Core.Path.{◌≡◌, refl}
use mathlib.Core.List.{List}
use lib.ListN.{set}
use Rattle.words.specs.declared.settings.Settings.{Settings}
use Rattle.records.specs.declared.value.Record.{Record}
use Rattle.memory.specs.Map.{stack_pointer_place}
use Rattle.memory.specs.Writes.{apply_writes}
use Rattle.memory.proofs.Writes.{apply_append}
use Rattle.plan.specs.declared.plan.Plan.{Plan}
use Rattle.writes.specs.declared.part.Part.{Part}
use Rattle.writes.specs.declared.part.Part.TheVariants.{StackPointer}
use Rattle.writes.specs.Writes.{entry_list, deed_list, stack_list, list_of}
use Rattle.who_tables.specs.Table.{marking, mark_writes, data_marks, pointer_marks, stack_marks}

-- a table asks for no word that is written
pub marks_listed : (f : Part → ℕ) (s : Settings) (p : Plan) (v : Record) → mark_writes f s p ≡ list_of (marking f) s p v
unfolding list_of deed_list stack_list entry_list
marks_listed f s p v = refl

-- the whole plan
pub plan_marked :
    (f : Part → ℕ) (s : Settings) (p : Plan) (at : ℕ) (t t₁ t₂ t₃ t₄ : List ℕ) →
    t₁ ≡ apply_writes (data_marks f p.deed) t →
    t₂ ≡ apply_writes (pointer_marks f s p.deed) t₁ →
    t₃ ≡ apply_writes (stack_marks f p.entry) t₂ →
    at ≡ stack_pointer_place s.area →
    t₄ ≡ set t₃ at (f StackPointer) →
    t₄ ≡ apply_writes (mark_writes f s p) t
unfolding list_of deed_list stack_list entry_list apply_writes
plan_marked f s p at t t₁ t₂ t₃ t₄ e₁ e₂ e₃ a e₄ =
    rw (apply_append, apply_append, apply_append, ← e₁, ← e₂, ← e₃, ← a) e₄
