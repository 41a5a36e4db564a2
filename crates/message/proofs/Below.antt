-- An accepted message writes only below the end of the RAM that is lent, of either length.
use Prim.Native.Nat.{ℕ, ◌≤◌}
use native.Mathlib.Omega.{arith}
use mathlib.Core.Path.{◌≡◌}
use mathlib.Core.Logic.{inr}
use mathlib.Core.List.{List}
use lib.ListN.{length}
use Rattle.records.specs.declared.value.Record.{Record}
use Rattle.words.specs.declared.settings.Settings.{Settings}
use Rattle.memory.specs.State.{State}
use Rattle.memory.proofs.Footprint.{Avoids, avoids_append}
use Rattle.memory.proofs.Places.{lookup_between, stack_pointer_between}
use Rattle.lookup.specs.Target.{target_of}
use Rattle.plan.specs.Plan.{plan_with, plan_of}
use Rattle.writes.specs.Writes.{stack_list, list_of, deed_writes, stack_writes, writes_of}
use Rattle.words.specs.Remembered.{nothing_remembered}
use Rattle.message.specs.Heard.{Heard}
use Rattle.message.specs.Tests.{refusal_for}
use Rattle.message.specs.Message.{plan_for}
use Rattle.message.proofs.Sure.{accepted_sure}
use Rattle.message.proofs.Step.{deed_for, made_plan, cell_low, deed_avoids, entry_avoids}

module _ (s : Settings) (h : Heard) (x : State) where
  abbrev ram : List ℕ
  ram = x.ram

  abbrev value : Record
  value = h.value

  pub only_below :
      refusal_for s h x ≡ 0 → (a : ℕ) → length ram ≤ a → Avoids a (writes_of s (plan_for s value x) value)
  unfolding plan_of plan_with list_of stack_list target_of
  only_below e a l =
      let f = accepted_sure s h x e in
      let number = (target_of ram s value.command).number in
      let p = stack_pointer_between s.area in
      let q = lookup_between s.area number (cell_low ram s value) in
      avoids_append a (deed_writes s (deed_for ram s value) value) (stack_writes s (made_plan ram s nothing_remembered value) value)
      (deed_avoids ram s value a (λ t. omega (arith, f.long, q)) (inr (λ i j. omega (arith, f.cell.inside))))
      (entry_avoids ram s value f a (λ i j. omega (arith, f.stack.inside)) (λ t. omega (arith, f.long, p)))
