-- With broadcast off no message is carried out in a broadcast cell: its plan names none, from which also the origin of
-- a word is told, and neither does its answer.
use Prim.Native.Nat.{◌<◌}
use native.Mathlib.Omega.{arith}
use mathlib.Core.Path.{◌≡◌}
use mathlib.Core.Logic.{⊎_elim}
use mathlib.Core.Bool.{true, false}
use lib.Dec.{eqb}
use Rattle.words.specs.declared.settings.Settings.{Settings}
use Rattle.words.proofs.Basics.{yes_or_no}
use Rattle.records.specs.declared.value.Record.{Record}
use Rattle.memory.specs.State.{State}
use Rattle.area.proofs.BroadcastOff.{used_low}
use Rattle.lookup.specs.Target.{target_of}
use Rattle.plan.specs.Deed.{deed_with, deed_of}
use Rattle.plan.specs.Plan.{plan_with, plan_of}
use Rattle.message.specs.Heard.{Heard}
use Rattle.message.specs.Tests.{refusal_for}
use Rattle.message.specs.Answer.{refused_with, accepted_with, answer_for}
use Rattle.message.specs.Message.{plan_for, answer_of}

module _ (s : Settings) (off : s.broadcast ≡ false) where
  pub plan_low : (v : Record) (x : State) → (plan_for s v x).deed.cell < 64
  unfolding plan_of plan_with deed_of deed_with target_of
  plan_low v x = used_low s off v.command

  pub answer_low : (h : Heard) (x : State) → (answer_of s h x).cell < 64
  unfolding answer_of answer_for accepted_with refused_with
  answer_low h x =
      let accepted = eqb (refusal_for s h x) 0 in
      ⊎_elim
      (λ (e : accepted ≡ true). rw e (plan_low h.value x))
      (λ (e : accepted ≡ false). rw e (omega arith))
      (yes_or_no accepted)
