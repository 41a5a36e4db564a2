-- Every message that the contract of a function allows is what the definitions say.
use mathlib.Core.Path.{◌≡◌, refl, sym, ◌∙◌}
use mathlib.Core.List.{List}
use Prim.Native.Nat.{ℕ}
use Rattle.words.specs.declared.settings.Settings.{Settings}
use Rattle.memory.specs.State.{State, state_of}
use Rattle.plan.specs.declared.plan.Plan.{Plan}
use Rattle.message.specs.declared.perform.Performed.{Performed}
use Rattle.message.specs.declared.perform.Performed.TheVariants.{Done}
use Rattle.message.specs.Heard.{Heard}
use Rattle.message.specs.Message.{plan_for, step}
use Rattle.message.specs.Tests.{refusal_for}
use Rattle.message.specs.Performed.{performed_of, answer_in, remembered_in}
use Rattle.message.proofs.Performing.{told, performed_done}
use Rattle.demands.specs.Calls.{message_of, MessageCall, from_bytes, from_value_call, from_long_call, performed_bytes, performed_value, performed_long, shows}
use Rattle.demands.proofs.Served.{Served}

-- what comes back as an enum, by the definition of its number and values
module _ (s : Settings) (h : Heard) (x : State) (r : Performed) where
  pub performed_served :
      (ram reply : List ℕ) →
      (r ≡ performed_of s h x) × ((ram ≡ (step s h x).ram) × (reply ≡ (step s h x).reply)) →
      Served (message_of s h x (answer_in r) (state_of ram reply (remembered_in x.remembered r)))
  performed_served ram reply allowed =
      let t =
      told s h x.remembered x.ram x.reply r ram reply allowed
      (record { answer = answer_in r; remembered = remembered_in x.remembered r })
      refl in
      record { answer = t.0; after = t.1 }

  -- and its plan is the definitions'
  pub performed_plan :
      r ≡ performed_of s h x → (p : Plan) → r ≡ Done p → p ≡ plan_for s h.value x
  unfolding performed_of
  performed_plan e p done =
      (performed_done (refusal_for s h x) (plan_for s h.value x) p (sym done ∙ e)).plan

pub call_served : (c : MessageCall) → Served (shows c)
call_served (from_bytes c) = record { answer = c.allowed.0; after = c.allowed.1 }
call_served (from_value_call c) = record { answer = c.allowed.0; after = c.allowed.1 }
call_served (from_long_call c) = record { answer = c.allowed.0; after = c.allowed.1 }
call_served (performed_bytes c) = performed_served _ _ _ c.back c.left.0 c.left.1.0 c.allowed
call_served (performed_value c) = performed_served _ _ _ c.back c.left.0 c.left.1.0 c.allowed
call_served (performed_long c) = performed_served _ _ _ c.back c.left.0 c.left.1.0 c.allowed
