-- One record: refused, or carried out by its plan; and what that tells.
use Rattle.std.proofs.Common.{◌≡◌, ℕ, sym}
use Rattle.words.specs.declared.settings.Settings.{Settings}
use Rattle.memory.specs.State.{State}
use Rattle.plan.specs.declared.plan.Plan.{Plan}
use Rattle.message.specs.Heard.{Heard}
use Rattle.message.specs.Tests.{refusal_for}
use Rattle.message.specs.declared.perform.Performed.TheVariants.{Refused, Done}
use Rattle.message.specs.Performed.{performed_of}
use Rattle.message.specs.Message.{plan_for}
use Rattle.message.proofs.Performing.{DoneBy, performed_refused, performed_done}

module _ (s : Settings) (h : Heard) (x : State) where
  pub taken_refused : (n : ℕ) → performed_of s h x ≡ Refused n → refusal_for s h x ≡ 0 → ⊥
  unfolding performed_of
  taken_refused n e = (performed_refused (refusal_for s h x) _ n (sym e)).some

  pub taken_done :
      (p : Plan) → performed_of s h x ≡ Done p → DoneBy (refusal_for s h x) (plan_for s h.value x) p
  unfolding performed_of
  taken_done p e = performed_done (refusal_for s h x) _ p (sym e)
