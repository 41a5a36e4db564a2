-- What any run of well-formed messages leaves: none refused, the reply buffer, and the remembered state.
use Prim.Native.Nat.{ℕ, suc, ◌-◌, ◌<◌}
use native.Mathlib.Omega.{arith}
use mathlib.Core.Path.{◌≡◌, refl, ap, ◌∙◌}
use mathlib.Core.List.{List, [], ◌∷◌, map}
use lib.ListN.{length}
use Rattle.words.specs.declared.settings.Settings.{Settings}
use Rattle.message.specs.Heard.{Heard}
use Rattle.message.specs.Answer.{accepted_with}
use Rattle.plan.specs.Plan.{plan_with}
use Rattle.memory.specs.State.{State}
use Rattle.message.specs.Message.{step}
use Rattle.message.specs.Run.{run, Effect, effect_of, effects}
use Rattle.exchange.specs.After.{last_word, over_front, replied_all, remembered_last}
use Rattle.exchange.specs.Exchanged.{all_done}
use Rattle.exchange.proofs.Taken.{Good, AllFormed, done, good_next}

pub run_done : (s : Settings) (vs : List Heard) (x : State) → Good s x → AllFormed s vs → all_done (effects s vs x)
unfolding effects all_done accepted_with
run_done s [] x g f = tt
run_done s (v ∷ vs) x g f =
    (rw (done s v x g f.0).effect, run_done s vs (step s v x) (good_next s v x g f.0) f.1)

pub run_replies :
    (s : Settings) (vs : List Heard) (x : State) →
    Good s x →
    AllFormed s vs →
    (run s vs x).reply ≡ replied_all (effects s vs x) x.reply
unfolding run effects replied_all
run_replies s [] x g f = refl
run_replies s (v ∷ vs) x g f =
    let d = done s v x g f.0 in
    let e : (step s v x).reply ≡ over_front (effect_of s v x).sends x.reply = rw d.effect d.reply in
    run_replies s vs (step s v x) (good_next s v x g f.0) f.1
    ∙ ap (λ (b : List ℕ). replied_all (effects s vs (step s v x)) b) e

-- the last of a list with one more in front
last_behind : (w u : ℕ) (ws : List ℕ) → last_word (w ∷ u ∷ ws) ≡ last_word (u ∷ ws)
last_behind w u ws =
    let a : suc (suc (length ws)) - 1 ≡ suc (length ws) = omega arith in
    let b : suc (length ws) - 1 ≡ length ws = omega arith in
    rw (a, b)

pub run_remembers :
    (s : Settings) (vs : List Heard) (x : State) →
    Good s x →
    AllFormed s vs →
    0 < length vs →
    (run s vs x).remembered ≡ remembered_last x.remembered vs (effects s vs x)
unfolding run effects remembered_last accepted_with plan_with
run_remembers s [] x g f l = absurd (omega arith)
run_remembers s (v ∷ []) x g f l =
    let d = done s v x g f.0 in
    rw d.effect d.remembered
run_remembers s (v ∷ u ∷ vs) x g f l =
    let y = step s v x in
    run_remembers s (u ∷ vs) y (good_next s v x g f.0) f.1 (omega arith)
    ∙ rw (
      ← (last_behind v.value.command u.value.command (map (λ (r : Heard). r.value.command) vs)),
      ← (last_behind (effect_of s v x).answer.status (effect_of s u y).answer.status
          (map (λ (e : Effect). e.answer.status) (effects s vs (step s u y)))),
    )
