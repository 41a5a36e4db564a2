-- A message performed: tested, then refused with a number or done by a plan; and what that answers.
use Rattle.std.specs.Prelude.{ℕ, Bool, cond, List, [], ◌∷◌, ◌++◌, length, eqb, Result}
use Rattle.std.specs.Prelude.Result.{Ok, Err}
use Rattle.words.specs.declared.settings.Settings.{Settings}
use Rattle.words.specs.declared.remembered.Remembered.{Remembered}
use Rattle.words.specs.declared.refusal.Refusal.{Refusal}
use Rattle.words.specs.Number.{ram_length, count_full}
use Rattle.words.specs.Refusals.{number_of}
use Rattle.words.specs.Refusal.{Test, ◌when◌}
use Rattle.memory.specs.Map.{ram_refused}
use Rattle.memory.specs.State.{State}
use Rattle.cells.specs.Stack.{stack_pointer, stack_window}
use Rattle.lookup.specs.Target.{target_of}
use Rattle.plan.specs.Deed.{deed_of}
use Rattle.plan.specs.Entry.{entry_in}
use Rattle.plan.specs.Plan.{plan_from}
use Rattle.records.specs.declared.value.Record.{Record}
use Rattle.plan.specs.declared.plan.Plan.{Plan}
use Rattle.message.specs.declared.tested.Found.{Found}
use Rattle.message.specs.declared.perform.Performed.{Performed}
use Rattle.message.specs.declared.perform.Performed.TheVariants.{Refused, Done}
use Rattle.message.specs.declared.answer.Answer.{Answer}
use Rattle.message.specs.Heard.{Heard}
use Rattle.message.specs.Tests.{command_tests, refusal_for}
use Rattle.message.specs.Answer.{refused_with, accepted_with}
use Rattle.message.specs.Message.{plan_for}

-- ".. an entry point tests exactly those about things that it is given": RAM and a command; and a last test, asked by
-- who is given more
abbrev pub perform_tests : List ℕ → Settings → ℕ → Bool → List Test
perform_tests ram s command full =
    (ram_length when ram_refused (length ram) ∷ command_tests ram s command) ++ (count_full when full ∷ [])

-- what the tests work out of a message that they let through
abbrev pub found_for : List ℕ → Settings → ℕ → Found
found_for ram s command =
    record { target = target_of ram s command; pointer = stack_pointer ram s; block = stack_window ram s }

-- the plan of what the tests let through
abbrev pub plan_found : Settings → Remembered → Record → Found → Plan
plan_found s before v f = plan_from before v (deed_of s f.target v) (entry_in f.pointer f.block)

-- by the number that the tests gave: the plan
unfoldable pub performed_with : ℕ → Plan → Performed
performed_with number p = cond (eqb number 0) (Done p) (Refused number)

-- the number of a refusal, or the plan
abbrev pub performed_as : Result Plan Refusal → Performed
performed_as (Ok p) = Done p
performed_as (Err refusal) = Refused (number_of refusal)

-- what was heard, in a state
unfoldable pub performed_of : Settings → Heard → State → Performed
performed_of s h x = performed_with (refusal_for s h x) (plan_for s h.value x)

-- what each case answers: "Result: the number, the rest zero"; "0 is done."
unfoldable pub answer_in : Performed → Answer
answer_in (Refused number) = refused_with number
answer_in (Done p) = accepted_with p

-- and what is remembered after it; of a refusal, what was before
unfoldable pub remembered_in : Remembered → Performed → Remembered
remembered_in before (Refused number) = before
remembered_in before (Done p) = p.remembered
