-- Demand 1 of the bus controller (document 02, request 14): "Each entry point ends with an answer or a numbered refusal in
-- the stated order."; and that a caller goes on from what a run left. Demands 2 and 3 do not speak of it.
-- To believe: the tests of its entry points (`start_tests`, `go_on_tests`), what `Answered.antt` and `Exports.antt` name, and
-- what its functions answer (`started_at`, `gone_on`) and leave in a lent machine (`machine_left`).
use Rattle.std.specs.Prelude.{◌≤◌, ◌≡◌, [], ◌∷◌, length}
use Rattle.control.specs.Machine.{refusal_in}
use Rattle.control.specs.Start.{not_run, start_tests, started_at, go_on_tests, gone_on}
use Rattle.c_words.specs.Over.{over, zeros_over}
use Rattle.c_control.specs.Numbers.{machine_from, machine_left, ran_numbers, ran_length}
use Rattle.demands.specs.Entry.{Call, Entry}
use Rattle.demands.specs.Functions as f
use Rattle.demands.specs.First.{AnsweredOnly}
use Rattle.demands.specs.Exports.{Gives, Exports}

-- a refusal is its number with everything else zero; for a caller in C or Rust it puts zeros over what is told of the run,
-- and leaves the machine as it was
pub record Demand : Type 2 where
  pub start_at :
      Entry f.run_from_call
      (λ c.
      let (ram, (trace, (start, rest))) = c.given in
      AnsweredOnly (start_tests ram.now start) (refusal_in c.back.end) c.back not_run)
  pub go_on :
      Entry f.run_on
      (λ c. AnsweredOnly (go_on_tests c.given.0.now) (refusal_in c.back.end) c.back not_run)
  pub exported_start :
      Entry f.c_control
      (λ c.
      let (ram, (start, (flags, (budget, (trace, (machine, (ran, none))))))) = c.given in
      Exports (start_tests ram.now start) (started_at ram.now trace.now start flags budget)
      (Gives f.run_from_call
      (λ r.
      (r.given.0.now ≡ ram.now)
      × ((r.given.1.0.now ≡ trace.now)
      × ((r.given.1.1.0 ≡ start) × ((r.given.1.1.1.0 ≡ flags) × (r.given.1.1.1.1.0 ≡ budget)))))
      (λ r. r.back))
      (λ a. refusal_in a.end)
      (λ a. machine_left machine.now a ∷ over ran.now (ran_numbers a) ∷ [])
      (λ n. machine.now ∷ zeros_over ran.now ran_length ∷ [])
      c.back
      (c.left.1.1.1.1.1.0 ∷ c.left.1.1.1.1.1.1.0 ∷ []))
  pub exported_go_on :
      Entry f.c_control_on
      (λ c.
      let (ram, (budget, (trace, (machine, (ran, none))))) = c.given in
      Exports (go_on_tests ram.now) (gone_on ram.now trace.now (machine_from machine.now) budget)
      (Gives f.run_on
      (λ r.
      (r.given.0.now ≡ ram.now)
      × ((r.given.1.0.now ≡ trace.now)
      × ((r.given.1.1.0 ≡ machine_from machine.now) × (r.given.1.1.1.0 ≡ budget))))
      (λ r. r.back))
      (λ a. refusal_in a.end)
      (λ a. machine_left machine.now a ∷ over ran.now (ran_numbers a) ∷ [])
      (λ n. machine.now ∷ zeros_over ran.now ran_length ∷ [])
      c.back
      (c.left.1.1.1.0 ∷ c.left.1.1.1.1.0 ∷ []))
  -- what a run left in nine numbers or more is read back as the machine that it came to, whoever goes on from it
  pub left_by_start :
      (c : Call f.c_control) →
      c.back ≡ 0 →
      9 ≤ length c.given.1.1.1.1.1.0.now →
      machine_from c.left.1.1.1.1.1.0
      ≡ (started_at c.given.0.now c.given.1.1.1.1.0.now c.given.1.0 c.given.1.1.0
      c.given.1.1.1.0
      ).machine
  pub left_by_go_on :
      (c : Call f.c_control_on) →
      c.back ≡ 0 →
      9 ≤ length c.given.1.1.1.0.now →
      machine_from c.left.1.1.1.0
      ≡ (gone_on c.given.0.now c.given.1.1.0.now (machine_from c.given.1.1.1.0.now) c.given.1.0
      ).machine
