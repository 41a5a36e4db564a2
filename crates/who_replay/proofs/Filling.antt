-- One record of the tables, from what was taken of it; and one record more of a trace.
use Rattle.std.proofs.Common.{◌≡◌, ℕ, ◌+◌, List, [], ◌∷◌, sym, ◌∙◌, add-one, eq-eqb, ne_eqb}
use Rattle.words.specs.declared.settings.Settings.{Settings}
use Rattle.memory.specs.State.{State}
use Rattle.memory.specs.Writes.{apply_writes}
use Rattle.plan.specs.declared.plan.Plan.{Plan}
use Rattle.message.specs.Heard.{Heard, heard_bytes}
use Rattle.message.specs.Tests.{refusal_for}
use Rattle.message.specs.Message.{plan_for, carried_out, step}
use Rattle.message.proofs.Refusals.{refused_state, accepted_state}
use Rattle.trace.specs.Walk.{record_at, next_number}
use Rattle.message.specs.declared.perform.Performed.{Performed}
use Rattle.message.specs.declared.perform.Performed.TheVariants.{Refused, Done}
use Rattle.message.specs.Performed.{performed_of}
use Rattle.who.specs.Next.{list_in}
use Rattle.who.specs.Replay.{heard_to}
use Rattle.who_tables.specs.Mark.{mark_of}
use Rattle.who_tables.proofs.Marked.{marks_listed}
use Rattle.who_tables.proofs.Parts.{fill_append}
use Rattle.who_tables.specs.Table.{mark_writes, Tables, tables_of, terminal_at, fill_record, fill_all}
use Rattle.who_replay.proofs.Taking.{taken_refused, taken_done}

module _ (s : Settings) (h : Heard) (t : Tables) (k : Performed) (e : k ≡ performed_of s h (terminal_at t)) where
  abbrev x : State
  x = terminal_at t

  pub fill_refused :
      (number : ℕ) (m : List ℕ) (n : ℕ) →
      k ≡ Refused number →
      m ≡ (step s h x).ram →
      n ≡ next_number t.at.number →
      tables_of m t.numbers t.marks (record { remembered = t.at.remembered; number = n }) ≡ fill_record s h t
  unfolding fill_record list_in apply_writes
  fill_refused number m n told left counted =
      let f = taken_refused s h x number (sym e ∙ told) in
      rw (left, counted, refused_state s h x f, ne_eqb (refusal_for s h x) 0 f)

  pub fill_done :
      (p : Plan) (m numbers marks : List ℕ) (n : ℕ) →
      k ≡ Done p →
      m ≡ (step s h x).ram →
      n ≡ next_number t.at.number →
      numbers ≡ apply_writes (mark_writes (λ part. n) s p) t.numbers →
      marks ≡ apply_writes (mark_writes (mark_of p.deed.cell) s p) t.marks →
      tables_of m numbers marks (record { remembered = p.remembered; number = n }) ≡ fill_record s h t
  unfolding fill_record list_in carried_out
  fill_done p m numbers marks n told left counted numbered marked =
      let f = taken_done s h x p (sym e ∙ told) in
      rw (
        left,
        numbered,
        marked,
        counted,
        f.plan,
        accepted_state s h x f.none,
        eq-eqb (refusal_for s h x) 0 f.none,
        marks_listed (λ part. next_number t.at.number) s (plan_for s h.value x) h.value,
        marks_listed (mark_of (plan_for s h.value x).deed.cell) s (plan_for s h.value x) h.value,
      )

-- one record more of a trace
pub fill_more :
    (s : Settings) (trace : List ℕ) (n : ℕ) (t : Tables) →
    fill_all s (heard_to trace (n + 1)) t ≡ fill_record s (heard_bytes (record_at trace n)) (fill_all s (heard_to trace n) t)
unfolding fill_all heard_to
fill_more s trace n t = rw add-one (fill_append s (heard_to trace n) (heard_bytes (record_at trace n) ∷ []) t)
