-- The plan of an accepted message, worked out before a word is written: the deed, which happens in the cell, the entry,
-- which happens on the stack, the interrupt word, and what is remembered.
use Rattle.std.specs.Prelude.{ℕ, Bool, true, false, List, [], ◌∷◌}
use Rattle.records.specs.declared.value.Record.{Record}
use Rattle.words.specs.declared.settings.Settings.{Settings}
use Rattle.words.specs.declared.remembered.Remembered.{Remembered}
use Rattle.words.specs.Remembered.{remembering}
use Rattle.words.specs.Bits.{word_of}
use Rattle.lookup.specs.Target.{target_of}
use Rattle.plan.specs.declared.deed.Signals.{Signals}
use Rattle.plan.specs.declared.deed.Deed.{Deed}
use Rattle.plan.specs.Deed.{deed_of}
use Rattle.plan.specs.declared.entry.Entry.{Entry}
use Rattle.plan.specs.declared.plan.Plan.{Plan}
use Rattle.plan.specs.Entry.{entry_of}

-- rule 9, from bit 15 down to bit 0: "14 illegal; 10 rollover with the cell's circular bit; 6 stack wrapped; 4 any
-- fault; 2 the cell's end-of-message bit; 1 and 0 always."
unfoldable pub interrupt_word : Signals → Bool → ℕ
interrupt_word g wrapped =
    word_of
    (false
    ∷ g.illegal
    ∷ false
    ∷ false
    ∷ false
    ∷ g.rollover
    ∷ false
    ∷ false
    ∷ false
    ∷ wrapped
    ∷ false
    ∷ g.fault
    ∷ false
    ∷ g.end
    ∷ true
    ∷ true
    ∷ [])

unfoldable pub plan_with : Deed → Entry → Remembered → Plan
plan_with d e m =
    record { deed = d; entry = e; interrupt = interrupt_word d.signals e.wrapped; remembered = m }

-- "It and the command are remembered after every accepted message"
abbrev pub plan_from : Remembered → Record → Deed → Entry → Plan
plan_from before v d e = plan_with d e (remembering before v.command d.status)

-- all that an accepted message does and reports, from RAM and what is remembered
unfoldable pub plan_of : Settings → List ℕ → Remembered → Record → Plan
plan_of s ram before v = plan_from before v (deed_of s (target_of ram s v.command) v) (entry_of ram s)
