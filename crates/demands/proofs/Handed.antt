-- Calls from C or Rust one after the other are messages one after the other.
use Prim.Native.Nat.{ℕ, ◌≤◌}
use mathlib.Core.Path.{◌≡◌, refl, sym, ap, ◌∙◌}
use mathlib.Core.Logic.{⊎_elim}
use mathlib.Core.List.{List, [], ◌∷◌, map}
use lib.ListN.{length}
use lib.Seq.{length-sets}
use borrow.Author.Tests.{eq-eqb, ne_eqb}
use Rattle.words.specs.declared.settings.Settings.{Settings}
use Rattle.words.proofs.Basics.{eq_or_ne}
use Rattle.memory.specs.State.{State}
use Rattle.c_words.specs.Setup.{remembered_length, remembered_from, remembered_words}
use Rattle.c_words.proofs.Again.{remembered_again}
use Rattle.c_words_messages.specs.Call.{Lent, state_in, handed_back}
use Rattle.demands.specs.Calls.{Message, CMessage}
use Rattle.demands.specs.Meets.{Meets}
use Rattle.demands.specs.Walks.{Handed, Each, heard_of}
use Rattle.demands.specs.Handed.{shown_by, MessageExported, AllExported, heard_by, HandedWords}

pub all_meet : (es : List CMessage) → AllExported es → Each Meets (map shown_by es)
all_meet [] a = tt
all_meet (e ∷ es) a = (a.0.function, all_meet es a.1)

pub heard_shown : (es : List CMessage) → heard_by es ≡ heard_of (map shown_by es)
heard_shown [] = refl
heard_shown (e ∷ es) = λ i. e.heard ∷ heard_shown es i

-- only RAM and the remembered state are handed on
handed_from :
    (s : Settings) (x x' : State) (ms : List Message) (y : State) →
    x.ram ≡ x'.ram →
    x.remembered ≡ x'.remembered →
    Handed s x ms y →
    Handed s x' ms y
handed_from s x x' [] y e f c = (c.0 ∙ e, c.1 ∙ f)
handed_from s x x' (m ∷ ms) y e f c = (c.0, (c.1.0 ∙ e, (c.1.1.0 ∙ f, c.1.1.1)))

-- what a call leaves in the lent words says what its message leaves
module _ (e : CMessage) (a : MessageExported e) (long : remembered_length ≤ length e.before.remembered) where
  abbrev m : Message
  m = shown_by e

  abbrev number : ℕ
  number = m.answer.number

  ram_left : (state_in e.after).ram ≡ m.after.ram
  unfolding handed_back
  ram_left = ap (λ (l : Lent). l.ram) a.left

  -- where it is done, what is put back is what is read; a refusal puts nothing, and its message leaves what was
  remembered_left : (state_in e.after).remembered ≡ m.after.remembered
  unfolding handed_back
  remembered_left =
      ap (λ (l : Lent). remembered_from l.remembered) a.left
      ∙ ⊎_elim
      (λ (z : number ≡ 0). rw (eq-eqb number 0 z) (remembered_again e.before.remembered m.after.remembered long))
      (λ (n : number ≡ 0 → ⊥).
      rw (ne_eqb number 0 n) (ap (λ (x : State). x.remembered) (sym (a.function.first.kept n))))
      (eq_or_ne number 0)

  long_left : remembered_length ≤ length e.after.remembered
  unfolding handed_back
  long_left =
      let same : length e.after.remembered ≡ length e.before.remembered =
      ap (λ (l : Lent). length l.remembered) a.left
      ∙ ⊎_elim
      (λ (z : number ≡ 0).
      rw (eq-eqb number 0 z) (length-sets e.before.remembered 0 (remembered_words m.after.remembered)))
      (λ (n : number ≡ 0 → ⊥). rw (ne_eqb number 0 n))
      (eq_or_ne number 0) in
      rw same long

pub handed_words :
    (s : Settings) (l : Lent) (es : List CMessage) (k : Lent) →
    remembered_length ≤ length l.remembered →
    AllExported es →
    HandedWords s l es k →
    Handed s (state_in l) (map shown_by es) (state_in k)
handed_words s l [] k h a c = (c.0, ap remembered_from c.1)
handed_words s l (e ∷ es) k h a c =
    let long : remembered_length ≤ length e.before.remembered = rw c.1.1.0 h in
    let rest = handed_words s e.after es k (long_left e a.0 long) a.1 c.1.1.1 in (
      c.0,
      (
        c.1.0,
        (
          ap remembered_from c.1.1.0,
          handed_from s (state_in e.after) (shown_by e).after (map shown_by es) (state_in k) (ram_left e a.0 long)
              (remembered_left e a.0 long)
              rest,
        ),
      ),
    )
