-- A walk is a chain of messages, one for each whole record.
use Prim.Native.Nat.{ℕ, zero, suc}
use native.Mathlib.Omega.{arith}
use mathlib.Core.Path.{◌≡◌, refl, sym, ap, ◌∙◌}
use mathlib.Core.List.{List, [], ◌∷◌, ◌++◌, map, map-append, append_assoc, append-nil}
use lib.ListN.{length, length-append}
use lib.Seq.{sets}
use Rattle.words.specs.declared.settings.Settings.{Settings}
use Rattle.memory.specs.State.{State}
use Rattle.message.specs.declared.answer.Answer.{Answer}
use Rattle.message.specs.Heard.{Heard, heard_bytes}
use Rattle.message.specs.Message.{step}
use Rattle.text.specs.Line.{line_of}
use Rattle.trace.specs.Walk as T
use Rattle.trace.proofs.Walks.{walk_number}
use Rattle.trace.specs.declared.walk.Walked.{Walked as Back}
use Rattle.demands.specs.Entry.{Call}
use Rattle.demands.specs.Functions.{walk_trace}
use Rattle.demands.specs.Calls.{Message, walked}
use Rattle.demands.specs.Walks.{Chain, Each, heard_of, records_heard, lines_after, Walks}
use Rattle.demands.specs.Meets.{Meets}
use Rattle.demands.proofs.Worked.{stepped}
use Rattle.demands.proofs.Served.{meets}

-- one message more
chain_more :
    (s : Settings) (x : State) (ms : List Message) (y : State) (h : Heard) →
    Chain s x ms y →
    Chain s x (ms ++ (stepped s h y ∷ [])) (step s h y)
chain_more s x [] y h c = (refl, (sym (sym c), refl))
chain_more s x (m ∷ ms) y h c = (c.0, (c.1.0, chain_more s m.after ms y h c.1.1))

each_more :
    (Says : Message → Type 0) (ms : List Message) (m : Message) →
    Each Says ms →
    Says m →
    Each Says (ms ++ (m ∷ []))
each_more Says [] m e p = (p, tt)
each_more Says (n ∷ ms) m e p = (e.0, each_more Says ms m e.1 p)

-- the number of the last of some answers
number_after : ℕ → List Answer → ℕ
number_after n [] = n
number_after n (a ∷ rest) = number_after (T.next_number n) rest

number_more :
    (n : ℕ) (answers : List Answer) (a : Answer) →
    number_after n (answers ++ (a ∷ [])) ≡ T.next_number (number_after n answers)
unfolding number_after
number_more n [] a = refl
number_more n (b ∷ rest) a = number_more (T.next_number n) rest a

lines_more :
    (n : ℕ) (answers : List Answer) (a : Answer) →
    lines_after n (answers ++ (a ∷ [])) ≡ lines_after n answers ++ line_of (T.next_number (number_after n answers)) a
unfolding number_after lines_after
lines_more n [] a = append-nil (line_of (T.next_number n) a)
lines_more n (b ∷ rest) a = rw (lines_more (T.next_number n) rest a, append_assoc)

-- the messages of the first n records
abbrev messages_to : Settings → List ℕ → T.Walk → ℕ → List Message
messages_to s trace w zero = []
messages_to s trace w (suc n) =
    messages_to s trace w n ++ (stepped s (heard_bytes (T.record_at trace n)) (T.walk_to s trace w n).state ∷ [])

abbrev answers_of : List Message → List Answer
answers_of ms = map (λ m. m.answer) ms

module _ (s : Settings) (trace : List ℕ) (w : T.Walk) where
  chain_to : (n : ℕ) → Chain s w.state (messages_to s trace w n) (T.walk_to s trace w n).state
  unfolding T.walk_to T.walk_record
  chain_to zero = refl
  chain_to (suc n) =
      chain_more s w.state (messages_to s trace w n) (T.walk_to s trace w n).state
      (heard_bytes (T.record_at trace n))
      (chain_to n)

  heard_to_lem : (n : ℕ) → heard_of (messages_to s trace w n) ≡ records_heard trace n
  unfolding records_heard
  heard_to_lem zero = refl
  heard_to_lem (suc n) = rw (map-append, heard_to_lem n)

  each_to : (n : ℕ) → Each Meets (messages_to s trace w n)
  each_to zero = tt
  each_to (suc n) =
      each_more Meets (messages_to s trace w n) _ (each_to n)
      (meets s (heard_bytes (T.record_at trace n)) (T.walk_to s trace w n).state)

  long_to : (n : ℕ) → length (messages_to s trace w n) ≡ n
  long_to zero = refl
  long_to (suc n) = simp (length-append, long_to n) (omega arith)

  number_to : (n : ℕ) → (T.walk_to s trace w n).number ≡ number_after w.number (answers_of (messages_to s trace w n))
  unfolding T.walk_to T.walk_record number_after
  number_to zero = refl
  number_to (suc n) = rw (map-append, number_more, number_to n)

  text_to :
      (n : ℕ) →
      (T.walk_to s trace w n).text ≡ w.text ++ lines_after w.number (answers_of (messages_to s trace w n))
  unfolding T.walk_to T.walk_record lines_after
  text_to zero = sym (append-nil w.text)
  text_to (suc n) = rw (map-append, lines_more, number_to n, text_to n, append_assoc)

-- what the walk's contract says, as a chain
pub walks : (c : Call walk_trace) → Walks (walked c)
unfolding T.walk_all
walks c =
    let w = walked c in
    let start = T.walk_start w.before.ram w.before.reply w.before.remembered w.from in
    let n = T.whole_records w.trace in
    let back = c.allowed.0 in
    let after : w.after ≡ (T.walk_to w.settings w.trace start n).state =
    λ i. record { ram = c.allowed.1.0 i; reply = c.allowed.1.1.0 i; remembered = (back i).remembered } in
    let text = text_to w.settings w.trace start n in
    record {
      messages = messages_to w.settings w.trace start n;
      heard = heard_to_lem w.settings w.trace start n;
      chain = rw after (chain_to w.settings w.trace start n);
      each = each_to w.settings w.trace start n;
      lines = c.allowed.1.1.1 ∙ ap (λ (l : List ℕ). sets w.room 0 l) text;
      used = ap (λ (k : Back). k.used) back ∙ ap (λ (l : List ℕ). length l) text;
      ended =
          λ h.
          ap (λ (k : Back). k.number) back
          ∙ rw (long_to w.settings w.trace start n) (walk_number w.settings w.trace start n h);
    }
