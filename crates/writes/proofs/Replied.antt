-- The reply buffer after an accepted message: the words sent, and behind them what was there.
use Prim.Native.Nat.{ℕ, zero, suc, ◌+◌, ◌-◌, ◌≤◌}
use native.Mathlib.Omega.{arith}
use mathlib.Core.Path.{◌≡◌, refl, sym, ◌∙◌}
use mathlib.Core.Logic.{⊎_elim}
use mathlib.Core.Bool.{Bool, true, false, not, ◌&&◌}
use mathlib.Core.List.{List, [], ◌∷◌, ◌++◌, map, append_assoc}
use lib.ListN.{length, get_or, set, take, drop, length-set, length-map, take-append-drop}
use lib.Seq.{take-suc-set, drop-set-lt, get_or-append-add, get_or-drop}
use Rattle.records.specs.declared.value.Record.{Record}
use Rattle.words.specs.declared.settings.Settings.{Settings}
use Rattle.words.specs.Command.{transmits}
use lib.Dec.{eqb}
use borrow.Author.Tests.{eqb-true}
use Rattle.windows.specs.declared.window.Window.{Window}
use Rattle.words.proofs.Basics.{yes_or_no, and_left}
use Rattle.words.proofs.Commands.{word_count_to}
use Rattle.windows.specs.Window.{place_of}
use Rattle.plan.specs.declared.deed.Deed.{Deed}
use Rattle.lookup.specs.declared.target.Target.{Target}
use Rattle.plan.specs.Act.{words_sent, act_with, act_of}
use Rattle.plan.specs.Deed.{deed_with, deed_of}
use Rattle.memory.specs.Rows.{row}
use Rattle.memory.proofs.Rows.{length_row}
use Rattle.memory.specs.Writes.{Write, apply_writes, writes_to}
use Rattle.writes.specs.Reply.{sent_behind, reply_writes, reply_words}

-- the writes name places in a row, from `from` on
abbrev InRow : ℕ → List Write → Type 0
InRow from [] = Unit {0}
InRow from (x ∷ xs) = (x.at ≡ from) × InRow (suc from) xs

row_append : (from : ℕ) (xs ys : List Write) → InRow from xs → InRow (from + length xs) ys → InRow from (xs ++ ys)
row_append from [] ys h k = let e : from + 0 ≡ from = omega arith in rw e at k
row_append from (x ∷ xs) ys h k =
    let e : from + suc (length xs) ≡ suc from + length xs = omega arith in
    (h.0, row_append (suc from) xs ys h.1 (rw e at k))

row_writes : (word : ℕ → ℕ) (n : ℕ) → InRow 1 (writes_to (λ k. k + 1) word n)
unfolding row
row_writes word zero = tt
row_writes word (suc n) =
    let e = length_row {A = Write} (λ k. record { at = k + 1; word = word k }) n in
    row_append 1 (writes_to (λ k. k + 1) word n) (record { at = n + 1; word = word n } ∷ []) (row_writes word n)
    (rw e (omega arith, tt))

-- such writes put their words over a part of the buffer
put_row :
    (from : ℕ) (xs : List Write) (buffer : List ℕ) →
    InRow from xs →
    from + length xs ≤ length buffer →
    apply_writes xs buffer ≡ take from buffer ++ (map (λ x. x.word) xs ++ drop (from + length xs) buffer)
unfolding apply_writes
put_row from [] buffer h l = let e : from + 0 ≡ from = omega arith in rw e (sym (take-append-drop from buffer))
put_row from (x ∷ xs) buffer h l =
    let w = x.word in
    let e : from + suc (length xs) ≡ suc from + length xs = omega arith in
    let r : suc from + length xs ≤ length (set buffer from w) = simp length-set (omega arith) in
    rw (
      h.0,
      e,
      put_row (suc from) xs (set buffer from w) h.1 r,
      take-suc-set buffer from w (omega arith),
      drop-set-lt (suc from + length xs) buffer from w (omega arith),
      append_assoc,
    )

-- the words behind the status stand in a row from 1 on, and are as many as are sent
behind_row : (ram : List ℕ) (w : Window) (sent third : ℕ) (alone : Bool) → InRow 1 (sent_behind ram w sent alone third)
unfolding sent_behind
behind_row ram w sent third alone =
    ⊎_elim
    (λ (e : (eqb sent 1 && alone) ≡ true). rw e (refl, tt))
    (λ (e : (eqb sent 1 && alone) ≡ false). rw e (row_writes (λ k. get_or ram (place_of w k) 0) sent))
    (yes_or_no (eqb sent 1 && alone))

pub behind_length : (ram : List ℕ) (w : Window) (sent third : ℕ) (alone : Bool) → length (sent_behind ram w sent alone third) ≡ sent
unfolding sent_behind
behind_length ram w sent third alone =
    ⊎_elim
    (λ (e : (eqb sent 1 && alone) ≡ true). rw e (sym (eqb-true sent 1 (and_left (eqb sent 1) alone e))))
    (λ (e : (eqb sent 1 && alone) ≡ false). rw e (length_row {A = Write} (λ k. record { at = k + 1; word = get_or ram (place_of w k) 0 }) sent))
    (yes_or_no (eqb sent 1 && alone))

module _ (ram : List ℕ) (d : Deed) where
  reply_row : InRow 0 (reply_writes ram d)
  unfolding reply_writes
  reply_row =
      ⊎_elim
      (λ (e : d.answered ≡ true).
      rw e (refl, behind_row ram d.window d.sent d.third d.sends_third))
      (λ (e : d.answered ≡ false). rw e tt)
      (yes_or_no d.answered)

  reply_short : length (reply_writes ram d) ≤ d.sent + 1
  unfolding reply_writes
  reply_short =
      let l = behind_length ram d.window d.sent d.third d.sends_third in
      ⊎_elim
      (λ (e : d.answered ≡ true). rw e (omega (arith, l)))
      (λ (e : d.answered ≡ false). rw e (omega arith))
      (yes_or_no d.answered)

  -- "The reply goes to the front of a lent buffer; its other words keep their contents."
  pub reply_front :
      (reply : List ℕ) →
      d.sent + 1 ≤ length reply →
      apply_writes (reply_writes ram d) reply ≡ reply_words ram d ++ drop (length (reply_words ram d)) reply
  unfolding reply_words
  reply_front reply l =
      let z : 0 + length (reply_writes ram d) ≡ length (reply_writes ram d) = omega arith in
      let m : length (map (λ x. x.word) (reply_writes ram d)) ≡ length (reply_writes ram d) =
      length-map (reply_writes ram d) (λ (x : Write). x.word) in
      rw (m, ← z) (put_row 0 (reply_writes ram d) reply reply_row (omega (arith, reply_short)))

  -- no word behind those sent changes
  pub reply_behind :
      (reply : List ℕ) →
      d.sent + 1 ≤ length reply →
      (i : ℕ) →
      length (reply_words ram d) ≤ i →
      get_or (apply_writes (reply_writes ram d) reply) i 0 ≡ get_or reply i 0
  reply_behind reply l i h =
      let n = length (reply_words ram d) in
      let e : n + (i - n) ≡ i = omega arith in
      rw (reply_front reply l, ← e) (get_or-append-add (reply_words ram d) (drop n reply) (i - n) 0 ∙ get_or-drop n reply (i - n) 0)

-- "Transmit sends its word count of words": at most 32
pub sent_few : (s : Settings) (t : Target) (v : Record) → (deed_of s t v).sent ≤ 32
unfolding deed_of deed_with act_of act_with words_sent
sent_few s t v =
    let valid = (act_of s t v).valid in
    ⊎_elim
    (λ (e : (transmits v.command && (valid && (not t.illegal && not t.busy))) ≡ true).
    rw e (word_count_to v.command))
    (λ (e : (transmits v.command && (valid && (not t.illegal && not t.busy))) ≡ false). rw e (omega arith))
    (yes_or_no (transmits v.command && (valid && (not t.illegal && not t.busy))))
