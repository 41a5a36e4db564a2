-- What a question about who put a word where it is answers, from what its contract says.
use Prim.Native.Nat.{ℕ}
use mathlib.Core.Path.{◌≡◌, refl, sym, ap, ◌∙◌}
use mathlib.Core.Logic.{⊎_elim}
use mathlib.Core.Bool.{true, false}
use mathlib.Core.List.{List, [], ◌∷◌}
use lib.ListN.{length, get_or}
use lib.Dec.{eqb}
use borrow.Author.Tests.{eq-eqb, ne_eqb}
use Rattle.words.specs.declared.settings.Settings.{Settings}
use Rattle.words.proofs.Basics.{yes_or_no, eq_or_ne}
use Rattle.message.specs.Heard.{Heard}
use Rattle.who_origin.specs.declared.origin.Who.{Who}
use Rattle.who_origin.specs.declared.origin.Who.TheVariants.{Refused}
use Rattle.who.specs.declared.standing.Standing.{Standing}
use Rattle.who.specs.Tests.{who_tests, who_refusal}
use Rattle.who.specs.Values.{values_of}
use Rattle.who.specs.Replay.{Replay, replay_of, refused_at, gone_on, asked}
use Rattle.who.proofs.Gone.{refusal_told, still_told, handed_back_lem, part_refused, part_replayed, refused_number}
use Rattle.who.proofs.Answers.{who_put_this_here}
use Rattle.who_tables.specs.declared.table.Filling.{Filling}
use Rattle.who_tables.specs.Mark.{entry_of}
use Rattle.who_tables.specs.Tests.{fill_tests, fill_refusal, entry_tests, entry_refusal}
use Rattle.who_tables.specs.Table.{Tables, tables_of, entry_at, refusal_of, filled_with}
use Rattle.who_tables.proofs.Parts.{filled_refused}
use Rattle.who_replay.specs.declared.fill.Filled.{Filled}
use Rattle.c_who.proofs.NotTold.{who_refused}
use Rattle.demands.specs.Answered.{Answered}
use Rattle.demands.specs.First.{AnsweredOnly, AskAnswered, GoOnAnswered}
use Rattle.demands.proofs.Answered.{answered}

-- ---- one address

pub ask_answered :
    (s : Settings) (a : ℕ) (hs : List Heard) (ram : List ℕ) (back : Who) (after : List ℕ) →
    back ≡ (asked s a hs ram).at.who →
    after ≡ (asked s a hs ram).ram →
    AskAnswered s a ram back after
unfolding who_refusal
ask_answered s a hs ram back after e f =
    let told : (values_of back).number ≡ who_refusal (length ram) s a =
    ap (λ (w : Who). (values_of w).number) e ∙ (who_put_this_here s a hs ram).number in
    answered (who_tests (length ram) s a) (values_of back).number back _ ram after refl refl told
    (refusal_told back)
    (λ m. f ∙ who_refused s a hs ram (λ z. m (told ∙ z)))

-- a part of a trace, after any answer
module _ (s : Settings) (a : ℕ) (hs : List Heard) (ram : List ℕ) (at back : Standing) (after : List ℕ) where
  abbrev w : Replay
  w = replay_of ram at

  abbrev before : ℕ
  before = (values_of at.who).number

  abbrev number : ℕ
  number = who_refusal (length ram) s a

  abbrev refusal : ℕ → Standing
  refusal n = record { remembered = at.remembered; number = at.number; who = Refused n }

  gone_number : before ≡ 0 → (values_of (gone_on s a hs w).at.who).number ≡ number
  gone_number z =
      ⊎_elim
      (λ (k : number ≡ 0). rw (part_replayed s a hs w z k) (still_told s a hs w z ∙ sym k))
      (λ (m : number ≡ 0 → ⊥). rw (part_refused s a hs w z m) (refused_number number w))
      (eq_or_ne number 0)

  pub go_on_answered : replay_of after back ≡ gone_on s a hs w → GoOnAnswered s a ram at back after
  unfolding who_refusal refused_at
  go_on_answered e =
      record {
        refused_before =
            λ m.
            let same : replay_of after back ≡ w = e ∙ handed_back_lem s a hs w m in
            (ap (λ (r : Replay). r.at) same, ap (λ (r : Replay). r.ram) same);
        answered =
            λ z.
            let told : (values_of back.who).number ≡ number =
            ap (λ (r : Replay). (values_of r.at.who).number) e ∙ gone_number z in
            let kept : ((values_of back.who).number ≡ 0 → ⊥) → replay_of after back ≡ refused_at number w =
            λ m. e ∙ part_refused s a hs w z (λ k. m (told ∙ k)) in
            answered (who_tests (length ram) s a) (values_of back.who).number back refusal ram after refl refl told
            (λ m. ap (λ (r : Replay). r.at) (kept m) ∙ ap refusal (sym told))
            (λ m. ap (λ (r : Replay). r.ram) (kept m));
      }

-- ---- every address

pub fill_answered :
    (s : Settings) (hs : List Heard) (ram numbers marks ram' numbers' marks' : List ℕ) (at : Filling) (back : Filled) →
    back.number ≡ refusal_of s (tables_of ram numbers marks at) →
    tables_of ram' numbers' marks' back.at ≡ filled_with s hs (tables_of ram numbers marks at) →
    Answered (fill_tests (length ram) (length numbers) (length marks) s) back.number back
    (λ n. record { number = n; at = at })
    (ram ∷ numbers ∷ marks ∷ [])
    (ram' ∷ numbers' ∷ marks' ∷ [])
unfolding fill_refusal
fill_answered s hs ram numbers marks ram' numbers' marks' at back told e =
    let t = tables_of ram numbers marks at in
    let same : (back.number ≡ 0 → ⊥) → tables_of ram' numbers' marks' back.at ≡ t =
    λ m. e ∙ filled_refused s hs t (λ z. m (told ∙ z)) in
    answered (fill_tests (length ram) (length numbers) (length marks) s) back.number back _ _ _ refl refl told
    (λ m i. record { number = back.number; at = (same m i).at })
    (λ m. ap (λ (u : Tables). u.ram ∷ u.numbers ∷ u.marks ∷ []) (same m))

-- what an entry of the tables says is no refusal
entry_told : (number mark : ℕ) → (values_of (entry_of number mark)).number ≡ 0
unfolding entry_of values_of
entry_told number mark =
    ⊎_elim (λ (t : eqb number 0 ≡ true). rw t) (λ (t : eqb number 0 ≡ false). rw t) (yes_or_no (eqb number 0))

entry_number :
    (numbers marks : List ℕ) (a : ℕ) → (values_of (entry_at numbers marks a)).number ≡ entry_refusal numbers marks a
unfolding entry_at values_of
entry_number numbers marks a =
    let n = entry_refusal numbers marks a in
    ⊎_elim (λ (z : n ≡ 0). rw (eq-eqb n 0 z) (entry_told (get_or numbers a 0) (get_or marks a 0) ∙ sym z))
    (λ (m : n ≡ 0 → ⊥). rw (ne_eqb n 0 m))
    (eq_or_ne n 0)

pub entry_answered :
    (numbers marks : List ℕ) (a : ℕ) (back : Who) →
    back ≡ entry_at numbers marks a →
    AnsweredOnly (entry_tests numbers marks a) (values_of back).number back (λ n. Refused n)
unfolding entry_refusal
entry_answered numbers marks a back e =
    answered (entry_tests numbers marks a) (values_of back).number back (λ (n : ℕ). Refused n) tt tt refl refl
    (ap (λ (w : Who). (values_of w).number) e ∙ entry_number numbers marks a)
    (refusal_told back)
    (λ m. refl)
