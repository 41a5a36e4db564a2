-- A machine that is put into lent numbers is read back the same, and numbers that are a machine's are put back the same:
-- a caller goes on from what a run left.
use Prim.Native.Nat.{ℕ, ◌+◌, ◌/◌, ◌%◌, ◌≤◌, ◌<◌, min}
use native.Mathlib.Omega.{arith}
use mathlib.Core.Path.{◌≡◌, refl, sym}
use mathlib.Core.Logic.{⊎_elim}
use mathlib.Core.Bool.{Bool, true, false, true≢false}
use mathlib.Core.List.{List, [], ◌∷◌}
use lib.ListN.{length, get_or}
use lib.Seq.{sets-eq, set-get_or}
use lib.Dec.{eqb}
use borrow.Author.Tests.{eq-eqb, ne_eqb}
use Rattle.words.specs.Bits.{bit_of}
use Rattle.words.proofs.Basics.{eq_or_ne}
use Rattle.control_words.specs.declared.condition.Outcome.{Outcome}
use Rattle.control.specs.declared.machine.Machine.{Machine}
use Rattle.control.specs.declared.machine.End.{End}
use Rattle.control.specs.declared.machine.End.TheVariants.{Budget, Halt, Bad, NoOutcome, Refused}
use Rattle.control.specs.declared.run.Ran.{Ran}
use Rattle.control.specs.Machine.{is_going, refusal_in}
use Rattle.control.specs.Start.{started_at, gone_on}
use Rattle.control.proofs.Kept.{Sound, started_sound, gone_sound}
use Rattle.control.proofs.GoesOn.{behind, started_on, gone_on_lem}
use Rattle.c_words.specs.Over.{over}
use Rattle.c_control.specs.Numbers.{last_number, last_from, machine_numbers, machine_from, machine_left}

-- ---- what the last message told

three_back :
    (a b c : Bool) →
    last_from (last_number (record { no_status = a; other_fault = b; good_transfer = c }))
    ≡ record { no_status = a; other_fault = b; good_transfer = c }
unfolding last_from last_number
three_back true true true = refl
three_back true true false = refl
three_back true false true = refl
three_back true false false = refl
three_back false true true = refl
three_back false true false = refl
three_back false false true = refl
three_back false false false = refl

last_back : (o : Outcome) → last_from (last_number o) ≡ o
last_back o = three_back o.no_status o.other_fault o.good_transfer

bit_back : (n : ℕ) → n < 2 → bit_of (eqb n 1) ≡ n
bit_back n h =
    ⊎_elim (λ (e : n ≡ 1). rw (eq-eqb n 1 e) (sym e)) (λ (d : n ≡ 1 → ⊥). rw (ne_eqb n 1 d) (omega arith)) (eq_or_ne n 1)

last_again : (n : ℕ) → n < 8 → last_number (last_from n) ≡ n
unfolding last_from last_number
last_again n h =
    let top : n / 4 % 2 ≡ n / 4 = omega arith in
    let half : n / 4 ≡ n / 2 / 2 = omega arith in
    rw (bit_back (n % 2) (omega arith), bit_back (n / 2 % 2) (omega arith), bit_back (n / 4 % 2) (omega arith), top, half)
    (omega arith)

-- ---- the machine

four_calls : (xs : List ℕ) → length xs ≡ 4 → (get_or xs 0 0 ∷ get_or xs 1 0 ∷ get_or xs 2 0 ∷ get_or xs 3 0 ∷ []) ≡ xs
four_calls [] h = absurd (omega arith)
four_calls (a ∷ []) h = absurd (omega arith)
four_calls (a ∷ b ∷ []) h = absurd (omega arith)
four_calls (a ∷ b ∷ c ∷ []) h = absurd (omega arith)
four_calls (a ∷ b ∷ c ∷ d ∷ []) h = refl
four_calls (a ∷ b ∷ c ∷ d ∷ e ∷ xs) h = absurd (omega arith)

-- put and read: where there is room for its nine numbers
pub machine_back :
    (xs : List ℕ) (m : Machine) → 9 ≤ length xs → Sound m → machine_from (over xs (machine_numbers m)) ≡ m
unfolding machine_from machine_numbers
machine_back xs m room s =
    let flags : m.flags % 256 ≡ m.flags = omega (arith, s.flags) in
    let depth : min m.depth 4 ≡ m.depth = omega (arith, s.depth) in
    rw (sets-eq (machine_numbers m) xs 0 room)
    (λ i.
    record {
      pointer = m.pointer;
      flags = flags i;
      last = last_back m.last i;
      depth = depth i;
      calls = four_calls m.calls s.calls i;
      place = m.place;
    })

-- read and put: where flags, last message and depth are a machine's
pub numbers_back :
    (xs : List ℕ) → get_or xs 1 0 < 256 → get_or xs 2 0 < 8 → get_or xs 3 0 ≤ 4 → over xs (machine_numbers (machine_from xs)) ≡ xs
unfolding machine_from machine_numbers
numbers_back xs f l d =
    let flags : get_or xs 1 0 % 256 ≡ get_or xs 1 0 = omega arith in
    let depth : min (get_or xs 3 0) 4 ≡ get_or xs 3 0 = omega arith in
    rw (
      flags,
      last_again (get_or xs 2 0) l,
      depth,
      set-get_or xs 0 0,
      set-get_or xs 1 0,
      set-get_or xs 2 0,
      set-get_or xs 3 0,
      set-get_or xs 4 0,
      set-get_or xs 5 0,
      set-get_or xs 6 0,
      set-get_or xs 7 0,
    )
    (set-get_or xs 8 0)

-- ---- what a run left

-- any numbers are a machine
from_sound : (xs : List ℕ) → Sound (machine_from xs)
unfolding machine_from
from_sound xs = record { depth = omega arith; calls = refl; flags = omega arith }

left_back :
    (xs : List ℕ) (r : Ran) →
    9 ≤ length xs →
    refusal_in r.end ≡ 0 →
    Sound r.machine →
    machine_from (machine_left xs r) ≡ r.machine
unfolding machine_left
left_back xs r room z s = rw (eq-eqb (refusal_in r.end) 0 z) (machine_back xs r.machine room s)

pub started_back :
    (ram trace xs : List ℕ) (start flags budget : ℕ) →
    9 ≤ length xs →
    refusal_in (started_at ram trace start flags budget).end ≡ 0 →
    machine_from (machine_left xs (started_at ram trace start flags budget))
    ≡ (started_at ram trace start flags budget).machine
started_back ram trace xs start flags budget room z =
    left_back xs (started_at ram trace start flags budget) room z (started_sound ram trace start flags budget)

pub gone_back :
    (ram trace xs ys : List ℕ) (budget : ℕ) →
    9 ≤ length xs →
    refusal_in (gone_on ram trace (machine_from ys) budget).end ≡ 0 →
    machine_from (machine_left xs (gone_on ram trace (machine_from ys) budget))
    ≡ (gone_on ram trace (machine_from ys) budget).machine
gone_back ram trace xs ys budget room z =
    left_back xs (gone_on ram trace (machine_from ys) budget) room z
    (gone_sound ram trace (machine_from ys) budget (from_sound ys))

-- ---- where its budget ended a run, one from what it left is the rest of a longer run

going_number : (e : End) → is_going e ≡ true → refusal_in e ≡ 0
going_number Budget g = refl
going_number Halt g = refl
going_number Bad g = refl
going_number NoOutcome g = refl
going_number (Refused n) g = absurd (true≢false (sym g))

pub started_goes_on :
    (ram trace xs : List ℕ) (start flags n k : ℕ) →
    9 ≤ length xs →
    is_going (started_at ram trace start flags n).end ≡ true →
    started_at ram trace start flags (n + k)
    ≡ behind n (gone_on ram trace (machine_from (machine_left xs (started_at ram trace start flags n))) k)
started_goes_on ram trace xs start flags n k room g =
    rw (started_back ram trace xs start flags n room (going_number (started_at ram trace start flags n).end g))
    (started_on ram trace start flags n k g)

pub gone_goes_on :
    (ram trace xs ys : List ℕ) (n k : ℕ) →
    9 ≤ length xs →
    is_going (gone_on ram trace (machine_from ys) n).end ≡ true →
    gone_on ram trace (machine_from ys) (n + k)
    ≡ behind n (gone_on ram trace (machine_from (machine_left xs (gone_on ram trace (machine_from ys) n))) k)
gone_goes_on ram trace xs ys n k room g =
    rw (gone_back ram trace xs ys n room (going_number (gone_on ram trace (machine_from ys) n).end g))
    (gone_on_lem ram trace (machine_from ys) n k g)
