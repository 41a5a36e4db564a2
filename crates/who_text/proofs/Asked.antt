-- Where an address is asked for, and where none is.
use Prim.Native.Nat.{ℕ, ◌+◌, ◌*◌, ◌%◌, ◌<◌, ◌≤◌}
use native.Mathlib.Omega.{arith}
use mathlib.Core.Path.{◌≡◌, refl, sym, ap}
use mathlib.Core.Bool.{Bool, true, false, ◌&&◌}
use mathlib.Core.List.{List}
use lib.ListN.{length, get_or, get_or-eq_default}
use lib.Dec.{ltb}
use borrow.Author.Tests.{lt-ltb, eq-eqb, ne_eqb}
use Rattle.std.proofs.Common.{Option, Some, None}
use Rattle.std.proofs.lemmas.Bool.{false≢true}
use Rattle.who_text.specs.Address.{Asked, asked_of, digit_of, digit_at, four_digits, is_address, address_in}

and_no : (b : Bool) → (b && false) ≡ false
and_no true = refl
and_no false = refl

module _ (line : List ℕ) where
  no_address : is_address line ≡ false → asked_of None ≡ address_in line
  unfolding address_in
  no_address e = rw e

  -- the fifth byte is no end of a line
  not_ended : (get_or line 4 0 ≡ 10 → ⊥) → is_address line ≡ false
  unfolding is_address
  not_ended n = rw (ne_eqb (get_or line 4 0) 10 n) (and_no _)

  pub no_end : (get_or line 4 0 ≡ 10 → ⊥) → asked_of None ≡ address_in line
  no_end n = no_address (not_ended n)

  -- nor is there one in a shorter line
  pub too_short : length line ≤ 4 → asked_of None ≡ address_in line
  too_short h = no_end (λ e. let z : get_or line 4 0 ≡ 0 = search get_or-eq_default in omega arith)

  -- one of the four is no digit
  no_digit : (i : ℕ) → digit_of (get_or line i 0) ≡ 16 → ltb (digit_at line i) 16 ≡ false
  unfolding digit_at
  no_digit i e = rw e

  pub not_first : digit_of (get_or line 0 0) ≡ 16 → asked_of None ≡ address_in line
  unfolding is_address
  not_first e = no_address (rw (no_digit 0 e))

  pub not_second : digit_of (get_or line 1 0) ≡ 16 → asked_of None ≡ address_in line
  unfolding is_address
  not_second e = no_address (rw (no_digit 1 e, and_no))

  pub not_third : digit_of (get_or line 2 0) ≡ 16 → asked_of None ≡ address_in line
  unfolding is_address
  not_third e = no_address (rw (no_digit 2 e, and_no))

  pub not_fourth : digit_of (get_or line 3 0) ≡ 16 → asked_of None ≡ address_in line
  unfolding is_address
  not_fourth e = no_address (rw (no_digit 3 e, and_no, and_no))

  -- all four are, and the line ends
  pub asked :
      (a b c d : ℕ) → (a ≡ digit_of (get_or line 0 0)) × (a < 16) → (b ≡ digit_of (get_or line 1 0)) × (b < 16) →
      (c ≡ digit_of (get_or line 2 0)) × (c < 16) → (d ≡ digit_of (get_or line 3 0)) × (d < 16) → get_or line 4 0 ≡ 10 →
      asked_of (Some (4096 * a + 256 * b + 16 * c + d)) ≡ address_in line
  unfolding address_in is_address digit_at four_digits
  asked a b c d p q r s e =
      let small : (n : ℕ) → n < 16 → n % 16 ≡ n = λ n h. omega arith in
      rw (
        ← p.0,
        ← q.0,
        ← r.0,
        ← s.0,
        lt-ltb a 16 p.1,
        lt-ltb b 16 q.1,
        lt-ltb c 16 r.1,
        lt-ltb d 16 s.1,
        eq-eqb (get_or line 4 0) 10 e,
        small a p.1,
        small b q.1,
        small c r.1,
        small d s.1,
      )

-- an answer says all of what was asked
pub asked_same : (x y : Option ℕ) → asked_of x ≡ asked_of y → x ≡ y
asked_same None None e = refl
asked_same None (Some b) e = absurd (false≢true (ap (λ (a : Asked). a.there) e))
asked_same (Some a) None e = absurd (false≢true (sym (ap (λ (a : Asked). a.there) e)))
asked_same (Some a) (Some b) e = ap Some (ap (λ (a : Asked). a.address) e)
