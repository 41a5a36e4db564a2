-- What is printed as an address is read as that address.
use Prim.Native.Nat.{ℕ, ◌*◌, ◌+◌, ◌/◌, ◌%◌, ◌-◌, ◌<◌, ◌≤◌}
use native.Mathlib.Omega.{arith}
use mathlib.Core.Path.{◌≡◌}
use mathlib.Core.Logic.{⊎_elim}
use mathlib.Core.Bool.{true}
use mathlib.Core.List.{◌++◌}
use borrow.Author.Tests.{lt-ltb, le-ltb}
use Rattle.words.proofs.Basics.{lt_or_ge}
use Rattle.text.specs.Text.{hex_digit, hex_text, newline}
use Rattle.who_text.specs.Address.{digit_of, digit_at, four_digits, is_address, address_in}

digit_read : (d : ℕ) → d < 16 → digit_of (hex_digit d) ≡ d
unfolding digit_of hex_digit
digit_read d h =
    ⊎_elim
    (λ (l : d < 10).
    let e : 48 + d - 48 ≡ d = omega arith in
    rw (lt-ltb d 10 l, le-ltb (48 + d) 48 (omega arith), lt-ltb (48 + d) 58 (omega arith)) e)
    (λ (l : 10 ≤ d).
    let e : 55 + d - 55 ≡ d = omega arith in
    rw (
      le-ltb d 10 l,
      le-ltb (55 + d) 48 (omega arith),
      le-ltb (55 + d) 58 (omega arith),
      le-ltb (55 + d) 65 (omega arith),
      lt-ltb (55 + d) 71 (omega arith),
    )
    e)
    (lt_or_ge d 10)

-- a word is its four digits
low_half : (w : ℕ) → 16 * (w / 16 % 16) + w % 16 ≡ w % 256
low_half w = omega arith

high_half : (w : ℕ) → w < 65536 → 16 * (w / 4096 % 16) + w / 256 % 16 ≡ w / 256
high_half w h = omega arith

once : (n : ℕ) → n % 16 % 16 ≡ n % 16
once n = omega arith

four : (w : ℕ) → w < 65536 → 4096 * (w / 4096 % 16) + 256 * (w / 256 % 16) + 16 * (w / 16 % 16) + w % 16 ≡ w
four w h =
    let low = low_half w in
    let high = high_half w h in
    let whole : 256 * (w / 256) + w % 256 ≡ w = omega arith in
    omega arith

pub address_read : (w : ℕ) → w < 65536 → address_in (hex_text w ++ newline) ≡ record { there = true; address = w }
unfolding address_in is_address digit_at hex_text four_digits
address_read w h =
    let a : w / 4096 % 16 < 16 = omega arith in
    let b : w / 256 % 16 < 16 = omega arith in
    let c : w / 16 % 16 < 16 = omega arith in
    let d : w % 16 < 16 = omega arith in
    rw (
      digit_read (w / 4096 % 16) a,
      digit_read (w / 256 % 16) b,
      digit_read (w / 16 % 16) c,
      digit_read (w % 16) d,
      lt-ltb (w / 4096 % 16) 16 a,
      lt-ltb (w / 256 % 16) 16 b,
      lt-ltb (w / 16 % 16) 16 c,
      lt-ltb (w % 16) 16 d,
      once (w / 4096),
      once (w / 256),
      once (w / 16),
      once w,
      four w h,
    )
