-- Numbers as text, in ASCII, and text put into a buffer. "Stored words are four hexadecimal digits, the rest decimal."
use Rattle.std.specs.Prelude.{ℕ, zero, suc, ◌+◌, ◌-◌, ◌/◌, ◌%◌, ◌^◌, ◌<◌, min, ◌≡◌, cond, List, [], ◌∷◌, ◌++◌, length, ltb}
use Rattle.std.proofs.lemmas.List.Edits.{sets}
use Rattle.text.specs.declared.text.Text.{Text}

-- `0` to `9`, then `A` to `F`
unfoldable pub hex_digit : ℕ → ℕ
hex_digit d = cond (ltb d 10) (48 + d) (55 + d)

-- four hexadecimal digits
unfoldable pub hex_text : ℕ → List ℕ
hex_text w =
    hex_digit (w / 4096 % 16) ∷ hex_digit (w / 256 % 16) ∷ hex_digit (w / 16 % 16) ∷ hex_digit (w % 16) ∷ []

-- the last k decimal digits of n, the most significant first
unfoldable pub digits : ℕ → ℕ → List ℕ
digits zero n = []
digits (suc k) n = digits k (n / 10) ++ ((48 + n % 10) ∷ [])

-- how many decimal digits n has, counted up to `most`
unfoldable pub places_up_to : ℕ → ℕ → ℕ
places_up_to zero n = 1
places_up_to (suc most) n = cond (ltb n 10) 1 (suc (places_up_to most (n / 10)))

-- a number below 2^64 has at most 20 digits
unfoldable pub decimal_text : ℕ → List ℕ
decimal_text n = digits (places_up_to 19 n) n

-- the end of a line
abbrev pub newline : List ℕ
newline = 10 ∷ []

-- the place n bytes on, in 64 bits; the last number stands for every place past it too
abbrev pub place_after : ℕ → ℕ → ℕ
place_after at n = min (at + n) (2 ^ 64 - 1)

-- `text` put into the buffer `old` from the place `at` on gives the buffer `new`, and `next` is the place after it.
-- What lies past the buffer's end is dropped.
pub record Put (old : List ℕ) (at : ℕ) (text : List ℕ) (new : List ℕ) (next : ℕ) : Type 0 where
  -- no buffer reaches the last place
  pub short : length old < 2 ^ 64
  pub bytes : new ≡ sets old at text
  pub place : next ≡ place_after at (length text)

-- `text` put to the front of the buffer `old` gives the buffer `new`, and `used` is its length, also where not all of
-- it fits.
pub record PutFirst (old text new : List ℕ) (used : ℕ) : Type 0 where
  pub bytes : new ≡ sets old 0 text
  pub length : used ≡ length text

-- `text` added behind the text `old` gives the text `new`: put from the place of `old` on, into the same buffer
pub record Adds (old : Text) (text : List ℕ) (new : Text) : Type 0 where
  pub put : Put old.out.now old.at text new.out.now new.at
  -- what a caller lent stays lent, at its length
  pub lent : new.out.ref_ptr ≡ old.out.ref_ptr
  pub name : new.out.ghost_name ≡ old.out.ghost_name
  pub length : length new.out.now ≡ length old.out.now
