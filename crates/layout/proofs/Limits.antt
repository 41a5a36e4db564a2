-- Bytes held to limits: at most 255 says nothing of a byte, and at most 0 that it is 0.
use Prim.Native.Nat.{ℕ, zero, suc, ◌+◌, ◌-◌, ◌*◌, ◌<◌, ◌≤◌}
use native.Mathlib.Nat.{add_assoc}
use native.Mathlib.Numerals.{add-one}
use native.Mathlib.Omega.{arith}
use mathlib.Core.Path.{◌≡◌, refl, ◌∙◌}
use mathlib.Core.Logic.{⊎_elim}
use mathlib.Core.Bool.{Bool, true, ◌&&◌, ◌||◌, and_assoc}
use mathlib.Core.List.{List, ◌++◌}
use lib.ListN.{length, get_or, take, drop, replicate, get_or-replicate, get_or-append}
use lib.Seq.{get_or-append-add, get_or-take, get_or-drop, length-take-le, take_all}
use lib.Dec.{ltb, leb, eqb}
use borrow.Author.Tests.{lt-ltb, le-ltb, le-leb, lt-leb, eq-eqb, ne_eqb}
use Rattle.std.specs.List.{fold, zip}
use Rattle.std.proofs.lemmas.List.{length-drop}
use Rattle.std.proofs.lemmas.List.Sums.{fold_more}
use Rattle.std.proofs.lemmas.Slice.Zip.{length-zip, get_or-zip}
use Rattle.words.proofs.Basics.{lt_or_ge}
use Rattle.records.specs.Value.{lasts_zero}
use Rattle.layout.specs.Layout.{Bytes, words_in}
use Rattle.layout.proofs.Places.{word_at_lem}

-- byte k of the words keeps its limit, of those that stand in a table from `from` on
abbrev pub limited : List ℕ → List ℕ → ℕ → ℕ → Bool
limited s table from k = leb (get_or s (16 + k) 0) (get_or table (from + k) 0)

-- the first n bytes do
unfoldable pub within : List ℕ → List ℕ → ℕ → ℕ → Bool
within s table from zero = true
within s table from (suc n) = within s table from n && limited s table from n

pub within_more :
    (s table : List ℕ) (from n : ℕ) → within s table from (n + 1) ≡ (within s table from n && limited s table from n)
unfolding within
within_more s table from n = rw add-one

-- the test of one byte more, beside its limit, as the code folds it
abbrev pub within_too : Bool → ℕ × ℕ → Bool
within_too so_far pair = so_far && leb pair.0 pair.1

-- `bytes` are those of s from 16 on, and `limits` those of the table from `from` on
module _
    (s table bytes limits : List ℕ) (from : ℕ) (byte : (k : ℕ) → k < 64 → get_or bytes k 0 ≡ get_or s (16 + k) 0)
    (limit : (k : ℕ) → k < 64 → get_or limits k 0 ≡ get_or table (from + k) 0) (a : length bytes ≡ 64) (b : 64 ≤ length limits) where
  firsts_within : (n : ℕ) → n ≤ 64 → fold within_too true (take n (zip bytes limits)) ≡ within s table from n
  unfolding within
  firsts_within zero l = refl
  firsts_within (suc n) l =
      let more = fold_more within_too true (zip bytes limits) n (0, 0) (omega (arith, length-zip bytes limits)) in
      rw add-one at more
      ∙ rw (firsts_within n (omega arith), get_or-zip bytes limits n (0, 0) (omega arith) (omega arith), byte n (omega arith), limit n (omega arith))

  pub zip_within : fold within_too true (zip bytes limits) ≡ within s table from 64
  zip_within =
      let long : length (zip bytes limits) ≤ 64 = omega (arith, length-zip bytes limits) in
      rw (take_all 64 (zip bytes limits) long) at (firsts_within 64 (omega arith))

-- a part of a list, place by place
pub part_at : (s : List ℕ) (from n k : ℕ) → k < n → get_or (take n (drop from s)) k 0 ≡ get_or s (from + k) 0
part_at s from n k l = get_or-take n (drop from s) k 0 l ∙ get_or-drop from s k 0

pub part_long : (s : List ℕ) (from n : ℕ) → from + n ≤ length s → length (take n (drop from s)) ≡ n
part_long s from n h = length-take-le n (drop from s) (omega (arith, length-drop from s))

-- the reader's table: 64 limits that every byte keeps, and 64 that only 0 does
abbrev any : List ℕ
any = replicate 64 255

abbrev none : List ℕ
none = replicate 64 0

abbrev pub limits : List ℕ
limits = any ++ none

any_at : (k : ℕ) → k < 64 → get_or limits k 0 ≡ 255
any_at k h = rw (get_or-append any none 0 k h) (get_or-replicate {A = ℕ} 64 k 255 0 h)

none_at_lem : (k : ℕ) → 64 ≤ k → k < 128 → get_or limits k 0 ≡ 0
none_at_lem k h l =
    let e : k ≡ 64 + (k - 64) = omega arith in
    rw (e, get_or-append-add any none (k - 64) 0) (get_or-replicate {A = ℕ} 64 (k - 64) 0 0 (omega arith))

-- a word is zero exactly when both its bytes are
pair_zero : (high low : ℕ) → (leb high 0 && leb low 0) ≡ eqb (high * 256 + low) 0
pair_zero high low =
    ⊎_elim
    (λ p. rw (lt-leb high 0 p, ne_eqb (high * 256 + low) 0 (λ e. omega arith)))
    (λ p.
    ⊎_elim
    (λ q. rw (le-leb high 0 p, lt-leb low 0 q, ne_eqb (high * 256 + low) 0 (λ e. omega arith)))
    (λ q. rw (le-leb high 0 p, le-leb low 0 q, eq-eqb (high * 256 + low) 0 (omega arith)))
    (lt_or_ge 0 low))
    (lt_or_ge 0 high)

-- limits from `from` on: 255 for the bytes of the first `count` words, and 0 for the others
module _ (s : List ℕ) (count from : ℕ) (b : Bytes s) (start : from + 2 * count ≡ 64) where
  -- the limits of a word's two bytes say what the layout says of the word
  held :
      (n : ℕ) → n < 32 →
      (limited s limits from (2 * n) && limited s limits from (2 * n + 1)) ≡ (ltb n count || eqb (get_or (words_in s) n 0) 0)
  held n l =
      ⊎_elim
      (λ early.
      rw (
        lt-ltb n count early,
        any_at (from + 2 * n) (omega arith),
        any_at (from + (2 * n + 1)) (omega arith),
        le-leb (get_or s (16 + 2 * n) 0) 255 (omega (arith, b (16 + 2 * n))),
        le-leb (get_or s (16 + (2 * n + 1)) 0) 255 (omega (arith, b (16 + (2 * n + 1)))),
      ))
      (λ late.
      rw (
        le-ltb n count late,
        none_at_lem (from + 2 * n) (omega arith) (omega arith),
        none_at_lem (from + (2 * n + 1)) (omega arith) (omega arith),
        word_at_lem s n l,
        add_assoc 16 (2 * n) 1,
      )
      (pair_zero (get_or s (16 + 2 * n) 0) (get_or s (16 + (2 * n + 1)) 0)))
      (lt_or_ge n count)

  within_words : (n : ℕ) → n ≤ 32 → within s limits from (2 * n) ≡ lasts_zero (words_in s) count n
  unfolding within lasts_zero
  within_words zero l = refl
  within_words (suc n) l =
      let e : 2 * suc n ≡ 2 * n + 1 + 1 = omega arith in
      rw (
        e,
        within_more s limits from (2 * n + 1),
        within_more s limits from (2 * n),
        within_words n (omega arith),
        and_assoc,
        held n (omega arith),
      )

  -- all 64 bytes keep their limits exactly when the words after the count are zero
  pub within_all : within s limits from 64 ≡ lasts_zero (words_in s) count 32
  within_all = within_words 32 (omega arith)

-- the same of the bytes from 16 on and of the table's rest, wherever that begins
pub rest_within :
    (s all rest : List ℕ) (count from n : ℕ) → rest ≡ take n (drop from all) → Bytes s → length s ≡ 80 → all ≡ limits →
    from + n ≡ length all → length all ≡ 128 → from + 2 * count ≡ 64 →
    fold within_too true (zip (take 64 (drop 16 s)) (take n (drop from all))) ≡ lasts_zero (words_in s) count 32
rest_within s all rest count from n e b long same reach many start =
    let bytes = take 64 (drop 16 s) in
    let ends = take n (drop from all) in
    zip_within s limits bytes ends from (λ k l. part_at s 16 64 k l)
    (λ k l. part_at all from n k (omega arith) ∙ rw same)
    (part_long s 16 64 (omega arith))
    (omega (arith, part_long all from n (omega arith)))
    ∙ within_all s count from b start
