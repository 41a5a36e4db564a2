-- Walking a trace in parts: first a whole number of records, then the rest.
use Rattle.std.proofs.Common.{◌≡◌, ℕ, zero, suc, ◌+◌, ◌*◌, ◌/◌, ◌%◌, ◌≤◌, List, ◌++◌, length, drop, refl, ap, ◌∙◌, append_assoc, append-nil, add-zero, add-suc, arith, length-append, length-drop}
use native.Mathlib.Nat.{mul-add-div}
use lib.Seq.{take-append-le, drop-append-le, drop-append-add}
use Rattle.words.specs.declared.settings.Settings.{Settings}
use Rattle.trace.specs.Walk.{Walk, record_at, whole_records, walk_record, walk_to, walk_all, anew}

-- a record that ends in the first part
pub record_first : (xs ys : List ℕ) (n : ℕ) → 80 * suc n ≤ length xs → record_at (xs ++ ys) n ≡ record_at xs n
record_first xs ys n h =
    let inside : 80 * n ≤ length xs = omega arith in
    let left : 80 ≤ length (drop (80 * n) xs) = rw length-drop (omega arith) in
    rw (drop-append-le (80 * n) xs ys inside, take-append-le 80 (drop (80 * n) xs) ys left)

-- a record that begins in the second part
pub record_second : (xs ys : List ℕ) (m n : ℕ) → length xs ≡ 80 * m → record_at (xs ++ ys) (m + n) ≡ record_at ys n
record_second xs ys m n h =
    let e : 80 * (m + n) ≡ length xs + 80 * n = omega arith in rw (e, drop-append-add xs ys (80 * n))

walk_first :
    (s : Settings) (xs ys : List ℕ) (w : Walk) (n : ℕ) → 80 * n ≤ length xs → walk_to s (xs ++ ys) w n ≡ walk_to s xs w n
unfolding walk_to
walk_first s xs ys w zero h = refl
walk_first s xs ys w (suc n) h = rw (record_first xs ys n h, walk_first s xs ys w n (omega arith))

walk_both :
    (s : Settings) (xs ys : List ℕ) (w : Walk) (m n : ℕ) →
    length xs ≡ 80 * m →
    walk_to s (xs ++ ys) w (m + n) ≡ walk_to s ys (walk_to s xs w m) n
unfolding walk_to
walk_both s xs ys w m zero h = rw add-zero (walk_first s xs ys w m (omega arith))
walk_both s xs ys w m (suc n) h = rw (add-suc, record_second xs ys m n h, walk_both s xs ys w m n h)

-- the whole records of xs ++ ys, where xs is a whole number of records, are those of xs and those of ys
pub whole_append :
    (xs ys : List ℕ) → length xs % 80 ≡ 0 → whole_records (xs ++ ys) ≡ whole_records xs + whole_records ys
whole_append xs ys h =
    let e : length xs ≡ 80 * (length xs / 80) = omega arith in
    rw length-append
    (ap (λ (k : ℕ). (k + length ys) / 80) e ∙ mul-add-div (omega arith) (length xs / 80) (length ys))

-- and walking xs ++ ys is walking xs and then ys
pub walk_append :
    (s : Settings) (xs ys : List ℕ) (w : Walk) →
    length xs % 80 ≡ 0 →
    walk_all s (xs ++ ys) w ≡ walk_all s ys (walk_all s xs w)
unfolding walk_all
walk_append s xs ys w h =
    rw (whole_append xs ys h) (walk_both s xs ys w (length xs / 80) (length ys / 80) (omega arith))

-- the text so far only stands in front
walk_anew :
    (s : Settings) (trace : List ℕ) (w : Walk) (n : ℕ) →
    walk_to s trace w n
    ≡ record {
      state = (walk_to s trace (anew w) n).state;
      number = (walk_to s trace (anew w) n).number;
      text = w.text ++ (walk_to s trace (anew w) n).text;
    }
unfolding walk_to walk_record
walk_anew s trace w zero = rw append-nil
walk_anew s trace w (suc n) = rw (walk_anew s trace w n, append_assoc)

pub all_anew :
    (s : Settings) (trace : List ℕ) (w : Walk) →
    walk_all s trace w
    ≡ record {
      state = (walk_all s trace (anew w)).state;
      number = (walk_all s trace (anew w)).number;
      text = w.text ++ (walk_all s trace (anew w)).text;
    }
unfolding walk_all
all_anew s trace w = walk_anew s trace w (whole_records trace)
