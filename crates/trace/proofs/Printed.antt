-- The program's whole output, and how it is printed part by part.
use Rattle.std.proofs.Common.{◌≡◌, ℕ, ◌+◌, ◌/◌, ◌%◌, ◌<◌, ◌≤◌, List, [], ◌∷◌, ◌++◌, length, take, drop, replicate, refl, append_assoc, arith, length-append, take_at, drop_at, le-ltb, lt-ltb}
use lib.Seq.{sets, sets-eq}
use Rattle.words.specs.declared.settings.Settings.{Settings}
use Rattle.words.specs.declared.remembered.Remembered.{Remembered}
use Rattle.words.specs.Remembered.{nothing_remembered}
use Rattle.trace_ends.specs.Image.{image_ram, image_line}
use Rattle.trace.specs.declared.walk.Walked.{Walked}
use Rattle.trace.specs.Walk.{Walk, walk_all, walk_start, walked_of, anew}
use Rattle.words.specs.Settings.{program_settings}
use Rattle.trace.specs.Output.{text_to_end, trace_text, program_output, written, refilled, WholeRefills}
use Rattle.trace.proofs.Walks.{text_most}
use Rattle.trace.proofs.Chunks.{walk_append, all_anew}

-- an image that is cut short
pub short_output : (input : List ℕ) → length input < 8192 → program_output input ≡ image_line (length input)
unfolding program_output
short_output input h = rw (lt-ltb (length input) 8192 h)

-- an image and a trace
pub whole_output :
    (image trace : List ℕ) → length image ≡ 8192 → program_output (image ++ trace) ≡ trace_text (image_ram image) trace
unfolding program_output
whole_output image trace h =
    let l : 8192 ≤ length (image ++ trace) = rw length-append (omega arith) in
    rw (le-ltb (length (image ++ trace)) 8192 l, take_at image trace 8192 h, drop_at image trace 8192 h)

-- the text of one refill, and the walk that goes on from it
refill_more :
    (s : Settings) (xs ys : List ℕ) (w : Walk) →
    length xs % 80 ≡ 0 →
    walk_all s (xs ++ ys) (anew w)
    ≡ record {
      state = (walk_all s ys (anew (walk_all s xs (anew w)))).state;
      number = (walk_all s ys (anew (walk_all s xs (anew w)))).number;
      text = (walk_all s xs (anew w)).text ++ (walk_all s ys (anew (walk_all s xs (anew w)))).text;
    }
refill_more s xs ys w h = rw (walk_append s xs ys (anew w) h) (all_anew s ys (walk_all s xs (anew w)))

written_whole :
    (fulls : List (List ℕ)) (rest : List ℕ) (w : Walk) →
    WholeRefills fulls →
    written fulls rest w ≡ text_to_end (refilled fulls rest) (anew w)
unfolding text_to_end written refilled WholeRefills
written_whole [] rest w h = refl
written_whole (full ∷ fulls) rest w h =
    let e : (length full + length (refilled fulls rest)) % 80 ≡ length (refilled fulls rest) % 80 = omega (arith, h.0) in
    rw (
      refill_more program_settings full (refilled fulls rest) w h.0,
      length-append,
      e,
      written_whole fulls rest (walk_all program_settings full (anew w)) h.1,
      append_assoc,
    )

-- A program that refills a buffer with whole records, and ends with a shorter rest, prints exactly the whole output.
pub printed :
    (image : List ℕ) (fulls : List (List ℕ)) (rest : List ℕ) →
    length image ≡ 8192 →
    WholeRefills fulls →
    written fulls rest (walk_start (image_ram image) (replicate 33 0) nothing_remembered 0)
    ≡ program_output (image ++ refilled fulls rest)
unfolding trace_text
printed image fulls rest h k =
    rw (whole_output image (refilled fulls rest) h)
    (written_whole fulls rest (walk_start (image_ram image) (replicate 33 0) nothing_remembered 0) k)

-- a buffer as long as the trace has room for its text
pub text_fits :
    (s : Settings) (trace ram reply : List ℕ) (before : Remembered) (number : ℕ) →
    length (walk_all s trace (walk_start ram reply before number)).text ≤ length trace
unfolding walk_all
text_fits s trace ram reply before number =
    omega (arith, text_most s trace (walk_start ram reply before number) (length trace / 80))

-- what stands at the front of a buffer with room for it
pub front : (room text : List ℕ) → length text ≤ length room → take (length text) (sets room 0 text) ≡ text
front room text h =
    let r : 0 + length text ≤ length room = omega arith in
    rw (sets-eq text room 0 r) (take_at text (drop (0 + length text) room) (length text) refl)

-- so what a walk says it put into such a buffer is there
pub used_fits :
    (s : Settings) (trace ram reply : List ℕ) (before : Remembered) (number : ℕ) (walked : Walked) →
    walked ≡ walked_of (walk_all s trace (walk_start ram reply before number)) →
    walked.used ≤ length trace
used_fits s trace ram reply before number walked e = rw e (text_fits s trace ram reply before number)
