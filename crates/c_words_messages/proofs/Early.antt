-- A slice that may end early: past the end no word is read.
use Rattle.std.proofs.Common.{ℕ, zero, suc, ◌+◌, ◌-◌, ◌<◌, ◌≤◌, min, ◌≡◌, sym, ◌∙◌, List, length, get_or, arith}
use native.Mathlib.Nat.{zero-add, add-zero, add-suc}
use mathlib.Core.Logic.{⊎_elim}
use lib.ListN.{get_or-replicate, get_or-eq_default}
use lib.Seq.{set-get_or}
use Rattle.std.proofs.lemmas.List.{same_lists, get_or_default}
use Rattle.words.specs.Fill.{fill_from, fill}
use Rattle.words.proofs.Basics.{lt_or_ge}
use Rattle.words.proofs.Fill.{length_fill, fill_at, fill_later}
use Rattle.records.specs.Value.{zero_words}

zero_at : (k : ℕ) → get_or zero_words k 0 ≡ 0
zero_at k =
    ⊎_elim
    (λ l. get_or-replicate {A = ℕ} 32 k 0 0 l)
    (λ l. get_or-eq_default zero_words 0 {n = k} l)
    (lt_or_ge k 32)

fill_end :
    (f : ℕ → ℕ) (n d : ℕ) → ((k : ℕ) → n ≤ k → f k ≡ 0) → fill f zero_words (n + d) ≡ fill f zero_words n
unfolding fill_from
fill_end f n zero h = rw add-zero
fill_end f n (suc d) h =
    let same : f (n + d) ≡ get_or (fill f zero_words (n + d)) (n + d) 0 =
    h (n + d) (omega arith) ∙ sym (fill_later f zero_words (n + d) (n + d) (omega arith) ∙ zero_at (n + d)) in
    rw (add-suc, zero-add, same, set-get_or) (fill_end f n d h)

-- the 32 words are filled in once k of them reach the end or are all
pub fill_whole :
    (xs : List ℕ) (k : ℕ) → k ≤ 32 → min (length xs) 36 ≤ 4 + k →
    fill (λ j. get_or xs (4 + j) 0) zero_words k ≡ fill (λ j. get_or xs (4 + j) 0) zero_words 32
fill_whole xs k h e =
    let f : ℕ → ℕ = λ j. get_or xs (4 + j) 0 in
    let m : 32 ≡ k + (32 - k) = omega arith in
    ⊎_elim
    (λ short. let s : k ≡ 32 = omega arith in rw s)
    (λ end. sym (rw m (fill_end f k (32 - k) (λ j l. get_or-eq_default xs 0 {n = 4 + j} (omega arith)))))
    (lt_or_ge (4 + k) (length xs))

-- and a list of 32 that has each word at its place
pub filled_is :
    (f : ℕ → ℕ) (ws : List ℕ) →
    length ws ≡ 32 → ((k : ℕ) → k < 32 → get_or ws k 0 ≡ f k) → ws ≡ fill f zero_words 32
filled_is f ws e h =
    let filled = length_fill 0 f zero_words 32 in
    same_lists ws (fill f zero_words 32) (e ∙ sym filled)
    (λ k d l.
    get_or_default ws k d 0 l
    ∙ h k (omega arith)
    ∙ sym (get_or_default (fill f zero_words 32) k d 0 (omega arith) ∙ fill_at f zero_words 32 k (omega arith) (omega arith)))
