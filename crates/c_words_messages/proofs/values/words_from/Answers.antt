-- Where all are there, each is the word at its place; where not, those that are there are filled in.
use Rattle.std.proofs.Common.{◌+◌, ◌-◌, ◌≡◌, refl, ◌∙◌, get_or, arith}
use Rattle.std.proofs.lemmas.List.Edits.{get_or-between, length-between}
use Rattle.words.specs.Fill.{fill_from}
use Rattle.words.proofs.Fill.{fill_more}
use Rattle.c_words_messages.proofs.Early.{filled_is, fill_whole}
use Rattle.c_words_messages.proofs.values.words_from.Goals as goal

pub returns-then-xs-ge36 : goal.returns-then-xs-ge36
returns-then-xs-ge36 c =
    let xs = c.args.xs.now in
    rw c.copy_from_slice.ensures.after
    (filled_is (λ k. get_or xs (4 + k) 0) _ (length-between xs 4 36 (omega arith)) (λ k h. get_or-between xs 4 36 k 0 (omega arith)))

pub loop-i-init : goal.loop-i-init
unfolding fill_from
loop-i-init c = ((omega arith, omega arith), refl)

pub loop-i-preserved : goal.loop-i-preserved
loop-i-preserved c =
    let at = c.loop-i in
    let place : 4 + (at.i - 4) ≡ at.i = omega arith in
    let next : at.i + 1 - 4 ≡ at.i - 4 + 1 = omega arith in
    ((omega arith, omega arith), rw (next, fill_more, place, ← at.invariant.1))

pub returns : goal.returns
returns c =
    let at = c.loop-i in
    at.invariant.1 ∙ fill_whole c.args.xs.now (at.i - 4) (omega arith) (omega arith)
