-- `put_area_text` meets its contract: the line of a refusal, or the lines of the label.
use borrow.Author.Rules.{rules}
use lib.ListN.{length, replicate, length-replicate}
use mathlib.Core.Path.{◌≡◌, refl}
use Prim.Native.Nat.{ℕ}
use mathlib.Core.List.{List}
use Rattle.text.proofs.Added.{adds_first}
use Rattle.label_text.proofs.Most.{area_most}
use Rattle.label_text.proofs.Handed.{area_fits, area_printed, area_refused_text}
use Rattle.label_text.proofs.printed.put_area_text.Goals as goal
use Rattle.label_text.proofs.printed.put_area_text.Goals.{then-label-ne0, else-label-ne0}

-- the slice that the pairs go into, as it begins
abbrev room : List ℕ
room = replicate 4005 0

room-long : length room ≡ 4005
room-long = length-replicate {A = ℕ} 4005 0

pub put_area_lines-requires : goal.put_area_lines-requires
put_area_lines-requires c =
    let label = c.label_area-label.ensures in
    area_fits _ _ room _ _ room-long label.label label.pairs

pub returns : goal.returns
returns c =
    let label = c.label_area-label.ensures in
    elim c.if-label-ne0.branch [
      | then-label-ne0 w ↦
          let text = area_refused_text _ _ room _ _ room-long label.label label.pairs w.if-label-ne0.true in
          adds_first (rw (text, ← w.text-is) at w.put_refused.ensures) (search rules) (search rules) refl (area_most _ _)
      | else-label-ne0 w ↦
          let text = area_printed _ _ room _ _ room-long label.label label.pairs w.if-label-ne0.false in
          adds_first (rw (text, ← w.text-is) at w.put_area_lines.ensures) (search rules) (search rules) refl (area_most _ _)
    ]
