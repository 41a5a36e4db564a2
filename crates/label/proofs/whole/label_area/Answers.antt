-- `label_area` meets its contract: a refusal names no cell and keeps the slice.
use mathlib.Core.Path.{◌∙◌}
use Rattle.label.proofs.Refused.{area_refused, room_kept, area_listed, room_filled}
use Rattle.label.proofs.whole.label_area.Goals as goal

pub returns-then-number-ne0 : goal.returns-then-number-ne0
returns-then-number-ne0 c =
    let e = c.ground_refusal-number.ensures in
    let h = c.if-number-ne0.true in
    record { label = c.none_unsound.ensures ∙ area_refused _ _ _ e h; pairs = room_kept _ _ _ e h _ }

pub returns : goal.returns
returns c =
    let e = c.ground_refusal-number.ensures in
    let h = c.if-number-ne0.false in
    record {
      label = c.list_area.ensures.label ∙ area_listed _ _ _ e h;
      pairs = c.list_area.ensures.pairs ∙ room_filled _ _ _ e h _;
    }
