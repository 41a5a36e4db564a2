-- `label_cell` meets its contract: the numbers that are found, each with its mark.
use Rattle.label.proofs.Found.{take_fits, take_long, take_most, counted_label}
use Rattle.label.proofs.one.label_cell.Goals as goal

pub slice_bounds-numbers-end : goal.slice_bounds-numbers-end
slice_bounds-numbers-end c =
    let found = c.find_sharers-found.ensures in
    take_fits _ _ _ _ found.counted _ found.numbers

pub slice_bounds-answer_listing-end : goal.slice_bounds-answer_listing-end
slice_bounds-answer_listing-end c =
    let found = c.find_sharers-found.ensures in
    take_long _ _ _ _ found.counted _ found.numbers

pub answer_listing-requires : goal.answer_listing-requires
answer_listing-requires c =
    let found = c.find_sharers-found.ensures in
    take_most _ _ _ _ found.counted _ found.numbers

pub returns : goal.returns
returns c =
    let found = c.find_sharers-found.ensures in
    counted_label _ _ _ _ found.counted _ found.numbers _ c.answer_listing.ensures
