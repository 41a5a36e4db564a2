-- The listing of what is found.
use mathlib.Core.Path.{◌∙◌}
use Rattle.c_words_areas.proofs.Listed.{found_words}
use Rattle.c_questions.proofs.calls.solkverva_label_cell.Goals as goal

pub returns-clause-listing : goal.returns-clause-listing
returns-clause-listing c =
    let s = c.settings_from.ensures in
    let counted = rw s at c.find_sharers-found.ensures.counted in
    let numbers = rw s at c.find_sharers-found.ensures.numbers in
    c.put_found.ensures ∙ found_words _ _ _ _ counted _ _ numbers
