-- `fill_record` meets its contract: a record that is carried out, from its plan.
use Rattle.std.proofs.Common.{refl}
use Rattle.who_tables.specs.Table.{tables_of}
use Rattle.who_replay.proofs.Filling.{fill_done}
use Rattle.who_replay.proofs.fill.fill_record.Goals as goal

pub returns-in-Done : goal.returns-in-Done
returns-in-Done c = let a = c.args in
    fill_done a.s _ (tables_of a.ram.now a.numbers.now a.marks.now a.at) _ c.take_record.ensures.taken _ _ _ _ _
    c.in-Done.is
    c.take_record.ensures.ram
    refl
    c.mark_plan.ensures.numbers
    c.mark_plan.ensures.marks
