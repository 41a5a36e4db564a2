-- `put_meeting` meets its contract.
use Rattle.text.proofs.Added.{adds_then}
use Rattle.wording.specs.Wording.{meet_line}
use Rattle.wording.proofs.wording.put_meeting.Goals as goal

pub returns : goal.returns
unfolding meet_line
returns c =
    adds_then
    (adds_then (adds_then c.put_marked.ensures c.put_bytes.ensures) c.put_marked-2.ensures)
    c.put_newline.ensures
