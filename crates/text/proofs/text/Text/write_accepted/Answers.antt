-- `write_accepted` meets its contract.
use native.Mathlib.Omega.{arith}
use Rattle.text.specs.Line.{accepted_columns}
use Rattle.text.proofs.Numerals.{decimal_most}
use Rattle.text.proofs.Runs.{length_hex}
use Rattle.text.proofs.Lines.{decimal_nothing, length_three, length_status}
use Rattle.text.proofs.Added.{adds_then}
use Rattle.text.proofs.text.Text.write_accepted.Goals as goal

pub write_number-requires : goal.write_number-requires
write_number-requires c =
    let a = c.args.a in
    omega (arith, length_three a.block_status a.before a.after, length_status a.answered a.status)

pub write_word-requires : goal.write_word-requires
write_word-requires c =
    let a = c.args.a in
    omega (
      arith,
      length_three a.block_status a.before a.after,
      length_status a.answered a.status,
      decimal_most c.from.result,
    )

pub write-requires-2 : goal.write-requires-2
write-requires-2 c =
    let a = c.args.a in
    omega (
      arith,
      length_three a.block_status a.before a.after,
      length_status a.answered a.status,
      decimal_most c.from.result,
      length_hex a.interrupt,
    )

pub returns : goal.returns
unfolding accepted_columns
returns c =
    rw (c.requires.accepted, decimal_nothing, ← c.from.ensures)
    (adds_then
    (adds_then
    (adds_then
    (adds_then (adds_then c.write.ensures c.write_three.ensures) c.write_status.ensures)
    c.write_number.ensures)
    c.write_word.ensures)
    c.write-2.ensures)
