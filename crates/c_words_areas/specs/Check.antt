-- The whole-area check's answer in one number.
use Rattle.std.specs.Prelude.{ℕ, ◌+◌, ◌*◌}
use Rattle.area.specs.declared.area.Checked.{Checked}

-- the number in the upper half, the cell in the lower
unfoldable pub check_word : Checked → ℕ
check_word c = 65536 * c.number + c.cell
