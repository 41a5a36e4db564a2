-- `read_address` meets its contract: each byte that may not be what an address has there, and the address.
use native.Mathlib.Omega.{arith}
use Rattle.who_text.proofs.Asked.{no_end, too_short, not_first, not_second, not_third, not_fourth, asked}
use Rattle.who_text.proofs.address.read_address.Goals as goal

pub returns-in_default : goal.returns-in_default
returns-in_default c = too_short _ (omega (arith, c.in_default.len_below))

pub returns-in_default-2 : goal.returns-in_default-2
returns-in_default-2 c = no_end _ (λ e. omega arith)

pub returns-in_err-digit_of : goal.returns-in_err-digit_of
returns-in_err-digit_of c = rw c.from_residual.ensures (not_first _ c.in_err-digit_of.ensures)

pub returns-in_err-high : goal.returns-in_err-high
returns-in_err-high c = rw c.from_residual-in_err-high.ensures (not_second _ c.in_err-high.ensures)

pub returns-in_err-digit_of-2 : goal.returns-in_err-digit_of-2
returns-in_err-digit_of-2 c = rw c.from_residual-in_err-digit_of-2.ensures (not_third _ c.in_err-digit_of-2.ensures)

pub returns-in_err-digit_of-3 : goal.returns-in_err-digit_of-3
returns-in_err-digit_of-3 c = rw c.from_residual-in_err-digit_of-3.ensures (not_fourth _ c.in_err-digit_of-3.ensures)

pub returns : goal.returns
returns c =
    asked _ _ _ _ _ c.in_ok-digit_of.ensures c.in_ok-high.ensures c.in_ok-digit_of-2.ensures c.in_ok-digit_of-3.ensures
    (omega arith)
