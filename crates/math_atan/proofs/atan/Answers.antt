-- `math_atan::atan` meets its contract. Assumes nothing.
use borrow.Author.Rules.{rules}
use lib.Ieee.{is_nan}
use Rattle.math_atan.specs.Atan.{atan}
use Rattle.ieee.proofs.Signs.{is_nan_lem, not_nan}
use Rattle.math_atan.proofs.atan.Goals as goal

pub returns-then-x : goal.returns-then-x
unfolding atan is_nan
returns-then-x c = simp (is_nan_lem _ c.if-x.true)

pub returns-else-x : goal.returns-else-x
unfolding atan
returns-else-x c = simp (not_nan _ c.if-x.false, c.with_sign.ensures, c.atan_abs.ensures, c.abs.ensures)
