-- `polarization_mueller::JonesMatrix::to_mueller` meets its contract. Assumes nothing.
use Rattle.polarization_mueller.specs.Mueller.{to_mueller}
use borrow.Author.Rules.{rules}
use Rattle.polarization_mueller.proofs.JonesMatrix.to_mueller.Goals as goal

pub returns : goal.returns
unfolding to_mueller
returns c = simp (c.columns.ensures, c.response-rcp.ensures, c.circular_right.ensures, c.response-p45.ensures, c.linear_45.ensures, c.response-v.ensures, c.linear_vertical.ensures, c.response-h.ensures, c.linear_horizontal.ensures)
