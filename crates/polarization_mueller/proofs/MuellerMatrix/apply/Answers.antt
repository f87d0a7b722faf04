-- `polarization_mueller::MuellerMatrix::apply` meets its contract. Assumes nothing.
use Rattle.polarization_mueller.specs.Mueller.{apply_mueller}
use borrow.Author.Rules.{rules}
use Rattle.polarization_mueller.proofs.MuellerMatrix.apply.Goals as goal

pub returns : goal.returns
unfolding apply_mueller
returns c = simp (c.row_times-4.ensures, c.row_times-3.ensures, c.row_times-2.ensures, c.row_times.ensures)
