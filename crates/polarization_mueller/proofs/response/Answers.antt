-- `polarization_mueller::response` meets its contract. Assumes nothing.
use Rattle.polarization_mueller.specs.Mueller.{response}
use borrow.Author.Rules.{rules}
use Rattle.polarization_mueller.proofs.response.Goals as goal

pub returns : goal.returns
unfolding response
returns c = simp (c.to_stokes.ensures, c.apply.ensures)
