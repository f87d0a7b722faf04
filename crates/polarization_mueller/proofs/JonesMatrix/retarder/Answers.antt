-- `polarization_mueller::JonesMatrix::retarder` meets its contract. Assumes nothing.
use Rattle.polarization_mueller.specs.Jones.{exp_pos, exp_neg, retarder}
use borrow.Author.Rules.{rules}
use Rattle.polarization_mueller.proofs.JonesMatrix.retarder.Goals as goal

pub returns : goal.returns
unfolding exp_pos exp_neg retarder
returns c = simp (c.retarding.ensures, c.sin_cos-axis.ensures, c.new-exp_neg.ensures, c.new-exp_pos.ensures, c.sin_cos-half_delta.ensures)
