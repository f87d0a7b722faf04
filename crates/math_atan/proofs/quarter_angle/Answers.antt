-- `math_atan::quarter_angle` meets its contract: both roots are square roots, whatever the guess. Assumes nothing.
use borrow.Author.Rules.{rules}
use Rattle.math_atan.specs.Atan.{half_angle}
use Rattle.math_atan.proofs.quarter_angle.Goals as goal

pub returns : goal.returns
unfolding half_angle
returns c = simp (c.sqrt_near.ensures, c.sqrt.ensures)
