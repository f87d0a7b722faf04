-- `math_exp::squares` meets its contract. Assumes nothing.
use mathlib.Core.Path.{refl}
use Rattle.math_exp.specs.Exp.{squares}
use Rattle.math_exp.proofs.squares.Goals as goal

pub returns : goal.returns
unfolding squares
returns c = refl
