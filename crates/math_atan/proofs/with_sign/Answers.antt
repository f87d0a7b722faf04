-- `math_atan::with_sign` meets its contract. Assumes nothing.
use borrow.Author.Rules.{rules}
use Rattle.math_atan.specs.Atan.{with_sign}
use Rattle.math_atan.proofs.with_sign.Goals as goal

pub returns : goal.returns
unfolding with_sign
returns c = c.by_sign.ensures
