-- `surface::bare_powers_with` meets its contract. Assumes nothing.
use Rattle.surface.specs.Answers.{bare_powers}
use borrow.Author.Rules.{rules}
use Rattle.surface.proofs.bare_powers_with.Goals as goal

pub returns : goal.returns
unfolding bare_powers
returns c = λ e. cc
