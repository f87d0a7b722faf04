-- `surface::assembled` meets its contract. Assumes nothing.
use Rattle.surface.specs.Answers.{assembled}
use borrow.Author.Rules.{rules}
use Rattle.surface.proofs.assembled.Goals as goal

pub returns : goal.returns
unfolding assembled
returns c = cc
