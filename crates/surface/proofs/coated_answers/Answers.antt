-- `surface::coated_answers` meets its contract. Assumes nothing.
use Rattle.surface.specs.Answers.{coated_answers}
use borrow.Author.Rules.{rules}
use Rattle.surface.proofs.coated_answers.Goals as goal

pub returns : goal.returns
unfolding coated_answers
returns c = cc
