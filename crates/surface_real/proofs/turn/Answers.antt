-- `surface_real::turn` meets its contract. Assumes nothing.
use mathlib.Core.Path.{refl}
use borrow.Author.Rules.{rules}
use Rattle.surface_real.proofs.turn.Goals as goal

pub returns : goal.returns
returns c = (refl, refl, c.medium_again-medium.ensures)
