-- `polarization_born_wolf::transformed` meets its contract. Assumes nothing.
use borrow.Author.Rules.{rules}
use Rattle.polarization_born_wolf.specs.Conversion.{transformed}
use Rattle.polarization_born_wolf.proofs.transformed.Goals as goal

pub returns : goal.returns
unfolding transformed
returns c = simp (c.to_stokes.ensures, c.apply.ensures, c.new.ensures)
