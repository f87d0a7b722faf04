-- `polarization_born_wolf::to_mueller_born_wolf` meets its contract. Assumes nothing.
use borrow.Author.Rules.{rules}
use Rattle.polarization_born_wolf.specs.Conversion.{to_mueller_born_wolf}
use Rattle.polarization_born_wolf.proofs.to_mueller_born_wolf.Goals as goal

pub returns : goal.returns
unfolding to_mueller_born_wolf
returns c = simp (c.from_six.ensures, c.transformed-6.ensures, c.new-3.ensures, c.transformed-5.ensures, c.new-2.ensures, c.transformed-4.ensures, c.new.ensures, c.transformed-3.ensures, c.transformed-2.ensures, c.transformed.ensures, c.new-one.ensures, c.zero-zero.ensures)
