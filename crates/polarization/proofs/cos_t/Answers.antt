-- `polarization::cos_t` meets its contract. Assumes nothing.
use Rattle.polarization.specs.Surface.{cos_t}
use borrow.Author.Rules.{rules}
use Rattle.polarization.proofs.cos_t.Goals as goal

pub returns : goal.returns
unfolding cos_t
returns c = simp (c.sqrt.ensures, c.max.ensures)
