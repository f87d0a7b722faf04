-- `surface_real::join` meets its contract. Assumes nothing.
use Rattle.surface_real.specs.Internal.{join}
use borrow.Author.Rules.{rules}
use Rattle.surface_real.proofs.join.Goals as goal

pub returns : goal.returns
unfolding join
returns c = simp (c.times-next_p.ensures, c.times-next_s.ensures)
