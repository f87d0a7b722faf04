-- `gate_limits::interface_of` meets its contract. Assumes nothing.
use Rattle.gate_limits.specs.Coating.{interface}
use borrow.Author.Rules.{rules}
use Rattle.gate_limits.proofs.interface_of.Goals as goal

pub returns : goal.returns
unfolding interface
returns c = c.coded.ensures
