-- `gate::gate` meets its contract. Assumes nothing.
use mathlib.Core.Path.{ap}
use Rattle.gate.specs.Index.{Index, index}
use Rattle.gate.proofs.gate.Goals as goal

pub returns : goal.returns
unfolding index
returns c = ap (λ (z : Index). z.result) c.gate_index.ensures
