-- `c_layers::layer_at` meets its contract. Assumes nothing.
use native.Mathlib.Omega.{arith}
use Rattle.c_layers.proofs.Triples.{at}
use Rattle.c_layers.proofs.layer_at.Goals as goal

pub returns : goal.returns
returns c = at _ _ (omega arith)
