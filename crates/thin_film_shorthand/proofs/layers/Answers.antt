-- `thin_film_shorthand::layers` meets its contract. Assumes nothing.
use native.Mathlib.Omega.{arith}
use Rattle.thin_film_shorthand.proofs.Made as Made
use Rattle.thin_film_shorthand.proofs.layers.Goals as goal

pub loop-i-preserved : goal.loop-i-preserved
loop-i-preserved c = Made.one_more _ _ _ c.requires.0 c.requires.1 _ _ _ _ _ c.no_layers-items.ensures c.loop-i-test.true c.loop-i.invariant c.layer.ensures

pub returns : goal.returns
returns c = Made.all_made _ _ _ c.requires.0 c.requires.1 _ _ c.loop-i.i c.no_layers-items.ensures (omega arith) c.loop-i.invariant
