-- `quarter_waves::admitted` meets its contract. Assumes nothing.
use mathlib.Core.Path.{sym}
use Rattle.quarter_waves.specs.Waves.{admitted}
use Rattle.quarter_waves.proofs.admitted.Goals as goal

pub returns-then-within-2 : goal.returns-then-within-2
unfolding admitted
returns-then-within-2 c = simp (sym c.within.ensures, c.if-within.true, sym c.within-then-within.ensures, c.if-within-2.true, sym c.within-then-within-2.ensures)

pub returns-else-within-2 : goal.returns-else-within-2
unfolding admitted
returns-else-within-2 c = simp (sym c.within.ensures, c.if-within.true, sym c.within-then-within.ensures, c.if-within-2.false)

pub returns-else-within : goal.returns-else-within
unfolding admitted
returns-else-within c = simp (sym c.within.ensures, c.if-within.false)
