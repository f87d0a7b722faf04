-- `gate_limits::presets_within` meets its contract. Assumes nothing.
use Rattle.gate_limits.proofs.Presets.{at_mgf2, at_broadband, at_mirror, at_others}
use Rattle.gate_limits.proofs.presets_within.Goals as goal

pub returns-then-coating-eq2 : goal.returns-then-coating-eq2
returns-then-coating-eq2 c = at_mgf2 _ _ c.if-coating-eq2.true

pub returns-then-coating-eq3 : goal.returns-then-coating-eq3
returns-then-coating-eq3 c = at_broadband _ _ c.if-coating-eq3.true

pub returns-then-coating-eq4 : goal.returns-then-coating-eq4
returns-then-coating-eq4 c = at_mirror _ _ c.if-coating-eq4.true

pub returns : goal.returns
returns c = at_others _ _ c.if-coating-eq2.false c.if-coating-eq3.false c.if-coating-eq4.false
