-- `thin_film_presets::bragg` meets its contract. Assumes nothing.
use native.Mathlib.Omega.{arith}
use mathlib.Core.Path.{sym, ◌∙◌}
use Rattle.thin_film_presets.proofs.Nth.{even, odd}
use borrow.Author.Rules.{rules}
use Rattle.thin_film_presets.proofs.bragg.Goals as goal

pub returns-then-i-eq0 : goal.returns-then-i-eq0
returns-then-i-eq0 c = c.quarter_wave.ensures ∙ sym (even _ _ _ _ _ (omega arith) c.if-i-eq0.true)

pub returns-else-i-eq0 : goal.returns-else-i-eq0
returns-else-i-eq0 c = c.quarter_wave-else-i-eq0.ensures ∙ sym (odd _ _ _ _ _ (omega arith) c.if-i-eq0.false)
