-- `c_presets::quarter_wave_ar` meets its contract. Assumes nothing.
use mathlib.Core.Path.{◌∙◌}
use Rattle.thin_film_coating.specs.Coating.{quarter_wave_layers}
use Rattle.c_stack.specs.Stack.{flat}
use Rattle.c_presets.proofs.quarter_wave_ar.Goals as goal

pub returns : goal.returns
unfolding flat quarter_wave_layers
returns c = c.put.ensures ∙ simp c.quarter_wave_ar-built.ensures
