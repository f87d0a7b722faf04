-- `thin_film_coating::Coating::quarter_wave_ar` meets its contract. Assumes nothing.
use mathlib.Core.Path.{◌∙◌}
use Rattle.thin_film_coating.specs.Coating.{quarter_wave_layers}
use borrow.Author.Rules.{rules}
use Rattle.thin_film_coating.proofs.Coating.quarter_wave_ar.Goals as goal

pub returns : goal.returns
unfolding quarter_wave_layers
returns c = c.single.ensures ∙ simp (c.quarter_wave.ensures, c.sqrt-n_opt.ensures)
