-- `thin_film::presets::broadband_ar` meets its contract. Assumes nothing.
use Rattle.thin_film_presets.specs.Layers.{broadband_layers}
use borrow.Author.Rules.{rules}
use Rattle.thin_film.proofs.presets.broadband_ar.Goals as goal

pub returns : goal.returns
unfolding broadband_layers
returns c = simp (c.no_layers-items.ensures, c.broadband.ensures, c.broadband-2.ensures, c.broadband-3.ensures, c.broadband-4.ensures)
