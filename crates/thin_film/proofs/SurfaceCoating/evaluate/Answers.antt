-- `thin_film::SurfaceCoating::evaluate` meets its contract. Assumes nothing.
use mathlib.Core.Path.{refl, ◌∙◌}
use Rattle.thin_film.proofs.SurfaceCoating.evaluate.Goals as goal

pub returns : goal.returns
returns c = c.evaluate_list.ensures ∙ c.prepare_surface.ensures c.args.layers.now refl
