-- `surface_real::presets::media` meets its contract. Assumes nothing.
use mathlib.Core.List.{[]}
use lib.ListN.{get_or}
use Rattle.thin_film_layers.specs.Evaluation.{no_layer}
use Rattle.thin_film.specs.Coating.{layers_of}
use Rattle.surface_real.specs.Internal.{Right}
use Rattle.surface_real.specs.InternalFilms.{Wrote}
use Rattle.surface_real.proofs.presets.media.Given as goal

abbrev pub invariant-loop-i : goal.invariant-loop-i
invariant-loop-i l =
    Right l.light.snell l.light.wavelength_nm l.recent
    × Wrote l.light.snell l.light.wavelength_nm (λ j. get_or (layers_of l.coating []) j no_layer) l.i l.initial.eta_s l.initial.eta_p l.initial.delta l.eta_s l.eta_p l.delta
