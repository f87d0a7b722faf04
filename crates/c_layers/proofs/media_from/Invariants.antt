-- `c_layers::media_from` meets its contract. Assumes nothing.
use Rattle.surface_real.specs.Internal.{Right}
use Rattle.surface_real.specs.InternalFilms.{Wrote}
use Rattle.c_layers.specs.Internal.{layer_on}
use Rattle.c_layers.proofs.media_from.Given as goal

abbrev pub invariant-loop-i : goal.invariant-loop-i
invariant-loop-i l =
    Right l.light.snell l.light.wavelength_nm l.recent
    × Wrote l.light.snell l.light.wavelength_nm (layer_on l.flat l.after) l.i l.initial.eta_s l.initial.eta_p l.initial.delta l.eta_s l.eta_p l.delta
