-- `sheet_answers::quick::media_at` meets its contract. Assumes nothing.
use mathlib.Core.Path.{◌≡◌}
use Rattle.sheet.specs.Internal.{next_place, place_on}
use Rattle.surface_real.specs.Internal.{Right}
use Rattle.surface_real.specs.InternalFilms.{Wrote}
use Rattle.sheet_answers.specs.Internal.{nth_film}
use Rattle.sheet_answers.proofs.quick.media_at.Given as goal

abbrev pub invariant-loop-i : goal.invariant-loop-i
invariant-loop-i l =
    (l.place ≡ place_on l.src (next_place l.src l.at) l.i) × Right l.light.snell l.light.wavelength_nm l.recent
    × Wrote l.light.snell l.light.wavelength_nm (nth_film l.wavelength_nm l.src l.at) l.i l.initial.eta_s l.initial.eta_p l.initial.delta l.eta_s l.eta_p l.delta
