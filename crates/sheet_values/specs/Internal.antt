-- Scaffolding, not to be believed: the BEAM, the LAYER or the kind 6 whose kind word is at a place of some bytes, and the wavelength that
-- a SURFACE is met with.
use Rattle.std.specs.Prelude.{List, ℕ, zero, suc, ◌+◌, Float}
use Rattle.thin_film_solver.specs.declared.ThinFilmLayer.{ThinFilmLayer}
use Rattle.sheet.specs.Words.{float}
use Rattle.sheet.specs.Internal.{next_place, tuning_at, begin}
use Rattle.sheet_values.specs.declared.Beam.{Beam}
use Rattle.sheet_values.specs.declared.Cauchy.{Cauchy}
use Rattle.sheet_values.specs.Values.{value, plain_film, cauchy_value, met_with}

abbrev pub beam_at : List ℕ → ℕ → Beam
beam_at src at = record { wavelength_nm = value (float src (at + 1)); s = value (float src (at + 3)); p = value (float src (at + 5)) }

abbrev pub plain_at : List ℕ → ℕ → ThinFilmLayer
plain_at src at = plain_film (float src (at + 1)) (float src (at + 3)) (float src (at + 5))

abbrev pub cauchy_at : List ℕ → ℕ → Cauchy
cauchy_at src at = cauchy_value (float src (at + 1)) (float src (at + 3)) (float src (at + 5)) (float src (at + 7))

unfoldable pub wavelength_at : List ℕ → ℕ → Float
wavelength_at src zero = met_with (beam_at src (next_place src 0)).wavelength_nm (tuning_at src (begin src 0))
wavelength_at src (suc i) = met_with (wavelength_at src i) (tuning_at src (begin src (suc i)))
