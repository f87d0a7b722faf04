-- 01 section 1 and 02 slips 3 and 5: the values that the blocks of a sheet stand for. Definitions only.
use Rattle.std.specs.Prelude.{List, [], ◌∷◌, ℕ, zero, suc, ◌+◌, ◌/◌, ◌%◌, eqb, Float}
use Rattle.std.specs.Float.{binary64}
use Rattle.std.specs.Float.Ieee.{of_bits}
use Rattle.ieee.specs.Operators.{◌⊕◌, ◌⊗◌, ◌⊘◌}
use Rattle.ieee.specs.Functions.{zero_f}
use Rattle.thin_film_solver.specs.declared.ThinFilmLayer.{ThinFilmLayer}
use Rattle.gate_limits.specs.declared.Surface as Coated
use Rattle.sheet.specs.Sheet.{SheetLayer, layer, cauchy, Tuning, keeps, tunes, SheetSurface, nth, Sheet}
use Rattle.sheet_values.specs.declared.Beam.{Beam}
use Rattle.sheet_values.specs.declared.Cauchy.{Cauchy}

-- an f64 by its pattern
abbrev pub value : ℕ → Float
value x = of_bits binary64 x

-- BEAM: wavelength nm, s power, p power
abbrev pub beam_value : Sheet → Beam
beam_value x = record { wavelength_nm = value x.wavelength; s = value x.s; p = value x.p }

-- LAYER: n, k, thickness nm
abbrev pub plain_film : ℕ → ℕ → ℕ → ThinFilmLayer
plain_film n k thickness = record { n = value n; k = value k; thickness_nm = value thickness }

-- kind 6: A, B, C, thickness nm
abbrev pub cauchy_value : ℕ → ℕ → ℕ → ℕ → Cauchy
cauchy_value a b c thickness = record { a = value a; b = value b; c = value c; thickness_nm = value thickness }

-- 1,000
abbrev pub thousand : Float
thousand = of_bits binary64 0x408F_4000_0000_0000

-- 'Its index is A + (B + C/u2)/u2, where u = wavelength / 1000 and u2 = u·u'
unfoldable pub cauchy_index : Float → Cauchy → Float
cauchy_index wavelength g =
    let u = wavelength ⊘ thousand in
    let u2 = u ⊗ u in
    g.a ⊕ (g.b ⊕ g.c ⊘ u2) ⊘ u2

-- 'and its k is 0'
abbrev pub cauchy_film : Float → Cauchy → ThinFilmLayer
cauchy_film wavelength g = record { n = cauchy_index wavelength g; k = zero_f; thickness_nm = g.thickness_nm }

-- a layer of either kind at a wavelength
abbrev pub film : Float → SheetLayer → ThinFilmLayer
film wavelength (layer n k thickness) = plain_film n k thickness
film wavelength (cauchy a b c thickness) = cauchy_film wavelength (cauchy_value a b c thickness)

unfoldable pub films : Float → List SheetLayer → List ThinFilmLayer
films wavelength [] = []
films wavelength (l ∷ ls) = film wavelength l ∷ films wavelength ls

-- SURFACE: the lowest payload bit is 0 to follow the transmitted light, 1 the reflected; payload / 2 is the coating; n_incident,
-- n_substrate, angle rad
abbrev pub surface_value : SheetSurface → Coated.Surface
surface_value y = record {
  reflected = eqb (y.payload % 2) 1;
  coating = y.payload / 2;
  n_incident = value y.n_incident;
  n_substrate = value y.n_substrate;
  angle_rad = value y.angle;
}

-- the wavelength that a SURFACE is met with: a kind 7 before it 'acts when that SURFACE is stepped, over any retune made earlier'
abbrev pub met_with : Float → Tuning → Float
met_with held keeps = held
met_with held (tunes wavelength) = value wavelength

-- the wavelength that the i-th of some SURFACEs is met with by a list of steps alone, counted from 0
unfoldable pub met_at : Float → List SheetSurface → ℕ → Float
met_at held ys zero = met_with held (nth ys 0).tuning
met_at held ys (suc i) = met_with (met_at held ys i) (nth ys (suc i)).tuning
