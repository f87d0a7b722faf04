-- 02 slip 1: the layers of a text of the stack shorthand. Definitions only.
use Rattle.std.specs.Prelude.{ℕ, Bool, ◌&&◌, cond, List, map, eqb, pos, Float}
use Rattle.std.specs.Float.{binary64}
use Rattle.std.specs.Float.Ieee.{of_int}
use Rattle.ieee.specs.Operators.{◌⊗◌}
use Rattle.ieee.specs.Functions.{finite_positive}
use Rattle.refusal.specs.Outcome as Outcome
use Rattle.refusal.specs.Outcome.{Outcome, invalid_parameter}
use Rattle.thin_film_grammar.specs.declared.Film.{Film}
use Rattle.thin_film_grammar.specs.Reading.{reading}
use Rattle.thin_film_solver.specs.declared.ThinFilmLayer.{ThinFilmLayer}
use Rattle.thin_film_solver.specs.Solve.{dielectric}
use Rattle.thin_film_presets.specs.Layers.{quarter_wave}

-- 'indices and design wavelength must be positive and finite'
unfoldable pub valid : Float → Float → Float → Float → Bool
valid n_h n_l n_m design = finite_positive n_h && finite_positive n_l && finite_positive n_m && finite_positive design

-- H, L and M
abbrev pub index : Float → Float → Float → ℕ → Float
index n_h n_l n_m letter = cond (eqb letter 0) n_h (cond (eqb letter 1) n_l n_m)

-- 'thickness design / (4·n)'; a whole number before a letter 'multiplies its thickness'
abbrev pub thickness : Float → Float → ℕ → Float
thickness design n multiplier = cond (eqb multiplier 0) (quarter_wave design n) (of_int binary64 (pos multiplier) ⊗ quarter_wave design n)

-- 'and k +0'
unfoldable pub layer : Float → Float → Float → Float → Film → ThinFilmLayer
layer n_h n_l n_m design film =
    dielectric (index n_h n_l n_m film.letter) (thickness design (index n_h n_l n_m film.letter) film.multiplier)

-- 'bad indices or wavelength are 1, first of all'
unfoldable pub stack : List ℕ → Float → Float → Float → Float → Outcome (List ThinFilmLayer)
stack text n_h n_l n_m design =
    cond (valid n_h n_l n_m design) (Outcome.map (map (layer n_h n_l n_m design)) (reading text)) invalid_parameter
