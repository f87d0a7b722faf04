-- Scaffolding, not to be believed: the powers of a surface by the shorter way that the code goes, and of the SURFACE at a place of some
-- bytes.
use Rattle.std.specs.Prelude.{List, [], ◌∷◌, ℕ, zero, suc, ◌+◌, Float}
use Rattle.ieee.specs.Operators.{◌⊗◌}
use Rattle.thin_film_solver.specs.declared.ThinFilmLayer.{ThinFilmLayer}
use Rattle.gate_limits.specs.declared.Surface.{Surface}
use Rattle.surface.specs.Answers.{powers}
use Rattle.sheet.specs.Sheet.{SheetSurface}
use Rattle.sheet.specs.Internal.{next_place, place_on, layer_run, tuning_at, surface_at, layers_at, onto, begin}
use Rattle.sheet_values.specs.Values.{films, surface_value, met_with}
use Rattle.sheet_values.specs.Internal.{beam_at}
use Rattle.train_steps.specs.declared.Chosen.{Chosen}
use Rattle.train_steps.specs.declared.State.{State}
use Rattle.train_steps.specs.Train.{chosen_of, after_one}

-- without Jones and Mueller matrices
unfoldable pub chosen_alone : Float → Surface → List ThinFilmLayer → Chosen
chosen_alone wavelength s layers = chosen_of s.reflected (powers wavelength s layers)

-- with n layers
unfoldable pub chosen_at : List ℕ → ℕ → ℕ → Float → Chosen
chosen_at src at n wavelength =
    chosen_alone wavelength (surface_value (surface_at src at [])) (films wavelength (layers_at src (next_place src at) n))

-- after a surface of some powers, met with a wavelength
abbrev pub moved : Chosen → Float → State → State
moved c wavelength st = record { done = st.done + 1; s = st.s ⊗ c.s; p = st.p ⊗ c.p; wavelength_nm = wavelength }

-- after the SURFACE at a place with n layers
unfoldable pub moved_from : List ℕ → ℕ → ℕ → Float → State → State
moved_from src at n wavelength st = moved (chosen_at src at n wavelength) wavelength st

-- after the surface that begins at a place
unfoldable pub moved_at : List ℕ → ℕ → State → State
moved_at src at st =
    moved_from src (onto src at) (layer_run 16 src (onto src at)) (met_with st.wavelength_nm (tuning_at src at)) st

-- after n surfaces, the first of which begins at a place
unfoldable pub moved_on : ℕ → List ℕ → ℕ → State → State
moved_on zero src at st = st
moved_on (suc n) src at st = moved_on n src (place_on src (onto src at) (suc (layer_run 16 src (onto src at)))) (moved_at src at st)

-- after n surfaces from the start, with a wavelength in place of the BEAM's
unfoldable pub run_at : List ℕ → ℕ → Float → State
run_at src n wavelength =
    let b = beam_at src (next_place src 0) in
    moved_on n src (begin src 0) (record { done = 0; s = b.s; p = b.p; wavelength_nm = wavelength })

-- after each of some surfaces
unfoldable pub after_all : State → List SheetSurface → State
after_all st [] = st
after_all st (y ∷ ys) = after_all (after_one st y) ys
