-- 01 section 7 and 02 slips 3 and 5: a sheet's surfaces by their numbers. Definitions only.
use Rattle.std.specs.Prelude.{cond, List, ℕ, ltb, length, get_or, Float}
use Rattle.std.specs.Float.{nan}
use Rattle.refusal.specs.Outcome.{Outcome, answer, refusal, map}
use Rattle.thin_film_solver.specs.declared.ThinFilmLayer.{ThinFilmLayer}
use Rattle.surface.specs.declared.Answers.{Answers}
use Rattle.surface.specs.Answers.{answers}
use Rattle.sheet.specs.Sheet.{SheetSurface, nth, Sheet}
use Rattle.sheet_values.specs.Values.{value, films, surface_value, met_at}
use Rattle.gate.specs.Gate.{gated}
use Rattle.sheet_surfaces.specs.declared.NumberedSurface.{NumberedSurface}

-- what is said of the i-th surface of a sheet, counted from 0, at the wavelength that a list of steps alone meets it with; 7 where there is
-- no such surface
abbrev pub of_surface : {A : Type 0} → (Float → SheetSurface → Outcome A) → ℕ → Outcome Sheet → Outcome A
of_surface f i (answer x) =
    cond (ltb i (length x.surfaces)) (f (met_at (value x.wavelength) x.surfaces i) (nth x.surfaces i)) (refusal 7 0)
of_surface f i (refusal number place) = refusal number place

-- ---- the surface itself
abbrev pub surface_of : ℕ → Outcome Sheet → Outcome SheetSurface
surface_of = of_surface (λ w y. answer y)

-- its words, and how many layers it has
abbrev pub numbered : SheetSurface → NumberedSurface
numbered y = record { surface = surface_value y; layers = length y.layers }

unfoldable pub nth_surface : List ℕ → ℕ → Outcome NumberedSurface
nth_surface src i = map numbered (surface_of i (gated src))

-- its j-th layer, counted from 0; 7 where there is no such layer
abbrev pub no_film : ThinFilmLayer
no_film = record { n = nan; k = nan; thickness_nm = nan }

abbrev pub layer_of : ℕ → Float → SheetSurface → Outcome ThinFilmLayer
layer_of j w y = cond (ltb j (length y.layers)) (answer (get_or (films w y.layers) j no_film)) (refusal 7 0)

unfoldable pub nth_layer : List ℕ → ℕ → ℕ → Outcome ThinFilmLayer
nth_layer src i j = of_surface (layer_of j) i (gated src)

-- ---- its answers, at a wavelength
abbrev pub its_answers : Float → SheetSurface → Outcome Answers
its_answers w y = answers w (surface_value y) (films w y.layers)

abbrev pub answers_to : ℕ → Outcome Sheet → Outcome Answers
answers_to = of_surface its_answers

unfoldable pub surface_answers : List ℕ → ℕ → Outcome Answers
surface_answers src i = answers_to i (gated src)
