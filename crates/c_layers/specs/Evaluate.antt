-- SurfaceCoating::evaluate of a coating by its code, its layers in a flat list. Definitions only.
use Rattle.thin_film.specs.declared.SurfaceCoating.{SurfaceCoating}
use Rattle.std.specs.Prelude.{ℕ, ◌%◌, cond, List, [], ◌∷◌, eqb, length, Float, None, Option, Some}
use Rattle.refusal.specs.Outcome.{Outcome, invalid_parameter}
use Rattle.thin_film_solver.specs.declared.ThinFilmLayer.{ThinFilmLayer}
use Rattle.thin_film_solver.specs.declared.CoatingResponse.{CoatingResponse}
use Rattle.thin_film_coating.specs.declared.Coating.TheVariants as C
use Rattle.thin_film.specs.declared.SurfaceCoating.TheVariants as S
use Rattle.thin_film.specs.Evaluate.{evaluate_surface}
use Rattle.gate_limits.specs.Coating.{coded}

-- n, k and thickness of one layer after the other; one or two numbers past the last layer are none
unfoldable pub layers : List Float → List ThinFilmLayer
layers [] = []
layers (n ∷ []) = []
layers (n ∷ k ∷ []) = []
layers (n ∷ k ∷ thickness ∷ flat) = record { n = n; k = k; thickness_nm = thickness } ∷ layers flat

-- a sheet's codes, and 8 for Custom(IdealAr), so that each SurfaceCoating has one
unfoldable pub call_coating : ℕ → Float → Option SurfaceCoating
call_coating code design = cond (eqb code 8) (Some (S.Custom C.IdealAr)) (coded code design)

-- SurfaceCoating::evaluate of a coating; where a code has none it is 1
unfoldable pub evaluate_coded : Option SurfaceCoating → List Float → Float → Float → Float → Float → Outcome CoatingResponse
evaluate_coded (Some surface) flat n_incident n_substrate angle wavelength =
    evaluate_surface surface (layers flat) n_incident n_substrate angle wavelength
evaluate_coded None flat n_incident n_substrate angle wavelength = invalid_parameter

-- 1 for a flat list that is no multiple of 3
unfoldable pub evaluate : ℕ → Float → Float → Float → Float → Float → List Float → Outcome CoatingResponse
evaluate code design n_incident n_substrate angle wavelength flat =
    let coated = evaluate_coded (call_coating code design) flat n_incident n_substrate angle wavelength in
    cond (eqb (length flat % 3) 0) coated invalid_parameter
