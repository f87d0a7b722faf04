-- Layers taken one after the other give what evaluate_tmm_multilayer gives. Assumes nothing.
use mathlib.Core.Path.{◌≡◌, refl, sym, ap, ◌∙◌}
use mathlib.Core.List.{List, [], ◌∷◌}
use lib.Ieee.{Float}
use Rattle.thin_film_matrix.specs.Film.{characteristic}
use Rattle.thin_film_matrix.specs.Matrix.{Matrix}
use Rattle.thin_film_solver.specs.declared.ThinFilmLayer.{ThinFilmLayer}
use Rattle.thin_film_solver.specs.declared.CoatingResponse.{CoatingResponse}
use Rattle.thin_film_solver.specs.declared.Incidence.{Incidence}
use Rattle.thin_film_solver.specs.declared.Terms.{Terms}
use Rattle.thin_film_solver.specs.Layer.{layer_s, layer_p}
use Rattle.thin_film_solver.specs.Solve.{product_s, product_p, respond, rust_evaluate, evaluate}
use Rattle.thin_film_solver.specs.Internal.{incidence, terms_of, film, step_s, step_p, finish, onward, LayerByLayer}

pub evaluates : LayerByLayer
unfolding incidence onward finish respond rust_evaluate evaluate
evaluates n_incident n_substrate angle wavelength layers = refl

-- a layer's matrices are those of its terms
film_s : (snell wavelength : Float) (layer : ThinFilmLayer) → film (terms_of snell wavelength layer).phase (terms_of snell wavelength layer).eta_s ≡ layer_s snell wavelength layer
unfolding terms_of layer_s characteristic
film_s snell wavelength layer = refl

film_p : (snell wavelength : Float) (layer : ThinFilmLayer) → film (terms_of snell wavelength layer).phase (terms_of snell wavelength layer).eta_p ≡ layer_p snell wavelength layer
unfolding terms_of layer_p characteristic
film_p snell wavelength layer = refl

module _ (i : Incidence) where
  -- one layer more
  pub takes : (ms mp : Matrix) (t : Terms) (layer : ThinFilmLayer) (layers : List ThinFilmLayer) → t ≡ terms_of i.snell i.wavelength_nm layer
      → onward i (step_s ms t) (step_p mp t) layers ≡ onward i ms mp (layer ∷ layers)
  unfolding onward step_s step_p product_s product_p terms_of layer_s layer_p characteristic
  takes ms mp t layer layers e = ap (λ (u : Terms). onward i (step_s ms u) (step_p mp u) layers) e

  -- none is left
  pub ends : (ms mp : Matrix) → finish i ms mp ≡ onward i ms mp []
  unfolding onward product_s product_p
  ends ms mp = refl
