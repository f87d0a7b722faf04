-- Internal: films in arrays of 16, as the code has them. A reader need not believe it.
use Rattle.std.specs.Prelude.{◌≡◌, ℕ, zero, suc, ◌%◌, ◌<◌, Bool, cond, List, ltb, length, get_or, Float}
use Rattle.std.specs.Float.{nan}
use Rattle.ieee.specs.Operators.{◌⊗◌}
use Rattle.math_trig.specs.Trig.{sin, cos}
use Rattle.math_waves.specs.Waves.{written}
use Rattle.thin_film_solver.specs.declared.ThinFilmLayer.{ThinFilmLayer}
use Rattle.thin_film_layers.specs.Evaluation.{no_layer}
use Rattle.thin_film_layers.specs.Internal.{nth_index}
use Rattle.surface_real.specs.declared.Film.{Film}
use Rattle.surface_real.specs.declared.Medium.{Medium}
use Rattle.surface_real.specs.declared.Stack.{Stack}
use Rattle.surface_real.specs.Internal.{medium_of, film_in, join}

-- what stands at a place
abbrev pub at : List Float → ℕ → Float
at l i = get_or l i nan

-- the film of the medium at a place
unfoldable pub film_at : List Float → List Float → List Float → ℕ → Film
film_at eta_s eta_p delta j = film_in (at eta_s j) (at eta_p j) (sin (at delta j)) (cos (at delta j))

-- the media of a list's layers stand in the first places
abbrev pub Media : Float → Float → List Float → List Float → List Float → List ThinFilmLayer → Type 0
Media snell wavelength eta_s eta_p delta layers =
    (i : ℕ) → i < length layers
    → ◌≡◌ {A = Medium} (record { eta_s = at eta_s i; eta_p = at eta_p i; delta = at delta i }) (medium_of snell wavelength (get_or layers i no_layer))

-- the media of the first n layers are written to three arrays
abbrev pub Wrote : Float → Float → (ℕ → ThinFilmLayer) → ℕ → List Float → List Float → List Float → List Float → List Float → List Float → Type 0
Wrote snell wavelength layer n eta-s₀ eta-p₀ delta₀ eta_s eta_p delta =
    (eta_s ≡ written (λ i. (medium_of snell wavelength (layer i)).eta_s) n eta-s₀)
    × (eta_p ≡ written (λ i. (medium_of snell wavelength (layer i)).eta_p) n eta-p₀)
    × (delta ≡ written (λ i. (medium_of snell wavelength (layer i)).delta) n delta₀)

-- the film whose numbers stand at a place
unfoldable pub film_here : List Float → List Float → List Float → List Float → List Float → List Float → ℕ → Film
film_here sin cos eta_s eta_p y-s y-p j = record {
  cos = at cos j;
  y_s = at y-s j;
  z_s = at sin j ⊗ at eta_s j;
  y_p = at y-p j;
  z_p = at sin j ⊗ at eta_p j;
}

-- where the film of the layer at a place stands: past the films that are worked out, the layers take turns
abbrev pub film_place : ℕ → ℕ → ℕ
film_place j films = cond (ltb j films) j (j % 2)

-- the first i of n films in the order that light meets them
unfoldable pub joined : (ℕ → Film) → Bool → ℕ → ℕ → Stack → Stack
joined f reversed n zero k = k
joined f reversed n (suc i) k = join (joined f reversed n i k) (f (nth_index reversed n i))
