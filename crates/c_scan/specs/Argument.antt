-- dihkelu_invalid_argument: which argument earned evaluate's InvalidParameter. Definitions only.
use Rattle.std.specs.Prelude.{◌≡◌, ℕ, cond, List, Float}
use Rattle.std.specs.Float.Ieee.Scale.{finite}
use Rattle.ieee.specs.Functions.{finite_positive}
use Rattle.refusal.specs.Outcome.{invalid_parameter}
use Rattle.thin_film_solver.specs.declared.ThinFilmLayer.{ThinFilmLayer}
use Rattle.thin_film.specs.declared.SurfaceCoating.{SurfaceCoating}
use Rattle.thin_film.specs.Evaluate.{evaluate_surface}

-- the first that fails, in the order in which the Rust tests them: 1 n_incident, 2 n_substrate, 3 the angle, 4 the wavelength; 0 for none
unfoldable pub invalid_argument : Float → Float → Float → Float → ℕ
invalid_argument n_incident n_substrate angle wavelength =
    cond (finite_positive n_incident)
    (cond (finite_positive n_substrate)
    (cond (finite angle)
    (cond (finite_positive wavelength) 0 4) 3) 2) 1

-- it is 0 exactly where SurfaceCoating::evaluate does not refuse with 1; proofs/Argument.antt has the proof
pub record ArgumentClaim : Type 0 where
  pub none_fails : (surface : SurfaceCoating) (layers : List ThinFilmLayer) (n_incident n_substrate angle wavelength : Float)
      → invalid_argument n_incident n_substrate angle wavelength ≡ 0
      → evaluate_surface surface layers n_incident n_substrate angle wavelength ≡ invalid_parameter → ⊥
  pub one_fails : (surface : SurfaceCoating) (layers : List ThinFilmLayer) (n_incident n_substrate angle wavelength : Float)
      → (invalid_argument n_incident n_substrate angle wavelength ≡ 0 → ⊥)
      → evaluate_surface surface layers n_incident n_substrate angle wavelength ≡ invalid_parameter
