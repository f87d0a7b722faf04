-- 02 slip 2, of every function that gives a response: 'The old fields are still held against the Rust, the two new ones against this slip.'
-- Definitions only; proofs/InTheGlass.antt has the proof.
use Rattle.std.specs.Prelude.{◌≡◌, List, Float}
use Rattle.ieee.specs.Functions.{zero_f}
use Rattle.refusal.specs.Outcome.{Outcome, answer, map}
use Rattle.thin_film_solver.specs.declared.ThinFilmLayer.{ThinFilmLayer}
use Rattle.thin_film_solver.specs.declared.CoatingResponse.{CoatingResponse}
use Rattle.thin_film_solver.specs.Absorptance.{RustResponse, with_absorptance, rust_fields}
use Rattle.thin_film_solver.specs.Solve.{rust_evaluate, evaluate}
use Rattle.thin_film_valid.specs.Ideal.{ideal_ar, ideal_mirror, ideal_beamsplitter}
use Rattle.thin_film_coating.specs.declared.Coating.{Coating}
use Rattle.thin_film_coating.specs.Evaluate.{rust_evaluate_coating, evaluate_coating}
use Rattle.thin_film.specs.declared.SurfaceCoating.{SurfaceCoating}
use Rattle.thin_film.specs.Evaluate.{rust_evaluate_surface, evaluate_surface}

-- what is given has the Rust's fields, or is refused as the Rust refuses it; and it is that with the two numbers
pub record Gains (given : Outcome CoatingResponse) (rust : Outcome RustResponse) : Type 0 where
  pub old : map rust_fields given ≡ rust
  pub new : given ≡ map with_absorptance rust

-- both numbers are +0
pub record NothingStays (r : CoatingResponse) : Type 0 where
  pub s : r.absorptance_s ≡ zero_f
  pub p : r.absorptance_p ≡ zero_f

pub record ResponseClaim : Type 0 where
  -- evaluate_tmm_multilayer, Coating::evaluate and SurfaceCoating::evaluate
  pub solver : (n_incident n_substrate angle wavelength : Float) (layers : List ThinFilmLayer)
      → Gains (answer (evaluate n_incident n_substrate angle wavelength layers))
      (answer (rust_evaluate n_incident n_substrate angle wavelength layers))
  pub coating : (coating : Coating) (layers : List ThinFilmLayer) (n_incident n_substrate angle wavelength : Float)
      → Gains (evaluate_coating coating layers n_incident n_substrate angle wavelength)
      (rust_evaluate_coating coating layers n_incident n_substrate angle wavelength)
  pub surface : (surface : SurfaceCoating) (custom : List ThinFilmLayer) (n_incident n_substrate angle wavelength : Float)
      → Gains (evaluate_surface surface custom n_incident n_substrate angle wavelength)
      (rust_evaluate_surface surface custom n_incident n_substrate angle wavelength)
  -- the ideal coatings
  pub ar : NothingStays ideal_ar
  pub mirror : NothingStays ideal_mirror
  pub beamsplitter : NothingStays ideal_beamsplitter
