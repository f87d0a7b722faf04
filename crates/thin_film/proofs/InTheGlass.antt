-- 02 slip 2, of every function that gives a response. Assumes nothing.
use mathlib.Core.Path.{refl, ap}
use lib.Ieee as Ieee
use lib.Ieee.{of_bits}
use Rattle.ieee.specs.Functions.{clamp}
use Rattle.refusal.specs.Outcome.{Outcome, answer, refusal, map}
use Rattle.thin_film_solver.specs.Absorptance.{RustResponse, absorptance, with_absorptance}
use Rattle.thin_film_solver.proofs.InTheGlass.{absorptance_claim}
use Rattle.thin_film_solver.specs.Solve.{rust_respond, evaluate}
use Rattle.thin_film_coating.specs.Evaluate.{evaluate_coating}
use Rattle.thin_film.specs.Evaluate.{evaluate_surface}
use Rattle.thin_film.specs.Absorptance.{Gains, ResponseClaim}

-- whatever the Rust gives
pub gains : (rust : Outcome RustResponse) → Gains (map with_absorptance rust) rust
gains (answer r) = record { old = ap answer (absorptance_claim.kept r); new = refl }
gains (refusal number place) = record { old = refl; new = refl }

pub response_claim : ResponseClaim
unfolding evaluate evaluate_coating evaluate_surface rust_respond absorptance with_absorptance clamp Ieee.lt Ieee.sub Ieee.add Ieee.neg of_bits
response_claim = record {
  solver = λ n_incident n_substrate angle wavelength layers. gains (answer _);
  coating = λ coating layers n_incident n_substrate angle wavelength. gains _;
  surface = λ surface custom n_incident n_substrate angle wavelength. gains _;
  ar = record { s = refl; p = refl };
  mirror = record { s = refl; p = refl };
  beamsplitter = record { s = refl; p = refl };
}
