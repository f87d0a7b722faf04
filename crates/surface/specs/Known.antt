-- What stands where there are no answers, and beside a refusal. Types only; `proofs/Known.antt` has them.
use Rattle.std.specs.Prelude.{◌≡◌, ℕ, false, replicate, Float, Result, Err}
use Rattle.std.specs.Float.{binary64}
use Rattle.std.specs.Float.Ieee.{of_bits}
use Rattle.thin_film_solver.specs.Solve.{no_response}
use Rattle.refusal.specs.declared.Refusal.{Refusal}
use Rattle.refusal.specs.Outcome.{refusal, outcome, number_of, place_of}
use Rattle.surface.specs.declared.Answers.{Answers}
use Rattle.surface.specs.Answers.{no_answers}

-- +0
abbrev pub naught : Float
naught = of_bits binary64 0

pub record KnownNoAnswers : Type 0 where
  -- no coating, and +0 throughout; of the response `KnownNoResponse` says it
  pub naughts : no_answers ≡ record {
    coated = false;
    powers = record { reflectance_s = naught; reflectance_p = naught; transmittance_s = naught; transmittance_p = naught };
    response = no_response;
    reflection = record { m = replicate 4 (record { re = naught; im = naught }) };
    transmission = record { m = replicate 4 (record { re = naught; im = naught }) };
    reflection_mueller = record { m = replicate 16 naught };
    transmission_mueller = record { m = replicate 16 naught };
  }
  -- beside a refusal stands nothing, no answers and not these: what a function returns then is a case of `Refusal`, of that number and place
  pub beside_a_refusal : (r : Result Answers Refusal) (number place : ℕ) → outcome r ≡ refusal number place →
      (x : Refusal) × (r ≡ Err x) × (number ≡ number_of x) × (place ≡ place_of x)
