-- Internal: what the two loops over the cases leave. A reader need not believe it: what is exported names `evaluate_list`.
use Rattle.std.specs.Prelude.{◌≡◌, ℕ, ◌+◌, ◌*◌, ◌≤◌, List, [], ◌++◌, length, take, drop, Float, Result, Ok, Err}
use Rattle.refusal.specs.Outcome.{Outcome, answer, refusal, map, number_of}
use Rattle.thin_film_solver.specs.declared.CoatingResponse.{CoatingResponse}
use Rattle.c_layers.specs.Evaluate.{evaluate}
use Rattle.c_call.specs.Layout.{response_numbers}
use Rattle.c_scan.specs.declared.RefusedCase.{RefusedCase}
use Rattle.c_scan.specs.Scan.{responses, all_numbers}

-- the cases of a call
abbrev pub cases : ℕ → Float → Float → Float → List Float → List Float → List Float → Outcome (List CoatingResponse)
cases code design n_incident n_substrate angles wavelengths flat =
    responses (λ angle wavelength. evaluate code design n_incident n_substrate angle wavelength flat) 0 angles wavelengths

-- what is refused of all cases, or nothing
abbrev pub refusal_of_all : Outcome (List CoatingResponse) → Outcome (Unit {0})
refusal_of_all o = map (λ rs. tt) o

-- a case's refusal has the case's index as its place
abbrev pub all_answered : Result (Unit {0}) RefusedCase → Outcome (Unit {0})
all_answered (Ok a) = answer tt
all_answered (Err r) = refusal (number_of r.refusal) r.index

-- a case's numbers at a place of the list
abbrev pub placed : ℕ → Outcome CoatingResponse → List Float → List Float
placed at (answer r) list = take at list ++ (response_numbers r ++ drop (at + 16) list)
placed at (refusal number place) list = list

-- the numbers of all cases; none where one is refused
abbrev pub numbers_of : Outcome (List CoatingResponse) → List Float
numbers_of (answer rs) = all_numbers rs
numbers_of (refusal number place) = []

-- all cases are answered, and their numbers fit
pub record Room (o : Outcome (List CoatingResponse)) (angles wavelengths list : List Float) : Type 0 where
  pub none_refused : answer tt ≡ refusal_of_all o
  pub as_many : length angles ≡ length wavelengths
  pub fits : 16 * length angles ≤ length list
