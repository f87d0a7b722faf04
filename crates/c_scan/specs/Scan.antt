-- dihkelu_evaluate_list: one coated surface at many angles and wavelengths, a case for each pair of them. Definitions only.
use Rattle.std.specs.Prelude.{ℕ, suc, ◌^◌, Bool, ◌&&◌, cond, List, [], ◌∷◌, ◌++◌, eqb, ltb, length, Float}
use Rattle.refusal.specs.Outcome.{Outcome, answer, refusal, map, bind}
use Rattle.thin_film_solver.specs.declared.CoatingResponse.{CoatingResponse}
use Rattle.c_layers.specs.Evaluate.{evaluate}
use Rattle.c_call.specs.Call.{Reply, counted}
use Rattle.c_call.specs.Layout.{response_numbers}

-- a refusal of a case has the case's index as its place
abbrev pub at_case : ℕ → Outcome CoatingResponse → Outcome CoatingResponse
at_case i (answer r) = answer r
at_case i (refusal number place) = refusal number i

-- the responses of case i and of those after it; the first case that is refused refuses all
unfoldable pub responses : (Float → Float → Outcome CoatingResponse) → ℕ → List Float → List Float → Outcome (List CoatingResponse)
responses evaluated i [] wavelengths = answer []
responses evaluated i (angle ∷ angles) [] = answer []
responses evaluated i (angle ∷ angles) (wavelength ∷ wavelengths) =
    bind (at_case i (evaluated angle wavelength)) (λ r. map (λ rs. r ∷ rs) (responses evaluated (suc i) angles wavelengths))

-- so many cases are too many: their numbers would be 2^32
abbrev pub too_many_cases : ℕ
too_many_cases = 2 ^ 28

-- 'case i has angles[i], wavelengths[i]'
abbrev pub paired : List Float → List Float → Bool
paired angles wavelengths = eqb (length angles) (length wavelengths) && ltb (length angles) too_many_cases

-- 1 at 2^28, which no case is, for lists of unequal length and for too many cases
unfoldable pub evaluate_list : ℕ → Float → Float → Float → List Float → List Float → List Float → Outcome (List CoatingResponse)
evaluate_list code design n_incident n_substrate angles wavelengths flat =
    cond (paired angles wavelengths)
    (responses (λ angle wavelength. evaluate code design n_incident n_substrate angle wavelength flat) 0 angles wavelengths)
    (refusal 1 too_many_cases)

-- the numbers of one response after the other
unfoldable pub all_numbers : List CoatingResponse → List Float
all_numbers [] = []
all_numbers (r ∷ rs) = response_numbers r ++ all_numbers rs

-- 16 numbers a case
abbrev pub scanned : List CoatingResponse → Reply
scanned rs = counted (all_numbers rs)
