-- Demand 1: 'The answer to any call, on any bytes and any floats, is a result or one of document 01's numbered refusals.' For each call the
-- numbers of the table 'Turned back', and of document 02's slips, that it can refuse with: no other, and each of them for some arguments.
-- Every call of include/dihkelu.h has a field: those that are lent a list or an output with the 8 for one that is too short.
-- Types only; `proofs/Claim.antt` inhabits `RefusalClaim`.
use Rattle.std.specs.Prelude.{◌≡◌, Bool, false, ◌||◌, List, [], ◌∷◌, ℕ, T, eqb, Float}
use Rattle.refusal.specs.Outcome.{Outcome, answer, refusal}
use Rattle.thin_film_solver.specs.declared.ThinFilmLayer.{ThinFilmLayer}
use Rattle.thin_film_coating.specs.declared.Coating.{Coating}
use Rattle.thin_film_coating.specs.declared.Layers.{Layers}
use Rattle.thin_film_coating.specs.Evaluate.{evaluate_coating}
use Rattle.thin_film_coating.specs.Coating as Built
use Rattle.thin_film_coating.specs.Coating.{quarter_wave_layers}
use Rattle.thin_film.specs.declared.SurfaceCoating.{SurfaceCoating}
use Rattle.thin_film.specs.Coating.{to_coating}
use Rattle.thin_film.specs.Evaluate.{evaluate_surface}
use Rattle.thin_film_shorthand.specs.Stack.{stack}
use Rattle.reflectance_range.specs.Range.{reflectance_range}
use Rattle.name_bytes.specs.declared.Span.{Span}
use Rattle.name_bytes.specs.Trim.{span}
use Rattle.fresnel.specs.Fresnel.{fresnel_dielectric, fresnel_unpolarized, schlick_approx}
use Rattle.polarization_stokes.specs.Jones.{intensity, normalize, to_stokes}
use Rattle.polarization_mueller.specs.Jones.{linear_polarizer, retarder, quarter_wave_plate, half_wave_plate, diattenuator, apply, mul}
use Rattle.polarization_mueller.specs.Mueller.{to_mueller, apply_mueller}
use Rattle.polarization_born_wolf.specs.Conversion.{to_mueller_born_wolf}
use Rattle.c_call.specs.Call.{Reply}
use Rattle.c_call.specs.Layout.{evaluated, surface_answered, rows, alone, entries}
use Rattle.c_layers.specs.Evaluate.{evaluate}
use Rattle.c_scan.specs.Scan.{evaluate_list, scanned}
use Rattle.c_scan.specs.Argument.{invalid_argument}
use Rattle.c_stack.specs.Stack.{stacked}
use Rattle.c_mueller.specs.Mueller.{jones, converted}
use Rattle.c_range.specs.Range.{ranged}
use Rattle.c_fresnel.specs.Fresnel.{reflectances, totals, matrices}
use Rattle.c_presets.specs.Presets.{mirror}
use Rattle.c_names.specs.Names.{coating_name, name_said}
use Rattle.c_polarization.specs.Numbers.{of, of_two, vector, stokes, mueller, parts, parameters, figures}
use Rattle.polarization.specs.Surface.{surface_fresnel_jones}
use Rattle.name_coating.specs.Name.{from_format_name}
use Rattle.sheet.specs.Blocks.{All}
use Rattle.sheet.specs.Claim.{Bytes}
use Rattle.gate.specs.Gate.{gate}
use Rattle.quarter_waves.specs.Waves.{quarter_waves}
use Rattle.sheet_edition_1.specs.Edition.{to_edition_1}
use Rattle.sheet_surfaces.specs.Surfaces.{nth_surface, nth_layer, surface_answers}
use Rattle.sheet_retuned.specs.Retuned.{answers_at}
use Rattle.train_steps.specs.declared.State.{State}
use Rattle.train_steps.specs.Train.{start, step, retune, run}
use Rattle.band.specs.Band.{band}
use Rattle.dihkelu.specs.Numbers.{said}
use Rattle.dihkelu.specs.Band.{banded}

abbrev pub one_of : ℕ → List ℕ → Bool
one_of n [] = false
one_of n (m ∷ ms) = eqb n m || one_of n ms

-- an answer, or a refusal with one of these numbers
abbrev pub Only : {A : Type 0} → List ℕ → Outcome A → Type 0
Only numbers (answer a) = Unit {0}
Only numbers (refusal number place) = T (one_of number numbers)

-- a call, from its arguments to its outcome, refuses with these numbers and with each of them
pub record Refuses {X A : Type 0} (call : X → Outcome A) (numbers : List ℕ) : Type 0 where
  pub only : (x : X) → Only numbers (call x)
  pub each : All (λ (number : ℕ). (x : X) × ((place : ℕ) × (call x ≡ refusal number place))) numbers

-- any bytes
pub record Sheet : Type 0 where
  pub src : List ℕ
  pub bytes : Bytes src

-- n_incident, n_substrate, angle, wavelength; or what a call has in their places
pub record Numbers : Type 0 where
  pub n_incident : Float
  pub n_substrate : Float
  pub angle : Float
  pub wavelength : Float

-- a call of four numbers
abbrev pub at : {A : Type 0} → (Float → Float → Float → Float → A) → Numbers → A
at call n = call n.n_incident n.n_substrate n.angle n.wavelength

-- what a C call says that writes to a lent list, by its arguments and the list: `dihkelu.specs.Numbers` has the number that it returns
abbrev pub listed : {X A : Type 0} → (A → Reply) → (X → Outcome A) → X × List Float → Outcome ℕ
listed layout call x = said layout (call x.0) x.1

-- a call that refuses nothing
abbrev pub always : {X A : Type 0} → (X → A) → X → Outcome A
always call x = answer (call x)

pub record RefusalClaim : Type 0 where
  pub of_gate : Refuses (λ (x : Sheet). gate x.src) (4 ∷ 5 ∷ 6 ∷ [])
  pub of_start : Refuses (λ (x : Sheet). start x.src) (4 ∷ 5 ∷ 6 ∷ [])
  pub of_step : Refuses (λ (x : Sheet × State). step x.0.src x.1) (4 ∷ 5 ∷ 6 ∷ 7 ∷ 11 ∷ [])
  pub of_retune : Refuses (λ (x : Sheet × (State × Float)). retune x.0.src x.1.0 x.1.1) (4 ∷ 5 ∷ 6 ∷ 11 ∷ [])
  pub of_run : Refuses (λ (x : Sheet × List Float). (run x.0.src x.1).result) (4 ∷ 5 ∷ 6 ∷ 8 ∷ [])
  pub of_edition_1 : Refuses (λ (x : Sheet × List ℕ). (to_edition_1 x.0.src x.1).result) (4 ∷ 5 ∷ 6 ∷ 12 ∷ 8 ∷ [])
  pub of_band : Refuses (λ (x : Sheet × (List Float × List ℕ)). band x.0.src x.1.0 x.1.1) (4 ∷ 5 ∷ 6 ∷ 12 ∷ 15 ∷ 16 ∷ [])
  pub of_answers : Refuses (λ (x : Sheet × ℕ). surface_answers x.0.src x.1) (4 ∷ 5 ∷ 6 ∷ 7 ∷ [])
  pub of_nth_surface : Refuses (λ (x : Sheet × ℕ). nth_surface x.0.src x.1) (4 ∷ 5 ∷ 6 ∷ 7 ∷ [])
  pub of_nth_layer : Refuses (λ (x : Sheet × (ℕ × ℕ)). nth_layer x.0.src x.1.0 x.1.1) (4 ∷ 5 ∷ 6 ∷ 7 ∷ [])
  pub of_coating : Refuses (λ (x : Coating × (List ThinFilmLayer × Numbers)). at (evaluate_coating x.0 x.1.0) x.1.1) (1 ∷ 3 ∷ [])
  pub of_surface : Refuses (λ (x : SurfaceCoating × (List ThinFilmLayer × Numbers)). at (evaluate_surface x.0 x.1.0) x.1.1)
      (1 ∷ 3 ∷ [])
  -- of a code, numbers with the design wavelength in the wavelength's place, angles, wavelengths and layers
  pub of_evaluate_list : Refuses
      (λ (x : (ℕ × Numbers) × (List Float × (List Float × List Float))).
      at (λ n_incident n_substrate angle design. evaluate_list x.0.0 design n_incident n_substrate x.1.0 x.1.1.0 x.1.1.1)
      x.0.1) (1 ∷ 3 ∷ [])
  pub of_fresnel : Refuses (λ (x : Numbers). surface_fresnel_jones x.n_incident x.n_substrate x.angle) (1 ∷ [])
  pub of_name : Refuses from_format_name (2 ∷ [])
  pub of_coating_name : Refuses coating_name (2 ∷ [])
  pub of_bragg_mirror : Refuses
      (λ (x : Numbers × ℕ). Built.outcome (at (λ n_high n_low angle design. Built.bragg_mirror n_high n_low x.1 design) x.0)) (3 ∷ [])
  pub of_to_coating : Refuses (λ (x : SurfaceCoating × Layers). Built.outcome (to_coating x.0 x.1)) (3 ∷ [])
  pub of_stack : Refuses (λ (x : List ℕ × Numbers). at (stack x.0) x.1) (1 ∷ 9 ∷ 10 ∷ [])
  pub of_reflectance_range : Refuses (λ (x : Numbers). at reflectance_range x) (13 ∷ [])
  pub of_quarter_waves : Refuses (λ (x : Numbers). at (λ n thickness angle wavelength. quarter_waves n thickness wavelength) x) (14 ∷ [])
  -- ---- through C, where it differs from the above: a list or an output is lent, or nothing is refused
  pub c_answers_at : Refuses
      (listed surface_answered (λ (x : Sheet × (ℕ × Float)). answers_at x.0.src x.1.0 x.1.1)) (4 ∷ 5 ∷ 6 ∷ 7 ∷ 11 ∷ 8 ∷ [])
  pub c_answers : Refuses (listed surface_answered (λ (x : Sheet × ℕ). surface_answers x.0.src x.1)) (4 ∷ 5 ∷ 6 ∷ 7 ∷ 8 ∷ [])
  pub c_band : Refuses (listed banded (λ (x : Sheet × (List Float × List ℕ)). band x.0.src x.1.0 x.1.1))
      (4 ∷ 5 ∷ 6 ∷ 12 ∷ 15 ∷ 16 ∷ 8 ∷ [])
  -- of a code, the design wavelength, numbers and layers
  pub c_evaluate : Refuses
      (listed evaluated (λ (x : (ℕ × Float) × (Numbers × List Float)).
      at (λ n_incident n_substrate angle wavelength. evaluate x.0.0 x.0.1 n_incident n_substrate angle wavelength x.1.1)
      x.1.0))
      (1 ∷ 3 ∷ 8 ∷ [])
  pub c_evaluate_list : Refuses
      (listed scanned (λ (x : (ℕ × Numbers) × (List Float × (List Float × List Float))).
      at (λ n_incident n_substrate angle design. evaluate_list x.0.0 design n_incident n_substrate x.1.0 x.1.1.0 x.1.1.1)
      x.0.1)) (1 ∷ 3 ∷ 8 ∷ [])
  pub c_invalid_argument : Refuses (always (at invalid_argument)) []
  pub c_stack : Refuses (listed stacked (λ (x : List ℕ × Numbers). at (stack x.0) x.1)) (1 ∷ 9 ∷ 10 ∷ 8 ∷ [])
  pub c_to_mueller : Refuses (listed rows (converted to_mueller)) (1 ∷ 8 ∷ [])
  pub c_mueller_born_wolf : Refuses (listed rows (converted to_mueller_born_wolf)) (1 ∷ 8 ∷ [])
  pub c_reflectance_range : Refuses (listed ranged (λ (x : Numbers). at reflectance_range x)) (13 ∷ 8 ∷ [])
  -- of a cosine or two indices and a wavelength in the places of three numbers
  pub c_fresnel_dielectric : Refuses (listed reflectances (always (at (λ cos n1 n2 _. fresnel_dielectric cos n1 n2)))) (8 ∷ [])
  pub c_fresnel_unpolarized : Refuses (listed totals (always (at (λ cos n1 n2 _. fresnel_unpolarized cos n1 n2)))) (8 ∷ [])
  pub c_schlick_approx : Refuses (listed alone (always (at (λ cos n1 n2 _. schlick_approx cos n1 n2)))) (8 ∷ [])
  pub c_surface_fresnel_jones : Refuses
      (listed matrices (λ (x : Numbers). surface_fresnel_jones x.n_incident x.n_substrate x.angle)) (1 ∷ 8 ∷ [])
  pub c_quarter_wave_ar : Refuses
      (listed stacked (always (at (λ n-ambient n_substrate _ design. quarter_wave_layers n-ambient n_substrate design)))) (8 ∷ [])
  pub c_bragg_mirror : Refuses
      (listed stacked (λ (x : Numbers × ℕ). at (λ n_high n_low _ design. mirror n_high n_low x.1 design) x.0)) (3 ∷ 8 ∷ [])
  pub c_coating_name : Refuses (λ (x : ℕ × List ℕ). name_said (coating_name x.0) x.1) (2 ∷ 8 ∷ [])
  pub c_trim : Refuses {A = Span} (always span) []
  pub c_to_stokes : Refuses (listed parameters (of 4 (λ given. to_stokes (vector given)))) (1 ∷ 8 ∷ [])
  pub c_jones_normalize : Refuses (listed parts (of 4 (λ given. normalize (vector given)))) (1 ∷ 8 ∷ [])
  pub c_jones_intensity : Refuses (listed alone (of 4 (λ given. intensity (vector given)))) (1 ∷ 8 ∷ [])
  pub c_stokes_figures : Refuses (listed figures (of 4 (λ given. stokes given))) (1 ∷ 8 ∷ [])
  pub c_jones_apply : Refuses
      (listed parts (λ (x : List Float × List Float). of_two 8 4 (λ given other. apply (jones given) (vector other)) x.0 x.1))
      (1 ∷ 8 ∷ [])
  pub c_jones_mul : Refuses
      (listed entries (λ (x : List Float × List Float). of_two 8 8 (λ given other. mul (jones given) (jones other)) x.0 x.1))
      (1 ∷ 8 ∷ [])
  pub c_mueller_apply : Refuses
      (listed parameters (λ (x : List Float × List Float).
      of_two 16 4 (λ given other. apply_mueller (mueller given) (stokes other)) x.0 x.1))
      (1 ∷ 8 ∷ [])
  pub c_diattenuator : Refuses (listed entries (of 4 (λ given. diattenuator (vector given).ex (vector given).ey))) (1 ∷ 8 ∷ [])
  pub c_linear_polarizer : Refuses (listed entries (always linear_polarizer)) (8 ∷ [])
  pub c_retarder : Refuses (listed entries (always (λ (x : Float × Float). retarder x.0 x.1))) (8 ∷ [])
  pub c_quarter_wave_plate : Refuses (listed entries (always quarter_wave_plate)) (8 ∷ [])
  pub c_half_wave_plate : Refuses (listed entries (always half_wave_plate)) (8 ∷ [])
