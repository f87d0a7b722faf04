-- What the numbers tell that the calls of single functions of the Rust return, as `Numbers` has it of the other calls. Definitions only;
-- proofs/Functions.antt has the proof.
use Rattle.std.specs.Prelude.{List, ℕ, Float}
use Rattle.refusal.specs.Outcome.{answer, map}
use Rattle.fresnel.specs.declared.Reflectances.{Reflectances}
use Rattle.fresnel.specs.declared.Unpolarized.{Unpolarized}
use Rattle.polarization_stokes.specs.declared.JonesVector.{JonesVector}
use Rattle.polarization_stokes.specs.declared.StokesVector.{StokesVector}
use Rattle.polarization_mueller.specs.declared.JonesMatrix.{JonesMatrix}
use Rattle.polarization.specs.Surface.{surface_fresnel_jones}
use Rattle.thin_film_coating.specs.Coating.{quarter_wave_layers}
use Rattle.name_coating.specs.Name.{from_format_name}
use Rattle.c_call.specs.Call.{returned, written, answered}
use Rattle.c_call.specs.Layout.{alone, entries}
use Rattle.c_stack.specs.Stack.{stacked}
use Rattle.c_fresnel.specs.Fresnel.{reflectances, totals, matrices}
use Rattle.c_presets.specs.Presets.{mirror}
use Rattle.c_names.specs.Names.{named_code, coating_name, name_left, name_said, trim_left}
use Rattle.c_polarization.specs.Numbers.{of, of_two, parts, parameters, figures}
use Rattle.dihkelu.specs.Numbers.{Tells, said}

pub record FunctionNumbers : Type 0 where
  -- calls that refuse with nothing but 8: whatever is worked out
  pub of_dielectric : (r : Reflectances) (list : List Float)
      → Tells (said reflectances (answer r) list) (written (reflectances r) list).returned
  pub of_unpolarized : (r : Unpolarized) (list : List Float) → Tells (said totals (answer r) list) (written (totals r) list).returned
  pub of_schlick : (x : Float) (list : List Float) → Tells (said alone (answer x) list) (written (alone x) list).returned
  pub of_plate : (j : JonesMatrix) (list : List Float) → Tells (said entries (answer j) list) (written (entries j) list).returned
  pub of_quarter_wave_ar : (n-ambient n_substrate design : Float) (list : List Float)
      → Tells (said stacked (answer (quarter_wave_layers n-ambient n_substrate design)) list)
      (written (stacked (quarter_wave_layers n-ambient n_substrate design)) list).returned
  -- a bare surface, a mirror, a name, a code
  pub of_surface_fresnel_jones : (n1 n2 angle : Float) (list : List Float)
      → Tells (said matrices (surface_fresnel_jones n1 n2 angle) list)
      (answered matrices (surface_fresnel_jones n1 n2 angle) list).returned
  pub of_bragg_mirror : (n_high n_low : Float) (pairs : ℕ) (design : Float) (list : List Float)
      → Tells (said stacked (mirror n_high n_low pairs design) list) (answered stacked (mirror n_high n_low pairs design) list).returned
  pub of_name : (name : List ℕ) → Tells (map named_code (from_format_name name)) (returned (map named_code (from_format_name name)))
  pub of_coating_name : (code : ℕ) (output : List ℕ) → Tells (name_said (coating_name code) output)
      (name_left (coating_name code) output).returned
  -- dihkelu_trim refuses nothing
  pub of_trim : (name : List ℕ) → Tells (answer 0) (trim_left name).returned
  -- calls that take one list of so many numbers, or two: whatever they work out
  pub of_parts : (count : ℕ) (call : List Float → JonesVector) (numbers list : List Float)
      → Tells (said parts (of count call numbers) list) (answered parts (of count call numbers) list).returned
  pub of_parameters : (count : ℕ) (call : List Float → StokesVector) (numbers list : List Float)
      → Tells (said parameters (of count call numbers) list) (answered parameters (of count call numbers) list).returned
  pub of_figures : (count : ℕ) (call : List Float → StokesVector) (numbers list : List Float)
      → Tells (said figures (of count call numbers) list) (answered figures (of count call numbers) list).returned
  pub of_alone : (count : ℕ) (call : List Float → Float) (numbers list : List Float)
      → Tells (said alone (of count call numbers) list) (answered alone (of count call numbers) list).returned
  pub of_entries : (count : ℕ) (call : List Float → JonesMatrix) (numbers list : List Float)
      → Tells (said entries (of count call numbers) list) (answered entries (of count call numbers) list).returned
  pub of_two_parts : (count other : ℕ) (call : List Float → List Float → JonesVector) (numbers others list : List Float)
      → Tells (said parts (of_two count other call numbers others) list)
      (answered parts (of_two count other call numbers others) list).returned
  pub of_two_parameters : (count other : ℕ) (call : List Float → List Float → StokesVector) (numbers others list : List Float)
      → Tells (said parameters (of_two count other call numbers others) list)
      (answered parameters (of_two count other call numbers others) list).returned
  pub of_two_entries : (count other : ℕ) (call : List Float → List Float → JonesMatrix) (numbers others list : List Float)
      → Tells (said entries (of_two count other call numbers others) list)
      (answered entries (of_two count other call numbers others) list).returned
