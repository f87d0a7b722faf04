-- What the numbers tell that the calls of single functions return. Assumes nothing.
use Rattle.std.specs.Prelude.{None, Option, Some}
use mathlib.Core.Path.{◌≡◌, refl, sym}
use mathlib.Core.Bool.{Bool, true, false, cond}
use mathlib.Core.List.{List, ◌++◌}
use Prim.Native.Nat.{ℕ, ◌^◌, ◌<◌}
use native.Mathlib.Omega.{arith}
use borrow.Author.Tests.{leb-true}
use lib.Dec.{leb, lit<}
use lib.ListN.{length, drop}
use lib.Ieee.{Float}
use Rattle.refusal.specs.Outcome.{Outcome, answer, refusal, map, too_many_layers}
use Rattle.thin_film_solver.specs.declared.ThinFilmLayer.{ThinFilmLayer}
use Rattle.thin_film_presets.specs.Layers.{bragg_layers}
use Rattle.thin_film_coating.specs.Coating.{quarter_wave_layers}
use Rattle.thin_film.specs.declared.SurfaceCoating.{SurfaceCoating}
use Rattle.thin_film.specs.Coating.{standard_wavelength}
use Rattle.c_layers.specs.Evaluate.{call_coating}
use Rattle.polarization.specs.Surface.{surface_fresnel_jones}
use Rattle.name_coating.specs.Name.{from_format_name}
use Rattle.c_call.specs.Call.{packed}
use Rattle.c_call.specs.Layout.{alone, entries}
use Rattle.c_call.proofs.Returned.{Sound}
use Rattle.c_stack.specs.Stack.{flat, stacked}
use Rattle.c_stack.proofs.Flat.{flat_length}
use Rattle.c_fresnel.specs.Fresnel.{reflectances, totals, matrices}
use Rattle.c_fresnel.proofs.Surface.{surface_sound}
use Rattle.c_presets.specs.Presets.{mirror}
use Rattle.c_presets.proofs.Mirror.{long, mirror_sound}
use Rattle.c_names.specs.Names.{named_code, name_of, coating_name, left, name_left, name_said}
use Rattle.c_names.proofs.Refused.{name_sound, small}
use Rattle.c_names.proofs.Short.{Short, short}
use Rattle.c_polarization.specs.Numbers.{of, of_two, parts, parameters, figures}
use Rattle.c_polarization.proofs.Taken.{sound, sound_two}
use Rattle.dihkelu.specs.Numbers.{Tells}
use Rattle.dihkelu.specs.Functions.{FunctionNumbers}
use Rattle.dihkelu.proofs.Rewritten.{Fine, Small}
use Rattle.dihkelu.proofs.Numbers.{tells, tells_fine}

one_layer : (n-ambient n_substrate design : Float) → length (flat (quarter_wave_layers n-ambient n_substrate design)) ≡ 3
unfolding flat quarter_wave_layers
one_layer n-ambient n_substrate design = refl

-- at most 63 layers
module _ (n_high n_low : Float) (pairs : ℕ) (design : Float) where
  few : (layers : List ThinFilmLayer) → mirror n_high n_low pairs design ≡ answer layers → (stacked layers).returned < 2 ^ 32
  few layers e = go (leb pairs 31) refl e
    where
      go : (b : Bool) → leb pairs 31 ≡ b → cond b (answer (bragg_layers n_high n_low pairs design)) too_many_layers ≡ answer layers → (stacked layers).returned < 2 ^ 32
      go true h k = let s : bragg_layers n_high n_low pairs design ≡ layers = cc in rw (sym s) (rw (flat_length (bragg_layers n_high n_low pairs design)) (omega (arith, long n_high n_low design pairs, leb-true pairs 31 h)))
      go false h k = let z : ◌≡◌ {A = ℕ} 0 1 = cc in absurd (omega arith)

fine : (o : Outcome (Option SurfaceCoating)) → Sound o → Fine Small (map named_code o)
fine (answer coating) h = small coating
fine (refusal number place) h = h

coating_name_tells : (o : Outcome (List ℕ)) → Fine Short o → (output : List ℕ) → Tells (name_said o output) (name_left o output).returned
coating_name_tells (refusal number place) h output = tells_fine (refusal number place) h
coating_name_tells (answer name) h output = go (leb (length name) (length output))
  where
    go : (b : Bool) → Tells (cond b (answer (length name)) (refusal 8 0)) (cond b (left (length name) (name ++ drop (length name) output)) (left (packed 8 0) output)).returned
    go true = tells_fine (answer (length name)) (omega (arith, h))
    go false = tells_fine (refusal 8 0) (lit< tt, lit< tt)

coating_name_fine : (i : Option SurfaceCoating) → Fine Short (name_of i)
coating_name_fine (Some coating) = short coating
coating_name_fine None = (lit< tt, lit< tt)

pub function_numbers : FunctionNumbers
function_numbers = record {
  of_dielectric = λ r list. tells reflectances (answer r) tt (λ a e. lit< tt) list;
  of_unpolarized = λ r list. tells totals (answer r) tt (λ a e. lit< tt) list;
  of_schlick = λ x list. tells alone (answer x) tt (λ a e. lit< tt) list;
  of_plate = λ j list. tells entries (answer j) tt (λ a e. lit< tt) list;
  of_quarter_wave_ar = λ n-ambient n_substrate design list.
      let layers = quarter_wave_layers n-ambient n_substrate design in
      tells stacked (answer layers) tt (λ a e. let s : layers ≡ a = cc in rw (sym s) (rw (one_layer n-ambient n_substrate design) (lit< tt))) list;
  of_surface_fresnel_jones = λ n1 n2 angle list. tells matrices (surface_fresnel_jones n1 n2 angle) (surface_sound n1 n2 angle) (λ a e. lit< tt) list;
  of_bragg_mirror = λ n_high n_low pairs design list. tells stacked (mirror n_high n_low pairs design) (mirror_sound n_high n_low design pairs) (few n_high n_low pairs design) list;
  of_name = λ name. tells_fine (map named_code (from_format_name name)) (fine (from_format_name name) (name_sound name));
  of_coating_name = λ code output. coating_name_tells (coating_name code) (coating_name_fine (call_coating code standard_wavelength)) output;
  of_trim = λ name. tells_fine (answer 0) (lit< tt);
  of_parts = λ count call numbers list. tells parts (of count call numbers) (sound parts count call numbers list) (λ a e. lit< tt) list;
  of_parameters = λ count call numbers list. tells parameters (of count call numbers) (sound parameters count call numbers list) (λ a e. lit< tt) list;
  of_figures = λ count call numbers list. tells figures (of count call numbers) (sound figures count call numbers list) (λ a e. lit< tt) list;
  of_alone = λ count call numbers list. tells alone (of count call numbers) (sound alone count call numbers list) (λ a e. lit< tt) list;
  of_entries = λ count call numbers list. tells entries (of count call numbers) (sound entries count call numbers list) (λ a e. lit< tt) list;
  of_two_parts = λ count other call numbers others list. tells parts (of_two count other call numbers others) (sound_two parts count other call numbers others list) (λ a e. lit< tt) list;
  of_two_parameters = λ count other call numbers others list. tells parameters (of_two count other call numbers others) (sound_two parameters count other call numbers others list) (λ a e. lit< tt) list;
  of_two_entries = λ count other call numbers others list. tells entries (of_two count other call numbers others) (sound_two entries count other call numbers others list) (λ a e. lit< tt) list;
}
