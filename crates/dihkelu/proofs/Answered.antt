-- The refusals of a surface's answers, and what a reply tells of them. Assumes nothing.
use Rattle.thin_film.specs.declared.SurfaceCoating.{SurfaceCoating}
use Rattle.std.specs.Prelude.{None, Option, Some}
use mathlib.Core.Path.{◌≡◌, refl, sym, ap, ◌∙◌, subst}
use mathlib.Core.List.{List}
use Prim.Native.Nat.{ℕ}
use native.Mathlib.Omega.{arith}
use lib.Dec.{ltb}
use lib.ListN.{length, drop}
use borrow.Author.Tests.{ne_eqb}
use lib.Ieee.{Float}
use Rattle.refusal.specs.Outcome.{Outcome, answer, refusal, bind, invalid_parameter}
use Rattle.math_trig.specs.Trig.{sin, cos}
use Rattle.thin_film_solver.specs.declared.ThinFilmLayer.{ThinFilmLayer}
use Rattle.thin_film.specs.Evaluate.{evaluate_surface}
use Rattle.polarization.specs.Surface.{indices_valid, bare, surface_fresnel_jones}
use Rattle.gate_limits.specs.declared.Surface as Value
use Rattle.surface.specs.declared.Answers.{Answers}
use Rattle.gate_limits.specs.Coating.{interface}
use Rattle.surface.specs.Answers.{coated_answers, bare_answers, answers_of}
use Rattle.sheet.specs.Sheet.{nth, Sheet}
use Rattle.sheet.specs.Claim.{Bytes}
use Rattle.sheet_values.specs.Values.{value, films, surface_value, met_with, met_at}
use Rattle.gate.specs.Gate.{gated}
use Rattle.gate.specs.Wavelength.{holds}
use Rattle.sheet_surfaces.specs.Surfaces.{answers_to, surface_answers}
use Rattle.sheet_retuned.specs.Retuned.{retuned_before, answers_at}
use Rattle.c_layers.proofs.Plain.{Plain, either, mapped, of_surface}
use Rattle.c_call.specs.Call.{Done, Apart, answered}
use Rattle.c_call.specs.Layout.{surface_answered}
use Rattle.c_call.proofs.Returned.{Sound, sound_apart}
use Rattle.dihkelu.proofs.Places.{plain_sound, gate_sound}

module _ (wavelength : Float) (s : Value.Surface) (layers : List ThinFilmLayer) where
  fresnel : Plain (surface_fresnel_jones s.n_incident s.n_substrate s.angle_rad)
  unfolding surface_fresnel_jones
  fresnel =
      let n₁ = s.n_incident in
      let n₂ = s.n_substrate in
      let θ = s.angle_rad in
      either (indices_valid n₁ n₂ θ) (answer (bare n₁ n₂ (sin θ) (cos θ))) invalid_parameter tt (omega arith, refl)

  of_interface : (k : Option SurfaceCoating) → Plain (answers_of k wavelength s layers)
  unfolding answers_of bare_answers
  of_interface None = mapped _ (surface_fresnel_jones s.n_incident s.n_substrate s.angle_rad) fresnel
  of_interface (Some coating) = mapped coated_answers (evaluate_surface coating layers s.n_incident s.n_substrate s.angle_rad wavelength) (of_surface s.n_incident s.n_substrate s.angle_rad wavelength coating layers)

-- ---- a surface of a sheet
pub answers_sound : (src : List ℕ) → Bytes src → (i : ℕ) → Sound (surface_answers src i)
unfolding surface_answers
answers_sound src bytes i = go (gated src) (gate_sound src bytes)
  where
    go : (o : Outcome Sheet) → Sound o → Sound (answers_to i o)
    go (answer x) h =
        let y = nth x.surfaces i in
        let w = met_at (value x.wavelength) x.surfaces i in
        plain_sound (answers_to i (answer x)) (either (ltb i (length x.surfaces)) _ (refusal 7 0) (of_interface w (surface_value y) (films w y.layers) (interface (surface_value y).coating)) (omega arith, refl))
    go (refusal number place) h = h

-- at a wavelength that the train is retuned to right before
pub answers_at_sound : (src : List ℕ) → Bytes src → (i : ℕ) (w : Float) → Sound (answers_at src i w)
unfolding answers_at
answers_at_sound src bytes i w = go (gated src) (gate_sound src bytes)
  where
    go : (o : Outcome Sheet) → Sound o → Sound (bind o (retuned_before i w))
    go (answer x) h =
        let y = nth x.surfaces i in
        let v = met_with w y.tuning in
        plain_sound (retuned_before i w x)
        (either (ltb i (length x.surfaces)) _ (refusal 7 0)
        (either (holds w (drop i x.surfaces)) _ (refusal 11 0) (of_interface v (surface_value y) (films v y.layers) (interface (surface_value y).coating)) (omega arith, refl)) (omega arith, refl))
    go (refusal number place) h = h
