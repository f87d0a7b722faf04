-- A coated surface within the limits: evaluate refuses nothing, and every number of its response is bounded. Assumes nothing.
use mathlib.Core.Path.{◌≡◌}
use Prim.Native.Nat.{ℕ, ◌≤◌}
use native.Mathlib.Nat.{le_trans}
use mathlib.Core.Bool.{Bool, true, false}
use mathlib.Core.List.{List, [], ◌∷◌, reverse_aux}
use lib.Dec.{T, leb, le→leb, lit≤}
use lib.ListN.{length, length-reverse}
use lib.Ieee.{Float, lt, le}
use lib.Ieee.Bits.{is_true}
use lib.Ieee.Scale.{finite}
use Rattle.ieee.specs.Operators.{◌⊗◌}
use Rattle.ieee.specs.Functions.{half}
use Rattle.ieee.specs.Range.{In}
use Rattle.ieee.proofs.Range.Laws.{in_mag, in_up, mag_up, neg_mag}
use Rattle.ieee.proofs.Range.FromZero.{in_positive}
use Rattle.ieee.proofs.Range.Falls.{zero_to_one, in_zero_to_one, to_tests}
use Rattle.ieee.proofs.Range.Constants.{zero_mag, zero_foot, half_in, one_in, one_mag}
use Rattle.math_root.specs.Root.{sqrt}
use Rattle.math_root.proofs.Range.{sqrt_in}
use Rattle.math_atan.proofs.AtanBounds.{pi_mag}
use Rattle.math_trig.specs.Trig.{sin}
use Rattle.refusal.specs.Outcome.{Outcome, answer}
use Rattle.thin_film_solver.specs.declared.ThinFilmLayer.{ThinFilmLayer}
use Rattle.thin_film_solver.specs.declared.CoatingResponse.{CoatingResponse}
use Rattle.thin_film_solver.specs.Absorptance.{with_absorptance}
use Rattle.thin_film_solver.specs.Solve as Solve
use Rattle.thin_film_coating.specs.declared.Coating.{Coating}
use Rattle.thin_film_coating.specs.declared.Coating.TheVariants as C
use Rattle.thin_film.specs.declared.SurfaceCoating.{SurfaceCoating}
use Rattle.thin_film.specs.declared.SurfaceCoating.TheVariants as S
use Rattle.thin_film.specs.Coating.{coating_of, layers_of, mgf2_layers, mirror_layers}
use Rattle.thin_film_layers.specs.Evaluation.{ordered}
use Rattle.thin_film_presets.specs.Layers.{broadband_layers, bragg_layers}
use Rattle.thin_film_valid.specs.Valid.{valid}
use Rattle.thin_film_valid.specs.Ideal.{ideal_ar, ideal_mirror, ideal_beamsplitter}
use Rattle.thin_film_coating.specs.Evaluate.{rust_respond, rust_evaluate_coating, evaluate_coating}
use Rattle.thin_film.specs.Evaluate.{rust_evaluate_surface, evaluate_surface}
use Rattle.polarization.specs.Surface.{surface_coating_jones}
use Rattle.thin_film_bounds.specs.Solver.{AdmittedLayer, AbsorbingLayer, Each, AdmittedLayers, all_lossless, all_absorbing, Bounded}
use Rattle.thin_film_bounds.proofs.Powers.{zero_pow, cpow_up}
use Rattle.thin_film_bounds.proofs.InTheGlass.{absorptance_passes}
use Rattle.thin_film_bounds.proofs.Solve.{every_response_bounded}
use Rattle.gate_limits.specs.declared.Surface.{Surface}
use Rattle.surface.specs.Answers.{coated_powers}
use Rattle.gate_limits.specs.Limits.{within, layers_pass}
use Rattle.surface.specs.Finite.{UnitPowers, FiniteResponse, UnitAbsorptances}
use Rattle.gate_limits.proofs.Ranges.{layers_in, Inside}
use Rattle.surface.proofs.Polarized.{PowerJones, cpow_finite, of_real_pow, diattenuator_pow}

-- ---- the layers that a coating is evaluated with: they pass, there are 16 at most, and reversed they are the same ones
chosen_pass : (n angle : Float) (coating : SurfaceCoating) (layers : List ThinFilmLayer) → T (layers_pass n angle (layers_of coating [])) → T (layers_pass n angle layers) → T (layers_pass n angle (layers_of coating layers))
unfolding layers_of
chosen_pass n angle S.IdealAr layers p t = p
chosen_pass n angle (S.MgF2 design) layers p t = p
chosen_pass n angle S.BroadbandAr layers p t = p
chosen_pass n angle S.HighReflectanceMirror layers p t = p
chosen_pass n angle (S.Custom C.Multilayer) layers p t = t
chosen_pass n angle (S.Custom C.IdealAr) layers p t = p
chosen_pass n angle (S.Custom C.IdealMirror) layers p t = p
chosen_pass n angle (S.Custom C.IdealBeamsplitter) layers p t = p

chosen_few : (coating : SurfaceCoating) (layers : List ThinFilmLayer) → length layers ≤ 16 → length (layers_of coating layers) ≤ 16
unfolding layers_of mgf2_layers broadband_layers mirror_layers bragg_layers
chosen_few S.IdealAr layers h = lit≤ tt
chosen_few (S.MgF2 design) layers h = lit≤ tt
chosen_few S.BroadbandAr layers h = lit≤ tt
chosen_few S.HighReflectanceMirror layers h = lit≤ tt
chosen_few (S.Custom C.Multilayer) layers h = h
chosen_few (S.Custom C.IdealAr) layers h = lit≤ tt
chosen_few (S.Custom C.IdealMirror) layers h = lit≤ tt
chosen_few (S.Custom C.IdealBeamsplitter) layers h = lit≤ tt

-- the old limits of the surface's own layers
pub chosen_lossless : (s : Surface) (w : Float) (coating : SurfaceCoating) (layers : List ThinFilmLayer) → Inside s → T (layers_pass s.n_incident s.angle_rad (layers_of coating []))
    → T (layers_pass s.n_incident s.angle_rad layers) → length layers ≤ 16 → AdmittedLayers (s.n_incident ⊗ sin s.angle_rad) w (layers_of coating layers)
chosen_lossless s w coating layers h p t few =
    let n0 = s.n_incident in
    let angle = s.angle_rad in
    all_lossless (layers_in n0 angle (layers_of coating layers) h.incident h.finite_angle (chosen_pass n0 angle coating layers p t)) (chosen_few coating layers few)

turned : (P : ThinFilmLayer → Type 0) (layers rest : List ThinFilmLayer) → Each P layers → Each P rest → Each P (reverse_aux layers rest)
turned P [] rest h g = g
turned P (layer ∷ layers) rest h g = turned P layers (layer ∷ rest) h.1 (h.0, g)

reversed : (P : ThinFilmLayer → Type 0) (turn : Bool) (layers : List ThinFilmLayer) → Each P layers → Each P (ordered turn layers)
unfolding ordered
reversed P false layers h = h
reversed P true layers h = turned P layers [] h tt

ordered_few : (turn : Bool) (layers : List ThinFilmLayer) {most : ℕ} → length layers ≤ most → length (ordered turn layers) ≤ most
unfolding ordered
ordered_few false layers h = h
ordered_few true layers h = rw length-reverse h

ordered_in : (snell w : Float) (turn : Bool) (layers : List ThinFilmLayer) → AdmittedLayers snell w layers → AdmittedLayers snell w (ordered turn layers)
ordered_in snell w turn layers (all_lossless gs few) = all_lossless (reversed (AdmittedLayer snell) turn layers gs) (ordered_few turn layers few)
ordered_in snell w turn layers (all_absorbing z gs few) = all_absorbing z (reversed (AbsorbingLayer w) turn layers gs) (ordered_few turn layers few)

-- 16 at the most
few_enough : {snell w : Float} {layers : List ThinFilmLayer} → AdmittedLayers snell w layers → length layers ≤ 16
few_enough (all_lossless gs few) = few
few_enough (all_absorbing z gs few) = le_trans few (lit≤ tt)

-- ---- the ideal coatings
root_half : In 1 1 1 0 (sqrt half)
root_half = sqrt_in half_in tt

ideal_ar_bounded : Bounded ideal_ar
unfolding Solve.rust_respond with_absorptance
ideal_ar_bounded = record {
  rs = zero_pow 475;
  rp = zero_pow 475;
  ts = of_real_pow 291 one_mag tt;
  tp = of_real_pow 291 one_mag tt;
  reflectance_s = zero_foot;
  reflectance_p = zero_foot;
  transmittance_s = in_up one_in tt;
  transmittance_p = in_up one_in tt;
  phase_rs = mag_up zero_mag tt;
  phase_rp = mag_up zero_mag tt;
  absorptance_s = absorptance_passes zero_foot (in_up one_in tt);
  absorptance_p = absorptance_passes zero_foot (in_up one_in tt);
}

ideal_mirror_bounded : Bounded ideal_mirror
unfolding Solve.rust_respond with_absorptance
ideal_mirror_bounded = record {
  rs = of_real_pow 475 (neg_mag one_mag) tt;
  rp = of_real_pow 475 one_mag tt;
  ts = zero_pow 291;
  tp = zero_pow 291;
  reflectance_s = in_up one_in tt;
  reflectance_p = in_up one_in tt;
  transmittance_s = zero_foot;
  transmittance_p = zero_foot;
  phase_rs = mag_up pi_mag tt;
  phase_rp = mag_up zero_mag tt;
  absorptance_s = absorptance_passes (in_up one_in tt) zero_foot;
  absorptance_p = absorptance_passes (in_up one_in tt) zero_foot;
}

ideal_beamsplitter_bounded : Bounded ideal_beamsplitter
unfolding Solve.rust_respond with_absorptance
ideal_beamsplitter_bounded = record {
  rs = of_real_pow 475 (in_mag root_half) tt;
  rp = of_real_pow 475 (in_mag root_half) tt;
  ts = of_real_pow 291 (in_mag root_half) tt;
  tp = of_real_pow 291 (in_mag root_half) tt;
  reflectance_s = in_up half_in tt;
  reflectance_p = in_up half_in tt;
  transmittance_s = in_up half_in tt;
  transmittance_p = in_up half_in tt;
  phase_rs = mag_up zero_mag tt;
  phase_rp = mag_up zero_mag tt;
  absorptance_s = absorptance_passes (in_up half_in tt) (in_up half_in tt);
  absorptance_p = absorptance_passes (in_up half_in tt) (in_up half_in tt);
}

-- ---- evaluate refuses nothing
pub record Responds (o : Outcome CoatingResponse) : Type 0 where
  pub value : CoatingResponse
  pub is : o ≡ answer value
  pub bounded : Bounded value

module _ (n0 ns angle w : Float) (N : In 1 0 4 0 n0) (M : In 1 0 4 0 ns) (f : T (finite angle)) (W : In 100 0 10000 0 w) where
  valid_here : valid n0 ns angle w ≡ true
  unfolding valid
  valid_here = simp (in_positive N tt, in_positive M tt, is_true (finite angle) f, in_positive W tt)

  coating_responds : (coating : Coating) (layers : List ThinFilmLayer) → length layers ≤ 16 → Bounded (Solve.evaluate n0 ns angle w layers) → Responds (evaluate_coating coating layers n0 ns angle w)
  unfolding rust_respond rust_evaluate_coating evaluate_coating Solve.evaluate
  coating_responds C.IdealAr layers few b = record { value = ideal_ar; is = rw valid_here; bounded = ideal_ar_bounded }
  coating_responds C.IdealMirror layers few b = record { value = ideal_mirror; is = rw valid_here; bounded = ideal_mirror_bounded }
  coating_responds C.IdealBeamsplitter layers few b = record { value = ideal_beamsplitter; is = rw valid_here; bounded = ideal_beamsplitter_bounded }
  coating_responds C.Multilayer layers few b = record {
    value = Solve.evaluate n0 ns angle w layers;
    is = rw (valid_here, is_true (leb (length layers) 64) (le→leb (length layers) 64 (le_trans few (lit≤ tt))));
    bounded = b;
  }

pub surface_responds : (s : Surface) (w : Float) (coating : SurfaceCoating) (layers : List ThinFilmLayer) → Inside s → In 100 0 10000 0 w
    → AdmittedLayers (s.n_incident ⊗ sin s.angle_rad) w (layers_of coating layers)
    → Responds (evaluate_surface coating layers s.n_incident s.n_substrate s.angle_rad w)
unfolding evaluate_coating rust_evaluate_surface evaluate_surface
surface_responds s w coating layers h W a =
    let n0 = s.n_incident in
    let ns = s.n_substrate in
    let angle = s.angle_rad in
    let read = ordered (lt ns n0) (layers_of coating layers) in
    let all : AdmittedLayers (n0 ⊗ sin angle) w read = ordered_in (n0 ⊗ sin angle) w (lt ns n0) (layers_of coating layers) a in
    coating_responds n0 ns angle w h.incident h.substrate h.finite_angle W (coating_of coating) read (few_enough all)
    (every_response_bounded n0 ns angle w read (record { incident = h.incident; substrate = h.substrate; finite_angle = h.finite_angle; cosine = h.cosine; wavelength_in = W; refracts = h.bent; admitted = all }))

-- ---- what a bounded response gives
pub bounded_powers : {r : CoatingResponse} → Bounded r → UnitPowers (coated_powers r)
unfolding coated_powers within
bounded_powers h = record {
  reflectance_s = to_tests (in_zero_to_one h.reflectance_s);
  reflectance_p = to_tests (in_zero_to_one h.reflectance_p);
  transmittance_s = to_tests (in_zero_to_one h.transmittance_s);
  transmittance_p = to_tests (in_zero_to_one h.transmittance_p);
}

pub bounded_finite : {r : CoatingResponse} → Bounded r → FiniteResponse r
bounded_finite h = record {
  rs = cpow_finite h.rs;
  rp = cpow_finite h.rp;
  ts = cpow_finite h.ts;
  tp = cpow_finite h.tp;
  reflectance_s = (in_mag h.reflectance_s).fine;
  reflectance_p = (in_mag h.reflectance_p).fine;
  transmittance_s = (in_mag h.transmittance_s).fine;
  transmittance_p = (in_mag h.transmittance_p).fine;
  phase_rs = h.phase_rs.fine;
  phase_rp = h.phase_rp.fine;
  absorptance_s = (zero_to_one _ h.absorptance_s).mag.fine;
  absorptance_p = (zero_to_one _ h.absorptance_p).mag.fine;
}

pub bounded_absorptances : {r : CoatingResponse} → Bounded r → UnitAbsorptances r
unfolding within
bounded_absorptances h = record { absorptance_s = h.absorptance_s; absorptance_p = h.absorptance_p }

pub bounded_jones : {r : CoatingResponse} → Bounded r → PowerJones (surface_coating_jones r)
unfolding surface_coating_jones
bounded_jones h = record {
  reflection = diattenuator_pow h.rs h.rp;
  transmission = diattenuator_pow (cpow_up h.ts (lit≤ tt)) (cpow_up h.tp (lit≤ tt));
}
