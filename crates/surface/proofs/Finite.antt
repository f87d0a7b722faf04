-- The claims of specs/Finite.antt. Assumes nothing.
use Rattle.thin_film.specs.declared.SurfaceCoating.{SurfaceCoating}
use Rattle.std.specs.Prelude.{None, Option, Some}
use mathlib.Core.Path.{◌≡◌, refl, ap, ◌∙◌}
use Prim.Native.Nat.{◌≤◌}
use mathlib.Core.Bool.{Bool, true, false, ◌||◌}
use mathlib.Core.Logic.{◌⊎◌, inl, inr}
use mathlib.Core.List.{List}
use lib.Dec.{T}
use lib.ListN.{length}
use lib.Ieee.{Float, le}
use lib.Ieee.Fits.{and_l, and_r, and_i}
use Rattle.ieee.specs.Operators.{◌⊗◌}
use Rattle.ieee.specs.Functions.{zero_f, one}
use Rattle.ieee.specs.Range.{In}
use Rattle.ieee.proofs.Range.Constants.{zero_mag, zero_foot}
use Rattle.ieee.proofs.Range.Falls as Falls
use Rattle.ieee.proofs.Range.Falls.{zero_to_one, in_zero_to_one, product_unit, product_cross, sum_le, to_tests}
use Rattle.thin_film_complex.specs.Complex.{zero}
use Rattle.refusal.specs.Outcome.{answer, map}
use Rattle.thin_film_solver.specs.declared.ThinFilmLayer.{ThinFilmLayer}
use Rattle.thin_film_solver.specs.declared.CoatingResponse.{CoatingResponse}
use Rattle.math_trig.specs.Trig.{sin}
use Rattle.thin_film_coating.specs.declared.Coating.TheVariants as C
use Rattle.thin_film.specs.declared.SurfaceCoating.TheVariants as S
use Rattle.thin_film.specs.Coating.{layers_of}
use Rattle.thin_film_bounds.specs.Solver.{AdmittedLayers, all_absorbing}
use Rattle.polarization.specs.declared.SurfaceJones.{SurfaceJones}
use Rattle.polarization.specs.Surface.{surface_coating_jones}
use Rattle.gate_limits.specs.declared.Surface.{Surface}
use Rattle.surface.specs.declared.Powers.{Powers}
use Rattle.gate_limits.specs.Coating.{coded, interface, preset_layers}
use Rattle.gate_limits.specs.Limits.{within, layers_pass, surface_passes, metal_passes, passes}
use Rattle.thin_film_solver.specs.Solve.{no_response}
use Rattle.surface.specs.Answers.{assembled, coated_powers, coated_answers, bare_powers, bare_answers, answers_of, answers}
use Rattle.surface.specs.Finite.{UnitPowers, FiniteComplex, FiniteResponse, UnitAbsorptances, Answered, Held, EverySurfaceAnswered, ProductFalls, SumFalls}
use Rattle.gate_limits.proofs.Ranges.{wavelength_in, Inside, surface_in}
use Rattle.gate_limits.proofs.Metal.{absorbs}
use Rattle.surface.proofs.Polarized.{PowerJones, jones_finite, mueller_finite}
use Rattle.surface.proofs.Bare.{bare_unit, bare_jones}
use Rattle.surface.proofs.Coated.{chosen_lossless, surface_responds, bounded_powers, bounded_finite, bounded_absorptances, bounded_jones}

-- ---- from the parts of an answer
assembled_answered : (w : Float) (s : Surface) (layers : List ThinFilmLayer) (coated : Bool) (powers : Powers) (response : CoatingResponse) (jones : SurfaceJones)
    → answers w s layers ≡ answer (assembled coated powers response jones) → UnitPowers powers → FiniteResponse response → UnitAbsorptances response → PowerJones jones → Answered w s layers
unfolding assembled
assembled_answered w s layers coated powers response jones e p r u j = record {
  value = assembled coated powers response jones;
  is = e;
  powers = p;
  response = r;
  absorptances = u;
  reflection = jones_finite j.reflection;
  transmission = jones_finite j.transmission;
  reflection_mueller = mueller_finite j.reflection;
  transmission_mueller = mueller_finite j.transmission;
}

-- a bare surface's response is zero throughout
zero_finite : FiniteComplex zero
zero_finite = record { re = zero_mag.fine; im = zero_mag.fine }

none_finite : FiniteResponse no_response
none_finite = record {
  rs = zero_finite;
  rp = zero_finite;
  ts = zero_finite;
  tp = zero_finite;
  reflectance_s = zero_mag.fine;
  reflectance_p = zero_mag.fine;
  transmittance_s = zero_mag.fine;
  transmittance_p = zero_mag.fine;
  phase_rs = zero_mag.fine;
  phase_rp = zero_mag.fine;
  absorptance_s = zero_mag.fine;
  absorptance_p = zero_mag.fine;
}

none_unit : UnitAbsorptances no_response
unfolding within
none_unit = let z = to_tests (in_zero_to_one zero_foot) in record { absorptance_s = z; absorptance_p = z }

-- ---- by what lies between the media
abbrev Ready : Float → Surface → List ThinFilmLayer → Option SurfaceCoating → Type 0
Ready w s layers None = Unit {0}
Ready w s layers (Some coating) = AdmittedLayers (s.n_incident ⊗ sin s.angle_rad) w (layers_of coating layers)

by_interface : (i : Option SurfaceCoating) (w : Float) (s : Surface) (layers : List ThinFilmLayer) → interface s.coating ≡ i → Inside s → In 100 0 10000 0 w → Ready w s layers i → Answered w s layers
unfolding answers_of bare_answers coated_answers
by_interface None w s layers e h W a =
    let j = bare_jones s h in
    assembled_answered w s layers false (bare_powers s) no_response j.value (ap (λ (i : Option SurfaceCoating). answers_of i w s layers) e ∙ ap (map (assembled false (bare_powers s) no_response)) j.is) (bare_unit s h) none_finite none_unit j.pow
by_interface (Some coating) w s layers e h W a =
    let r = surface_responds s w coating layers h W a in
    assembled_answered w s layers true (coated_powers r.value) r.value (surface_coating_jones r.value) (ap (λ (i : Option SurfaceCoating). answers_of i w s layers) e ∙ ap (map coated_answers) r.is)
    (bounded_powers r.bounded) (bounded_finite r.bounded) (bounded_absorptances r.bounded) (bounded_jones r.bounded)

-- ---- under the old limits, or under those of metal films
lossless : (i : Option SurfaceCoating) (w : Float) (s : Surface) (layers : List ThinFilmLayer) → Inside s → T (layers_pass s.n_incident s.angle_rad (preset_layers i)) → T (layers_pass s.n_incident s.angle_rad layers)
    → length layers ≤ 16 → Ready w s layers i
lossless None w s layers h p t few = tt
lossless (Some coating) w s layers h p t few = chosen_lossless s w coating layers h p t few

custom : interface 5 ≡ Some (S.Custom C.Multilayer)
unfolding interface coded
custom = refl

absorbing : (w : Float) (s : Surface) (layers : List ThinFilmLayer) → Inside s → In 100 0 10000 0 w → Held s layers → T (metal_passes w s layers) → Answered w s layers
unfolding layers_of
absorbing w s layers h W f t =
    let a = absorbs w s layers W f.angle f.each_k t in
    by_interface (Some (S.Custom C.Multilayer)) w s layers (ap interface a.custom ∙ custom) h W (all_absorbing (a.straight s.n_incident h.incident) a.each a.few)

either : (a b : Bool) → T (a || b) → T a ⊎ T b
either true b t = inl tt
either false b t = inr t

pub every_surface_answered : EverySurfaceAnswered
unfolding passes
every_surface_answered w s layers held wave pass few =
    let L = layers_pass s.n_incident s.angle_rad layers in
    let M = metal_passes w s layers in
    let h = surface_in s (and_l (surface_passes s) (L || M) pass) in
    let W = wavelength_in w wave in
    elim (either L M (and_r (surface_passes s) (L || M) pass)) [
      | inl t ↦ by_interface (interface s.coating) w s layers refl h W (lossless (interface s.coating) w s layers h h.presets t few)
      | inr t ↦ absorbing w s layers h W held t
    ]

-- ---- powers that are multiplied
pub product_falls : ProductFalls
unfolding within
product_falls x y held p q =
    let X = zero_to_one x p in
    let Y = zero_to_one y q in
    let z = x ⊗ y in
    and_i (le zero_f z) (le z x) (and_l (le zero_f z) (le z one) (to_tests (product_unit X Y))) (Falls.product_falls x y held X Y)

pub sum_falls : SumFalls
unfolding within
sum_falls x y u v held held' p q r t =
    let X = zero_to_one x p in
    let Y = zero_to_one y q in
    let U = zero_to_one u r in
    let W = zero_to_one v t in
    sum_le (product_unit X Y) (product_unit U W) X U (product_cross x y held X Y) (product_cross u v held' U W)
