-- A surface that passes the limits has the ranges that the proofs of its answers start from. Assumes nothing.
use mathlib.Core.Path.{sym, subst}
use mathlib.Core.List.{List, [], ◌∷◌}
use mathlib.Core.Bool.{◌&&◌}
use lib.Dec.{T}
use lib.Ieee.{Float, le, eq, of_bits}
use lib.Ieee.Fits.{and_l, and_r}
use lib.Ieee.Scale.{finite}
use lib.Ieee.Positive.{positive}
use Rattle.ieee.specs.Operators.{◌⊗◌}
use Rattle.ieee.specs.Functions.{zero_f, one, seven_eighths, four, quarter}
use Rattle.ieee.specs.Range.{In, Mag}
use Rattle.ieee.proofs.Range.Laws.{in_lit}
use Rattle.ieee.proofs.Range.Tests.{gate_in, gate_least}
use Rattle.ieee.proofs.Range.FromZero.{from_zero, equals_zero}
use Rattle.ieee.proofs.Range.AbsProduct.{abs_mul}
use Rattle.ieee.proofs.Range.Constants.{one_in}
use Rattle.math_trig.specs.Trig.{sin, cos}
use Rattle.math_trig.proofs.TrigBounds.{sin_mag, cos_mag}
use Rattle.thin_film_solver.specs.declared.ThinFilmLayer.{ThinFilmLayer}
use Rattle.thin_film_bounds.specs.Solver.{Refracts, AdmittedLayer, Each}
use Rattle.gate_limits.specs.declared.Surface.{Surface}
use Rattle.gate_limits.specs.Coating.{interface, preset_layers}
use Rattle.gate_limits.specs.Limits.{hundred, ten_thousand, hundred_thousand, within, wavelength_passes, snell_size, refracts, layer_within, layers_within, layer_passes, layers_pass, angle_passes, surface_passes}

-- ---- the ends
pub four_in : In 4 0 4 0 four
unfolding of_bits
four_in = in_lit four tt

quarter_in : In 1 2 1 2 quarter
unfolding of_bits
quarter_in = in_lit quarter tt

hundred_in : In 100 0 100 0 hundred
unfolding of_bits
hundred_in = in_lit hundred tt

ten_thousand_in : In 10000 0 10000 0 ten_thousand
unfolding of_bits
ten_thousand_in = in_lit ten_thousand tt

pub hundred_thousand_in : In 100000 0 100000 0 hundred_thousand
unfolding of_bits
hundred_thousand_in = in_lit hundred_thousand tt

index_ends : T (positive one && positive four)
unfolding of_bits
index_ends = tt

wave_ends : T (positive hundred && positive ten_thousand)
unfolding of_bits
wave_ends = tt

quarter_positive : T (positive quarter)
unfolding of_bits
quarter_positive = tt

-- ---- each limit
pub index_in : (x : Float) → T (within one four x) → In 1 0 4 0 x
unfolding within
index_in x t = gate_in one four x one_in four_in index_ends (and_l (le one x) (le x four) t) (and_r (le one x) (le x four) t)

pub wavelength_in : (x : Float) → T (wavelength_passes x) → In 100 0 10000 0 x
unfolding within
wavelength_in x t = gate_in hundred ten_thousand x hundred_in ten_thousand_in wave_ends (and_l (le hundred x) (le x ten_thousand) t) (and_r (le hundred x) (le x ten_thousand) t)

pub thickness_in : (x : Float) → T (within zero_f hundred_thousand x) → Mag 100000 0 x
unfolding within
thickness_in x t = from_zero x hundred_thousand hundred_thousand_in (and_l (le zero_f x) (le x hundred_thousand) t) (and_r (le zero_f x) (le x hundred_thousand) t)

-- n_incident·abs(sin) is the size of n_incident·sin
refracts_in : (n0 angle n : Float) → In 1 0 4 0 n0 → T (finite angle) → T (refracts (snell_size n0 angle) n) → Refracts (n0 ⊗ sin angle) n
refracts_in n0 angle n h f t = subst (λ (z : Float). T (le z (seven_eighths ⊗ n))) (sym (abs_mul n0 (sin angle) h.sign (sin_mag angle f).fine)) t

-- ---- the layers
layer_in : (n0 angle : Float) (layer : ThinFilmLayer) → In 1 0 4 0 n0 → T (finite angle) → T (layer_passes n0 angle layer) → AdmittedLayer (n0 ⊗ sin angle) layer
unfolding layer_within
layer_in n0 angle layer h f t =
    let A = within one four layer.n in
    let B = eq layer.k zero_f in
    let C = within zero_f hundred_thousand layer.thickness_nm in
    let D = refracts (snell_size n0 angle) layer.n in
    let t₁ = and_r A (B && (C && D)) t in
    let t₂ = and_r B (C && D) t₁ in
    record {
      index = index_in layer.n (and_l A (B && (C && D)) t);
      lossless = equals_zero layer.k (and_l B (C && D) t₁);
      thickness = thickness_in layer.thickness_nm (and_l C D t₂);
      refracts = refracts_in n0 angle layer.n h f (and_r C D t₂);
    }

pub layers_in : (n0 angle : Float) (layers : List ThinFilmLayer) → In 1 0 4 0 n0 → T (finite angle) → T (layers_pass n0 angle layers) → Each (AdmittedLayer (n0 ⊗ sin angle)) layers
unfolding layers_within
layers_in n0 angle [] h f t = tt
layers_in n0 angle (layer ∷ layers) h f t = (layer_in n0 angle layer h f (and_l (layer_passes n0 angle layer) (layers_pass n0 angle layers) t), layers_in n0 angle layers h f (and_r (layer_passes n0 angle layer) (layers_pass n0 angle layers) t))

-- ---- a surface
pub record Inside (s : Surface) : Type 0 where
  pub incident : In 1 0 4 0 s.n_incident
  pub substrate : In 1 0 4 0 s.n_substrate
  pub finite_angle : T (finite s.angle_rad)
  pub cosine : In 1 2 1 0 (cos s.angle_rad)
  pub bent : Refracts (s.n_incident ⊗ sin s.angle_rad) s.n_substrate
  pub presets : T (layers_pass s.n_incident s.angle_rad (preset_layers (interface s.coating)))

pub surface_in : (s : Surface) → T (surface_passes s) → Inside s
unfolding surface_passes angle_passes
surface_in s t =
    let n0 = s.n_incident in
    let angle = s.angle_rad in
    let A = within one four n0 in
    let B = within one four s.n_substrate in
    let C = finite angle in
    let D = le quarter (cos angle) in
    let E = refracts (snell_size n0 angle) s.n_substrate in
    let F = layers_pass n0 angle (preset_layers (interface s.coating)) in
    let t₁ = and_r A (B && (C && (D && (E && F)))) t in
    let t₂ = and_r B (C && (D && (E && F))) t₁ in
    let t₃ = and_r C (D && (E && F)) t₂ in
    let t₄ = and_r D (E && F) t₃ in
    let incident = index_in n0 (and_l A (B && (C && (D && (E && F)))) t) in
    let fine = and_l C (D && (E && F)) t₂ in
    record {
      incident = incident;
      substrate = index_in s.n_substrate (and_l B (C && (D && (E && F))) t₁);
      finite_angle = fine;
      cosine = gate_least quarter (cos angle) quarter_in (cos_mag angle fine) quarter_positive (and_l D (E && F) t₃);
      bent = refracts_in n0 angle s.n_substrate incident fine (and_l E F t₄);
      presets = and_r E F t₄;
    }
