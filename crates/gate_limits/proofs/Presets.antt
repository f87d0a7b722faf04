-- The layers of the preset coatings, at their constants: every limit but that on n_incident·abs(sin) holds of them, and it holds of all of them where it holds of the smallest index. Assumes nothing.
use Rattle.std.specs.Prelude.{None, Some}
use mathlib.Core.Path.{◌≡◌, refl, sym, ap, ◌∙◌}
use Prim.Native.Nat.{ℕ, zero, suc}
use mathlib.Core.Bool.{Bool, true, false, ◌&&◌, cond, and-true}
use lib.Dec.{T, eqb}
use borrow.Author.Tests.{ne_eqb}
use lib.Ieee.{Float, binary64, eq, le, mul, div, round, of_bits}
use lib.Ieee.Bits.{is_true}
use lib.Ieee.Fits.{and_i}
use Rattle.ieee.specs.Functions.{zero_f, one, seven_eighths, four}
use Rattle.ieee.specs.Range.{In}
use Rattle.ieee.proofs.Range.Laws.{in_lit, mul_in}
use Rattle.ieee.proofs.Range.Falls.{le_up}
use Rattle.thin_film_solver.specs.Solve.{dielectric}
use Rattle.thin_film_coating.specs.declared.Coating.TheVariants as C
use Rattle.thin_film.specs.declared.SurfaceCoating.TheVariants as S
use Rattle.thin_film.specs.Coating.{standard_wavelength, n_mgf2, mgf2_layers, mirror_layers, layers_of}
use Rattle.thin_film_presets.specs.Layers.{n_sio2, n_tio2, quarter_wave, broadband_layers, bragg_layers}
use Rattle.gate_limits.specs.Coating.{coded, interface, preset_layers}
use Rattle.gate_limits.specs.Limits.{hundred_thousand, within, refracts, layer_within, layers_within}

-- ---- one layer
zero_same : eq zero_f zero_f ≡ true
unfolding eq of_bits
zero_same = refl

layer_is : (b n d : Float) → T (within one four n) → T (within zero_f hundred_thousand d) → layer_within b (dielectric n d) ≡ refracts b n
unfolding layer_within dielectric
layer_is b n d h g = simp (is_true (within one four n) h, zero_same, is_true (within zero_f hundred_thousand d) g)

mgf2_within : T (within one four n_mgf2)
unfolding within le of_bits
mgf2_within = tt

sio2_within : T (within one four n_sio2)
unfolding within le of_bits
sio2_within = tt

tio2_within : T (within one four n_tio2)
unfolding within le of_bits
tio2_within = tt

-- ---- what passes at SiO2's index passes at TiO2's
slope_in : In 7 3 7 3 seven_eighths
unfolding of_bits
slope_in = in_lit seven_eighths tt

sio2_in : In 1 0 3 1 n_sio2
unfolding of_bits
sio2_in = in_lit n_sio2 tt

tio2_in : In 2 0 5 1 n_tio2
unfolding of_bits
tio2_in = in_lit n_tio2 tt

steeper : (b : Float) → T (refracts b n_sio2) → T (refracts b n_tio2)
steeper b = le_up {a = 7} {i = 3} {p = 21} {j = 4} {b = 7} {k = 2} {q = 35} {l = 4} b (mul_in slope_in sio2_in tt) (mul_in slope_in tio2_in tt) tt

-- ---- the lists
quarter_mgf2 : T (within zero_f hundred_thousand (quarter_wave standard_wavelength n_mgf2))
unfolding within le of_bits mul div round
quarter_mgf2 = tt

quarter_sio2 : T (within zero_f hundred_thousand (quarter_wave standard_wavelength n_sio2))
unfolding within le of_bits mul div round
quarter_sio2 = tt

quarter_tio2 : T (within zero_f hundred_thousand (quarter_wave standard_wavelength n_tio2))
unfolding within le of_bits mul div round
quarter_tio2 = tt

mgf2_is : (b : Float) → layers_within b (mgf2_layers standard_wavelength) ≡ refracts b n_mgf2
unfolding layers_within mgf2_layers
mgf2_is b = ap (λ (x : Bool). x && true) (layer_is b n_mgf2 (quarter_wave standard_wavelength n_mgf2) mgf2_within quarter_mgf2) ∙ and-true (refracts b n_mgf2)

-- the thicknesses 88, 112, 32 and 15
broadband_thin : T (within zero_f hundred_thousand (of_bits binary64 0x4056_0000_0000_0000)) × T (within zero_f hundred_thousand (of_bits binary64 0x405C_0000_0000_0000)) × T (within zero_f hundred_thousand (of_bits binary64 0x4040_0000_0000_0000)) × T (within zero_f hundred_thousand (of_bits binary64 0x402E_0000_0000_0000))
unfolding within le of_bits
broadband_thin = (tt, tt, tt, tt)

alternate : (a b : Bool) → (T a → T b) → (a && (b && (a && (b && true)))) ≡ a
alternate true true h = refl
alternate true false h = absurd (h tt)
alternate false b h = refl

broadband_is : (b : Float) → layers_within b broadband_layers ≡ refracts b n_sio2
unfolding layers_within broadband_layers
broadband_is b =
    simp (layer_is b n_sio2 (of_bits binary64 0x4056_0000_0000_0000) sio2_within broadband_thin.0, layer_is b n_tio2 (of_bits binary64 0x405C_0000_0000_0000) tio2_within broadband_thin.1, layer_is b n_sio2 (of_bits binary64 0x4040_0000_0000_0000) sio2_within broadband_thin.2, layer_is b n_tio2 (of_bits binary64 0x402E_0000_0000_0000) tio2_within broadband_thin.3)
    (alternate (refracts b n_sio2) (refracts b n_tio2) (steeper b))

-- (H L)^pairs H
high_is : (b : Float) → layer_within b (dielectric n_tio2 (quarter_wave standard_wavelength n_tio2)) ≡ refracts b n_tio2
high_is b = layer_is b n_tio2 (quarter_wave standard_wavelength n_tio2) tio2_within quarter_tio2

low_is : (b : Float) → layer_within b (dielectric n_sio2 (quarter_wave standard_wavelength n_sio2)) ≡ refracts b n_sio2
low_is b = layer_is b n_sio2 (quarter_wave standard_wavelength n_sio2) sio2_within quarter_sio2

all_pass : (n : ℕ) (b : Float) → T (refracts b n_sio2) → T (layers_within b (bragg_layers n_tio2 n_sio2 n standard_wavelength))
unfolding layers_within bragg_layers
all_pass zero b t = simp (high_is b) (and_i (refracts b n_tio2) true (steeper b t) tt)
all_pass (suc n) b t =
    let rest = layers_within b (bragg_layers n_tio2 n_sio2 n standard_wavelength) in
    simp (high_is b, low_is b) (and_i (refracts b n_tio2) (refracts b n_sio2 && rest) (steeper b t) (and_i (refracts b n_sio2) rest t (all_pass n b t)))

decided : (a b x : Bool) → (T a → T b) → (T a → T x) → (b && (a && x)) ≡ a
decided true true true h g = refl
decided true true false h g = absurd (g tt)
decided true false x h g = absurd (h tt)
decided false true x h g = refl
decided false false x h g = refl

pairs_is : (n : ℕ) (b : Float) → layers_within b (bragg_layers n_tio2 n_sio2 (suc n) standard_wavelength) ≡ refracts b n_sio2
unfolding layers_within bragg_layers
pairs_is n b = simp (high_is b, low_is b) (decided (refracts b n_sio2) (refracts b n_tio2) (layers_within b (bragg_layers n_tio2 n_sio2 n standard_wavelength)) (steeper b) (all_pass n b))

-- ---- by code
module _ (b : Float) (code : ℕ) where
  abbrev presets : ℕ → Bool
  presets k = layers_within b (preset_layers (interface k))

  pub at_mgf2 : code ≡ 2 → refracts b n_mgf2 ≡ layers_within b (preset_layers (interface code))
  unfolding coded interface layers_of
  at_mgf2 e = sym (ap presets e ∙ mgf2_is b)

  pub at_broadband : code ≡ 3 → refracts b n_sio2 ≡ layers_within b (preset_layers (interface code))
  unfolding coded interface layers_of
  at_broadband e = sym (ap presets e ∙ broadband_is b)

  pub at_mirror : code ≡ 4 → refracts b n_sio2 ≡ layers_within b (preset_layers (interface code))
  unfolding coded interface layers_of mirror_layers
  at_mirror e = sym (ap presets e ∙ pairs_is 6 b)

  none : (p q r t : Bool)
      → true ≡ layers_within b (preset_layers (cond p (Some S.IdealAr) (cond q (Some (S.Custom C.Multilayer)) (cond r (Some (S.Custom C.IdealBeamsplitter)) (cond t (Some (S.Custom C.IdealMirror)) None)))))
  unfolding layers_of layers_within
  none true q r t = refl
  none false true r t = refl
  none false false true t = refl
  none false false false true = refl
  none false false false false = refl

  pub at_others : (code ≡ 2 → ⊥) → (code ≡ 3 → ⊥) → (code ≡ 4 → ⊥) → true ≡ layers_within b (preset_layers (interface code))
  unfolding coded interface
  at_others f g h = simp (ne_eqb code 2 f, ne_eqb code 3 g, ne_eqb code 4 h) (none (eqb code 1) (eqb code 5) (eqb code 6) (eqb code 7))
