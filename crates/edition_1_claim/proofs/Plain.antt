-- What became of a kind 6 has the same film at the wavelength that its index was computed at. Assumes nothing.
use mathlib.Core.Path.{◌≡◌, refl, sym, ap, ◌∙◌, subst}
use mathlib.Core.Bool.{Bool, true, false, ◌&&◌, ◌||◌}
use mathlib.Core.Logic.{◌⊎◌, inl, inr, ⊎_elim}
use mathlib.Core.List.{List, [], ◌∷◌, map}
use Prim.Native.Nat.{ℕ, zero, suc}
use native.Mathlib.Omega.{arith}
use lib.Dec.{T}
use lib.ListN.{drop, length-map, get_or-map}
use lib.Ieee.{Float, binary64, fits}
use lib.Ieee.Fits.{add-fits}
use lib.Ieee.Bits.{of_bits-to_bits, to_bits-lt}
use Rattle.thin_film_solver.specs.declared.ThinFilmLayer.{ThinFilmLayer}
use Rattle.gate_limits.specs.Limits.{wavelength_passes, layer_within, metal_passes}
use Rattle.sheet.specs.Blocks.{All}
use Rattle.sheet.specs.Sheet.{SheetLayer, layer, cauchy, Tuning, keeps, SheetSurface, no_surface, nth, Sheet, GoodLayer, GoodTuning, GoodSurface, WellFormed}
use Rattle.sheet_values.specs.declared.Cauchy.{Cauchy}
use Rattle.sheet_values.specs.Values.{value, cauchy_value, cauchy_index, film, films, surface_value, met_with, met_at}
use Rattle.gate.specs.Gate.{coefficients_finite, layer_admitted, all_finite, metal_admitted, snell_of}
use Rattle.gate.specs.Wavelength.{layers_admitted, surface_admitted, unless_tuned, layers_hold, holds}
use Rattle.gate.specs.Claim.{WithinLimits}
use Rattle.gate.proofs.Wavelengths.{both, and, AllMet, met_within, all_met}
use Rattle.sheet_edition_1.specs.Edition.{plain, plain_surface, translated}
use Rattle.sheet_untuned.specs.Claim.{Untuned}

-- ---- a layer
index_fits : (w : Float) (g : Cauchy) → T (fits binary64 (cauchy_index w g))
unfolding cauchy_index
index_fits w g = add-fits binary64 _ _

plain_film : (w : Float) (l : SheetLayer) → film w (plain w l) ≡ film w l
plain_film w (layer n k t) = refl
plain_film w (cauchy a b c t) = let g = cauchy_value a b c t in λ i. record { n = of_bits-to_bits binary64 (cauchy_index w g) (index_fits w g) i; k = value 0; thickness_nm = value t }

pub plain_films : (w : Float) (ls : List SheetLayer) → films w (map (plain w) ls) ≡ films w ls
unfolding films
plain_films w [] = refl
plain_films w (l ∷ ls) = λ i. plain_film w l i ∷ plain_films w ls i

plain_good : (edition : ℕ) (w : Float) (l : SheetLayer) → GoodLayer edition l → GoodLayer 1 (plain w l)
plain_good edition w (layer n k t) g = g
plain_good edition w (cauchy a b c t) g = (to_bits-lt binary64 _ (index_fits w (cauchy_value a b c t)), (omega arith, g.1.1.1.1))

plain_goods : (edition : ℕ) (w : Float) (ls : List SheetLayer) → All (GoodLayer edition) ls → All (GoodLayer 1) (map (plain w) ls)
plain_goods edition w [] g = tt
plain_goods edition w (l ∷ ls) g = (plain_good edition w l g.0, plain_goods edition w ls g.1)

plain_finite : (w : Float) (l : SheetLayer) → T (coefficients_finite (plain w l))
plain_finite w (layer n k t) = tt
plain_finite w (cauchy a b c t) = tt

plain_admitted : (w b : Float) (ls : List SheetLayer) → T (layers_admitted w b ls) → T (layers_admitted w b (map (plain w) ls))
unfolding layers_admitted
plain_admitted w b [] h = tt
plain_admitted w b (l ∷ ls) h =
    let p = both (layer_admitted w b l) (layers_admitted w b ls) h in
    and (layer_admitted w b (plain w l)) (layers_admitted w b (map (plain w) ls))
    (and (coefficients_finite (plain w l)) (layer_within b (film w (plain w l))) (plain_finite w l) (subst (λ (f : ThinFilmLayer). T (layer_within b f)) (sym (plain_film w l)) (both (coefficients_finite l) _ p.0).1))
    (plain_admitted w b ls p.1)

all_finite_plain : (w : Float) (ls : List SheetLayer) → T (all_finite (map (plain w) ls))
unfolding all_finite
all_finite_plain w [] = tt
all_finite_plain w (l ∷ ls) = and (coefficients_finite (plain w l)) (all_finite (map (plain w) ls)) (plain_finite w l) (all_finite_plain w ls)

-- under the limits of metal films too
metal_plain : (w : Float) (y : SheetSurface) → T (metal_admitted w y) → T (metal_admitted w (plain_surface w y))
metal_plain w y h =
    and (all_finite (map (plain w) y.layers)) (metal_passes w (surface_value y) (films w (map (plain w) y.layers))) (all_finite_plain w y.layers)
    (subst (λ (fs : List ThinFilmLayer). T (metal_passes w (surface_value y) fs)) (sym (plain_films w y.layers)) (both (all_finite y.layers) _ h).1)

either_plain : (a b c d : Bool) → (T a → T c) → (T b → T d) → T (a || b) → T (c || d)
either_plain true b true d f g h = tt
either_plain true b false d f g h = absurd (f tt)
either_plain false b true d f g h = tt
either_plain false b false d f g h = g h

surface_plain : (w : Float) (y : SheetSurface) → T (surface_admitted w y) → T (surface_admitted w (plain_surface w y))
surface_plain w y h =
    either_plain (layers_admitted w (snell_of y) y.layers) (metal_admitted w y) (layers_admitted w (snell_of y) (map (plain w) y.layers)) (metal_admitted w (plain_surface w y))
    (plain_admitted w (snell_of y) y.layers) (metal_plain w y) h

-- of edition 1 it is as it was
same_layer : (w : Float) (l : SheetLayer) → GoodLayer 1 l → plain w l ≡ l
same_layer w (layer n k t) g = refl
same_layer w (cauchy a b c t) g = absurd (omega (arith, g.0))

same_layers : (w : Float) (ls : List SheetLayer) → All (GoodLayer 1) ls → map (plain w) ls ≡ ls
same_layers w [] g = refl
same_layers w (l ∷ ls) g = λ i. same_layer w l g.0 i ∷ same_layers w ls g.1 i

-- ---- a surface
abbrev pub Keeps : List SheetSurface → Type 0
Keeps ys = All (λ (y : SheetSurface). y.tuning ≡ keeps) ys

same_surfaces : (w : Float) (ys : List SheetSurface) → All (GoodSurface 1) ys → map (plain_surface w) ys ≡ ys
same_surfaces w [] g = refl
same_surfaces w (y ∷ ys) g =
    λ i. record { tuning = y.tuning; payload = y.payload; n_incident = y.n_incident; n_substrate = y.n_substrate; angle = y.angle; layers = same_layers w y.layers g.0.layers i } ∷ same_surfaces w ys g.1 i

good_surface : (edition : ℕ) (w : Float) (y : SheetSurface) → y.tuning ≡ keeps → GoodSurface edition y → GoodSurface 1 (plain_surface w y)
good_surface edition w y k g = record {
  tuning = subst (GoodTuning 1) (sym k) tt;
  payload = g.payload;
  n_incident = g.n_incident;
  n_substrate = g.n_substrate;
  angle = g.angle;
  layers = plain_goods edition w y.layers g.layers;
  few = omega (arith, length-map y.layers (plain w), g.few);
  custom = ⊎_elim (λ e. inl (ap (map (plain w)) e)) inr g.custom;
}

good_surfaces : (edition : ℕ) (w : Float) (ys : List SheetSurface) → Keeps ys → All (GoodSurface edition) ys → All (GoodSurface 1) (map (plain_surface w) ys)
good_surfaces edition w [] k g = tt
good_surfaces edition w (y ∷ ys) k g = (good_surface edition w y k.0 g.0, good_surfaces edition w ys k.1 g.1)

plain_keeps : (w : Float) (ys : List SheetSurface) → Keeps ys → Keeps (map (plain_surface w) ys)
plain_keeps w [] k = tt
plain_keeps w (y ∷ ys) k = (k.0, plain_keeps w ys k.1)

met_surfaces : (w : Float) (ys : List SheetSurface) → Keeps ys → AllMet w ys → AllMet w (map (plain_surface w) ys)
met_surfaces w [] k h = tt
met_surfaces w (y ∷ ys) k h =
    let m = subst (λ (t : Tuning). T (surface_admitted (met_with w t) y) × AllMet (met_with w t) ys) k.0 h.1.1 in
    (h.0, (h.1.0, subst (λ (t : Tuning). T (surface_admitted (met_with w t) (plain_surface w y)) × AllMet (met_with w t) (map (plain_surface w) ys)) (sym k.0) (surface_plain w y m.0, met_surfaces w ys k.1 m.1)))

-- ---- a sheet
pub same_sheet : (x : Sheet) → WellFormed x → x.edition ≡ 1 → translated x ≡ x
unfolding translated
same_sheet x h e = λ i. record { edition = sym e i; wavelength = x.wavelength; s = x.s; p = x.p; surfaces = same_surfaces (value x.wavelength) x.surfaces (subst (λ (n : ℕ). All (GoodSurface n) x.surfaces) e h.surfaces) i }

module _ (x : Sheet) (formed : WellFormed x) (k : Untuned x) where
  pub new_formed : WellFormed (translated x)
  unfolding translated
  new_formed = record {
    edition = inl refl;
    wavelength = formed.wavelength;
    s = formed.s;
    p = formed.p;
    surfaces = good_surfaces x.edition (value x.wavelength) x.surfaces k formed.surfaces;
    few = omega (arith, length-map x.surfaces (plain_surface (value x.wavelength)), formed.few);
  }

  pub new_within : WithinLimits x → WithinLimits (translated x)
  unfolding translated
  new_within inside = met_within (translated x) inside.beam (met_surfaces (value x.wavelength) x.surfaces k (all_met x inside))

  pub new_untuned : Untuned (translated x)
  unfolding translated
  new_untuned = plain_keeps (value x.wavelength) x.surfaces k

-- ---- what a wavelength is tested on, and met with, where no kind 7 is
hold_on : (w : Float) (i : ℕ) (ys : List SheetSurface) → Keeps ys → T (layers_hold w ys) → T (layers_hold w (drop i ys))
unfolding layers_hold
hold_on w zero ys k h = h
hold_on w (suc i) [] k h = tt
hold_on w (suc i) (y ∷ ys) k h = hold_on w i ys k.1 (both (surface_admitted w y) (layers_hold w ys) (subst (λ (t : Tuning). T (unless_tuned t (surface_admitted w y && layers_hold w ys))) k.0 h)).1

pub holds_on : (w : Float) (i : ℕ) (ys : List SheetSurface) → Keeps ys → T (holds w ys) → T (holds w (drop i ys))
unfolding holds
holds_on w i ys k h = let p = both (wavelength_passes w) (layers_hold w ys) h in and (wavelength_passes w) (layers_hold w (drop i ys)) p.0 (hold_on w i ys k p.1)

pub nth_keeps : (ys : List SheetSurface) (i : ℕ) → Keeps ys → (nth ys i).tuning ≡ keeps
nth_keeps [] i k = refl
nth_keeps (y ∷ ys) zero k = k.0
nth_keeps (y ∷ ys) (suc i) k = nth_keeps ys i k.1

pub met_untuned : (w : Float) (ys : List SheetSurface) (i : ℕ) → Keeps ys → met_at w ys i ≡ w
unfolding met_at
met_untuned w ys zero k = ap (met_with w) (nth_keeps ys 0 k)
met_untuned w ys (suc i) k = ap (met_with (met_at w ys i)) (nth_keeps ys (suc i) k) ∙ met_untuned w ys i k

-- the i-th surface
pub nth_plain : (w : Float) (ys : List SheetSurface) (i : ℕ) → nth (map (plain_surface w) ys) i ≡ plain_surface w (nth ys i)
nth_plain w ys i = get_or-map (plain_surface w) ys i no_surface
