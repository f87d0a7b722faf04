-- `thin_film::reading::nth_own` meets its contract. Assumes nothing.
use mathlib.Core.Path.{◌≡◌, refl, sym, ap, ◌∙◌, subst}
use mathlib.Core.List.{List, []}
use Prim.Native.Nat.{ℕ, zero, suc, ◌+◌, ◌*◌, ◌<◌}
use native.Mathlib.Nat.{not-suc-le-zero, le_of_suc-le-suc}
use native.Mathlib.Omega.{arith}
use lib.ListN.{length, get_or}
use lib.Ieee.{Float}
use Rattle.thin_film_solver.specs.declared.ThinFilmLayer.{ThinFilmLayer}
use Rattle.thin_film_solver.specs.Solve.{dielectric}
use Rattle.thin_film_layers.specs.Evaluation.{no_layer}
use Rattle.thin_film_presets.specs.Layers.{n_sio2, n_tio2, quarter_wave, broadband_layers, bragg_layers}
use Rattle.thin_film_presets.proofs.Nth.{alike}
use Rattle.thin_film.specs.declared.SurfaceCoating.{SurfaceCoating}
use Rattle.thin_film.specs.declared.SurfaceCoating.TheVariants as S
use Rattle.thin_film.specs.Coating.{standard_wavelength, n_mgf2, mgf2_layers, mirror_layers, layers_of}
use Rattle.thin_film.proofs.Own.{none}
use borrow.Author.Rules.{rules}
use Rattle.thin_film.proofs.reading.nth_own.Goals as goal

module _ (s : SurfaceCoating) (i : ℕ) (low : i < length (layers_of s [])) where
  -- of another name of the coating
  within : (t : SurfaceCoating) → s ≡ t → i < length (layers_of t [])
  within t e = subst (λ (z : SurfaceCoating). i < length (layers_of z [])) e low

  nth : (t : SurfaceCoating) (y : ThinFilmLayer) → s ≡ t → y ≡ get_or (layers_of t []) i no_layer → y ≡ get_or (layers_of s []) i no_layer
  nth t y e y_is = y_is ∙ ap (λ (z : SurfaceCoating). get_or (layers_of z []) i no_layer) (sym e)

-- without a layer there is no i-th
never : {A : Type 0} (l : List ThinFilmLayer) (i : ℕ) → l ≡ [] → i < length l → A
never l i e h = absurd (not-suc-le-zero (subst (λ (z : List ThinFilmLayer). i < length z) e h))

-- the one layer of magnesium fluoride
first : (design : Float) (i : ℕ) → i < length (layers_of (S.MgF2 design) []) → dielectric n_mgf2 (quarter_wave design n_mgf2) ≡ get_or (layers_of (S.MgF2 design) []) i no_layer
unfolding layers_of mgf2_layers
first design zero h = refl
first design (suc i) h = absurd (not-suc-le-zero (le_of_suc-le-suc h))

-- the mirror's
high_low : (i : ℕ) → i < length (layers_of S.HighReflectanceMirror []) → get_or (bragg_layers n_tio2 n_sio2 i standard_wavelength) i no_layer ≡ get_or (layers_of S.HighReflectanceMirror []) i no_layer
unfolding layers_of mirror_layers bragg_layers
high_low i h = alike n_tio2 n_sio2 standard_wavelength i 7 i (omega arith) (fifteen i h)
  where
    fifteen : (i : ℕ) → i < length (bragg_layers n_tio2 n_sio2 7 standard_wavelength) → i < 2 * 7 + 1
    fifteen i h = h

pub returns-in-IdealAr : goal.returns-in-IdealAr
unfolding layers_of
returns-in-IdealAr c =
    never (layers_of S.IdealAr []) c.args.i refl (within _ _ c.requires S.IdealAr c.in-IdealAr.is)

pub returns-in-MgF2 : goal.returns-in-MgF2
returns-in-MgF2 c =
    let e = c.in-MgF2.is in
    nth _ _ c.requires _ _ e (c.quarter_wave.ensures ∙ first _ _ (within _ _ c.requires _ e))

pub returns-in-BroadbandAr : goal.returns-in-BroadbandAr
unfolding layers_of
returns-in-BroadbandAr c = nth _ _ c.requires S.BroadbandAr _ c.in-BroadbandAr.is c.broadband.ensures

pub returns-in-HighReflectanceMirror : goal.returns-in-HighReflectanceMirror
returns-in-HighReflectanceMirror c =
    let e = c.in-HighReflectanceMirror.is in
    nth _ _ c.requires S.HighReflectanceMirror _ e (c.bragg.ensures ∙ high_low _ (within _ _ c.requires S.HighReflectanceMirror e))

pub returns-in-Custom : goal.returns-in-Custom
returns-in-Custom c =
    never (layers_of (S.Custom _) []) c.args.i (none _) (within _ _ c.requires (S.Custom _) c.in-Custom.is)
