-- What an evaluation is refused with, before any layer is read. Assumes nothing.
use Prim.Native.Nat.{ℕ}
use mathlib.Core.Path.{◌≡◌, refl, sym, ◌∙◌}
use mathlib.Core.Bool.{Bool, true, false, cond}
use mathlib.Core.List.{List}
use lib.Dec.{leb}
use lib.ListN.{length}
use lib.Ieee.{Float}
use Rattle.refusal.specs.Outcome.{Outcome, answer, invalid_parameter, too_many_layers, map}
use Rattle.thin_film_solver.specs.declared.ThinFilmLayer.{ThinFilmLayer}
use Rattle.thin_film_solver.specs.Absorptance.{RustResponse, with_absorptance}
use Rattle.thin_film_solver.specs.Solve as Solve
use Rattle.thin_film_presets.specs.Layers.{bragg_layers, broadband_layers}
use Rattle.thin_film_valid.specs.Valid.{valid}
use Rattle.thin_film_coating.specs.declared.Coating.TheVariants as C
use Rattle.thin_film_coating.specs.Evaluate.{rust_respond, rust_evaluate_coating, evaluate_coating}
use Rattle.thin_film.specs.declared.SurfaceCoating.{SurfaceCoating}
use Rattle.thin_film.specs.declared.SurfaceCoating.TheVariants as S
use Rattle.thin_film.specs.Coating.{coating_of, layers_of, mgf2_layers, mirror_layers}
use Rattle.thin_film.specs.Evaluate.{evaluate_surface, refusal_of}
use Rattle.thin_film.proofs.Alike.{refuse_alike}
use Rattle.c_layers.specs.Internal.{checked_custom}

either : (b : Bool) (r : RustResponse) → refusal_of (map with_absorptance (cond b (answer r) too_many_layers)) ≡ cond b (answer tt) too_many_layers
either true r = refl
either false r = refl

-- of a coating whose numbers are valid, beside so many layers
abbrev pub checked : SurfaceCoating → ℕ → Outcome (Unit {0})
checked (S.Custom c) count = checked_custom c count
checked S.IdealAr count = answer tt
checked (S.MgF2 design) count = answer tt
checked S.BroadbandAr count = answer tt
checked S.HighReflectanceMirror count = answer tt

module _ (n_incident n_substrate angle wavelength : Float) where
  pub invalid : valid n_incident n_substrate angle wavelength ≡ false → (s : SurfaceCoating) (ls : List ThinFilmLayer) → invalid_parameter ≡ refusal_of (evaluate_surface s ls n_incident n_substrate angle wavelength)
  unfolding rust_evaluate_coating evaluate_coating
  invalid h s ls = sym (refuse_alike s ls n_incident n_substrate angle wavelength ∙ simp h)

  responds : (s : SurfaceCoating) (ls : List ThinFilmLayer) → refusal_of (map with_absorptance (rust_respond (coating_of s) (layers_of s ls) n_incident n_substrate angle wavelength)) ≡ checked s (length ls)
  unfolding rust_respond layers_of mgf2_layers mirror_layers bragg_layers broadband_layers
  responds (S.Custom C.IdealAr) ls = refl
  responds (S.Custom C.IdealMirror) ls = refl
  responds (S.Custom C.IdealBeamsplitter) ls = refl
  responds (S.Custom C.Multilayer) ls = either (leb (length ls) 64) (Solve.rust_evaluate n_incident n_substrate angle wavelength ls)
  responds S.IdealAr ls = refl
  responds (S.MgF2 design) ls = refl
  responds S.BroadbandAr ls = refl
  responds S.HighReflectanceMirror ls = refl

  pub passed : valid n_incident n_substrate angle wavelength ≡ true → (s : SurfaceCoating) (ls : List ThinFilmLayer) → checked s (length ls) ≡ refusal_of (evaluate_surface s ls n_incident n_substrate angle wavelength)
  unfolding rust_evaluate_coating evaluate_coating
  passed h s ls = sym (refuse_alike s ls n_incident n_substrate angle wavelength ∙ simp h (responds s ls))
