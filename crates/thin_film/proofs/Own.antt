-- An evaluation is that of the layers that are read: a coating's own, or else those beside it. Assumes nothing.
use mathlib.Core.Path.{◌≡◌, refl, sym, ◌∙◌, ap}
use Prim.Native.Nat.{ℕ}
use mathlib.Core.Bool.{Bool, true, false, true≢false, cond}
use mathlib.Core.List.{List, []}
use lib.Dec.{eqb, leb}
use lib.ListN.{length}
use lib.Ieee.{Float, lt}
use Rattle.refusal.specs.Outcome.{answer}
use Rattle.thin_film_solver.specs.declared.ThinFilmLayer.{ThinFilmLayer}
use Rattle.thin_film_solver.specs.Internal.{solved}
use Rattle.thin_film_layers.specs.declared.Prepared.{Prepared}
use Rattle.thin_film_layers.specs.declared.Prepared.TheVariants as P
use Rattle.thin_film_layers.specs.Evaluation.{ordered}
use Rattle.thin_film_layers.specs.Internal.{read_from}
use Rattle.thin_film_presets.specs.Layers.{broadband_layers, bragg_layers}
use Rattle.thin_film_coating.specs.declared.Coating.{Coating}
use Rattle.thin_film_coating.specs.declared.Coating.TheVariants as C
use Rattle.thin_film_coating.specs.Evaluate.{rust_respond, rust_evaluate_coating, evaluate_coating}
use Rattle.thin_film_coating.proofs.Answers as Answers
use Rattle.thin_film.specs.declared.SurfaceCoating.{SurfaceCoating}
use Rattle.thin_film.specs.declared.SurfaceCoating.TheVariants as S
use Rattle.thin_film.specs.Coating.{coating_of, layers_of, mgf2_layers, mirror_layers}
use Rattle.thin_film.specs.Evaluate.{rust_evaluate_surface, evaluate_surface}
use Rattle.thin_film.specs.Internal.{own_layers, layer_count, prepared, answered_with, answered_own}

-- as many as 64 are as many as can be read
alike : (s : SurfaceCoating) (layers : List ThinFilmLayer) (count : ℕ) → length layers ≡ count → leb (length (own_layers s layers)) 64 ≡ leb (layer_count s count) 64
unfolding own_layers layers_of mgf2_layers broadband_layers mirror_layers bragg_layers
alike (S.MgF2 design) layers count e = refl
alike S.BroadbandAr layers count e = refl
alike S.HighReflectanceMirror layers count e = refl
alike S.IdealAr layers count e = ap (λ (n : ℕ). leb n 64) e
alike (S.Custom C.IdealAr) layers count e = ap (λ (n : ℕ). leb n 64) e
alike (S.Custom C.IdealMirror) layers count e = ap (λ (n : ℕ). leb n 64) e
alike (S.Custom C.IdealBeamsplitter) layers count e = ap (λ (n : ℕ). leb n 64) e
alike (S.Custom C.Multilayer) layers count e = ap (λ (n : ℕ). leb n 64) e

module _ (reversed : Bool) (n_incident n_substrate angle wavelength : Float) (layers : List ThinFilmLayer) where
  -- an ideal coating ignores the list
  same : (s : SurfaceCoating) → evaluate_coating (coating_of s) (ordered reversed (own_layers s layers)) n_incident n_substrate angle wavelength ≡ evaluate_coating (coating_of s) (ordered reversed (layers_of s layers)) n_incident n_substrate angle wavelength
  unfolding rust_respond rust_evaluate_coating evaluate_coating layers_of own_layers
  same (S.MgF2 design) = refl
  same S.BroadbandAr = refl
  same S.HighReflectanceMirror = refl
  same S.IdealAr = refl
  same (S.Custom C.IdealAr) = refl
  same (S.Custom C.IdealMirror) = refl
  same (S.Custom C.IdealBeamsplitter) = refl
  same (S.Custom C.Multilayer) = refl

module _ (n_incident n_substrate angle wavelength : Float) (s : SurfaceCoating) (layers : List ThinFilmLayer) (count : ℕ) (long : length layers ≡ count) (p : Prepared) (p_is : p ≡ prepared s count n_incident n_substrate angle wavelength) where
  pub evaluates : read_from p (own_layers s layers) ≡ evaluate_surface s layers n_incident n_substrate angle wavelength
  unfolding evaluate_coating rust_evaluate_surface evaluate_surface
  evaluates =
      Answers.prepared n_incident n_substrate angle wavelength (lt n_substrate n_incident) (own_layers s layers) (layer_count s count) (alike s layers count long) (coating_of s) p p_is
      ∙ same (lt n_substrate n_incident) n_incident n_substrate angle wavelength layers s

-- which layers they are
pub beside : (s : SurfaceCoating) (layers : List ThinFilmLayer) → eqb (length (layers_of s [])) 0 ≡ true → own_layers s layers ≡ layers
unfolding own_layers layers_of mgf2_layers broadband_layers mirror_layers bragg_layers
beside (S.MgF2 design) layers e = absurd (true≢false (sym e))
beside S.BroadbandAr layers e = absurd (true≢false (sym e))
beside S.HighReflectanceMirror layers e = absurd (true≢false (sym e))
beside S.IdealAr layers e = refl
beside (S.Custom c) layers e = refl

pub own : (s : SurfaceCoating) (layers : List ThinFilmLayer) → eqb (length (layers_of s [])) 0 ≡ false → own_layers s layers ≡ layers_of s []
unfolding own_layers layers_of
own (S.MgF2 design) layers e = refl
own S.BroadbandAr layers e = refl
own S.HighReflectanceMirror layers e = refl
own S.IdealAr layers e = absurd (true≢false e)
own (S.Custom C.IdealAr) layers e = absurd (true≢false e)
own (S.Custom C.IdealMirror) layers e = absurd (true≢false e)
own (S.Custom C.IdealBeamsplitter) layers e = absurd (true≢false e)
own (S.Custom C.Multilayer) layers e = absurd (true≢false e)

-- beside explicit layers it has none
pub none : (k : Coating) → layers_of (S.Custom k) [] ≡ []
unfolding layers_of
none C.IdealAr = refl
none C.IdealMirror = refl
none C.IdealBeamsplitter = refl
none C.Multilayer = refl

-- with a preset coating's own layers it is answered
pub answers : (s : SurfaceCoating) (p : Prepared) (layers : List ThinFilmLayer) → read_from (answered_own s p) layers ≡ read_from p (own_layers s layers)
unfolding read_from answered_with
answers s p layers = go (eqb (length (layers_of s [])) 0) (beside s layers) (own s layers) p
  where
    go : (b : Bool) → (b ≡ true → own_layers s layers ≡ layers) → (b ≡ false → own_layers s layers ≡ layers_of s []) → (p : Prepared) → read_from (cond b p (answered_with s p)) layers ≡ read_from p (own_layers s layers)
    go true h k p = ap (read_from p) (sym (h refl))
    go false h k (P.Answered a) = refl
    go false h k (P.Layers reversed light) = ap (λ (l : List ThinFilmLayer). answer (solved light (ordered reversed l))) (sym (k refl))
