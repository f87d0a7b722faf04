-- `c_layers::check_known` meets its contract. Assumes nothing.
use Prim.Native.Nat.{ℕ}
use mathlib.Core.Path.{◌≡◌, refl, sym, ◌∙◌}
use mathlib.Core.Bool.{true}
use mathlib.Core.List.{List}
use lib.ListN.{length}
use lib.Ieee.{Float}
use Rattle.refusal.specs.Outcome.{Outcome}
use Rattle.thin_film_solver.specs.declared.ThinFilmLayer.{ThinFilmLayer}
use Rattle.thin_film_valid.specs.Valid.{valid}
use Rattle.thin_film.specs.declared.SurfaceCoating.{SurfaceCoating}
use Rattle.thin_film.specs.Evaluate.{evaluate_surface, refusal_of}
use Rattle.c_layers.proofs.Checked.{checked, invalid, passed}
use Rattle.c_layers.proofs.check_known.Goals as goal

known : (n_incident n_substrate angle wavelength : Float) (s t : SurfaceCoating) (count : ℕ) (r : Outcome (Unit {0})) → valid n_incident n_substrate angle wavelength ≡ true → s ≡ t → r ≡ checked t count → (ls : List ThinFilmLayer) → length ls ≡ count
    → r ≡ refusal_of (evaluate_surface s ls n_incident n_substrate angle wavelength)
known n_incident n_substrate angle wavelength s t count r h e is ls k = is ∙ simp (sym e, sym k) (passed n_incident n_substrate angle wavelength h s ls)

pub returns-then-not-valid : goal.returns-then-not-valid
returns-then-not-valid c ls k = invalid _ _ _ _ (sym c.valid.ensures ∙ c.if-not-valid.true) _ ls

pub returns-in-Custom : goal.returns-in-Custom
returns-in-Custom c = known _ _ _ _ _ _ _ _ (sym c.valid.ensures ∙ c.if-not-valid.false) c.in-Custom.is c.check_custom.ensures

pub returns-in-IdealAr : goal.returns-in-IdealAr
returns-in-IdealAr c = known _ _ _ _ _ _ _ _ (sym c.valid.ensures ∙ c.if-not-valid.false) c.in-IdealAr.is refl

pub returns-in-MgF2 : goal.returns-in-MgF2
returns-in-MgF2 c = known _ _ _ _ _ _ _ _ (sym c.valid.ensures ∙ c.if-not-valid.false) c.in-MgF2.is refl

pub returns-in-BroadbandAr : goal.returns-in-BroadbandAr
returns-in-BroadbandAr c = known _ _ _ _ _ _ _ _ (sym c.valid.ensures ∙ c.if-not-valid.false) c.in-BroadbandAr.is refl

pub returns-in-HighReflectanceMirror : goal.returns-in-HighReflectanceMirror
returns-in-HighReflectanceMirror c = known _ _ _ _ _ _ _ _ (sym c.valid.ensures ∙ c.if-not-valid.false) c.in-HighReflectanceMirror.is refl
