-- A wavelength that holds from a surface on: the surface is within the limits at the one that it is met with, which holds from the next on. Assumes nothing.
use mathlib.Core.Path.{◌≡◌, sym, ap, ◌∙◌, subst}
use mathlib.Core.Bool.{Bool, ◌&&◌}
use mathlib.Core.List.{List, [], ◌∷◌}
use Prim.Native.Nat.{ℕ, zero, suc, ◌<◌}
use native.Mathlib.Omega.{arith}
use lib.Dec.{T}
use lib.ListN.{length, drop}
use lib.Seq.{drop-cons}
use lib.Ieee.{Float}
use Rattle.gate_limits.specs.Limits.{wavelength_passes, surface_passes}
use Rattle.sheet.specs.Sheet.{Tuning, keeps, tunes, SheetSurface, no_surface, nth, Sheet}
use Rattle.sheet_values.specs.Values.{value, surface_value, met_with}
use Rattle.gate.specs.Wavelength.{surface_admitted, unless_tuned, layers_hold, holds}
use Rattle.gate.specs.Internal.{holds_at}
use Rattle.gate.proofs.Admitted.{Admitted}
use Rattle.gate.proofs.HoldsHere.{holds_here}
use Rattle.gate.specs.Claim.{untuned, HoldsFrom, AllHold, WithinLimits}
use Rattle.gate.proofs.Wavelengths.{both, and, passes_met, Met}
use Rattle.sheet_surfaces.proofs.Answers.{all_nth}

from_nth : (ys : List SheetSurface) (d : ℕ) → AllHold ys → d < length ys → HoldsFrom (nth ys d).tuning (untuned (nth ys d) ∷ drop (suc d) ys)
from_nth [] d h lt = absurd (omega arith)
from_nth (y ∷ ys) zero h lt = h.0
from_nth (y ∷ ys) (suc d) h lt = from_nth ys d h.1 (omega arith)

module _ (y : SheetSurface) (more : List SheetSurface) (p : T (surface_passes (surface_value y))) where
  -- at a wavelength that is tested on its layers
  at_its : (w : Float) → T (wavelength_passes w && (surface_admitted w y && layers_hold w more)) → Met w y × T (holds w more)
  unfolding holds
  at_its w h =
      let a = both (wavelength_passes w) (surface_admitted w y && layers_hold w more) h in
      let b = both (surface_admitted w y) (layers_hold w more) a.1 in
      ((a.0, passes_met w y p b.0), and (wavelength_passes w) (layers_hold w more) a.0 b.1)

  ready : (w : Float) (t : Tuning) → HoldsFrom t (untuned y ∷ more) → T (wavelength_passes w && unless_tuned t (surface_admitted w y && layers_hold w more)) → Met (met_with w t) y × T (holds (met_with w t) more)
  unfolding holds layers_hold
  ready w keeps f h = at_its w h
  ready w (tunes v) f h = at_its (value v) f

pub takes : (x : Sheet) → WithinLimits x → (w : Float) (d : ℕ) → T (holds w (drop d x.surfaces)) → d < length x.surfaces
    → Met (met_with w (nth x.surfaces d).tuning) (nth x.surfaces d) × T (holds (met_with w (nth x.surfaces d).tuning) (drop (suc d) x.surfaces))
unfolding holds layers_hold
takes x h w d t lt =
    let ys = x.surfaces in
    let e : T (holds w (nth ys d ∷ drop (suc d) ys)) = subst (λ (zs : List SheetSurface). T (holds w zs)) (drop-cons ys d no_surface lt) t in
    ready (nth ys d) (drop (suc d) ys) (all_nth (λ (y : SheetSurface). T (surface_passes (surface_value y))) ys d h.surfaces lt) w (nth ys d).tuning (from_nth ys d h.tuned lt) e

-- what the gate's call says of a wavelength
pub tested : (src : List ℕ) (n : ℕ) (a : Admitted src n) (d : ℕ) (w : Float) (t : Bool) → t ≡ holds_at src d n w → t ≡ holds w (drop d a.sheet.surfaces)
tested src n a d w t e = e ∙ ap (λ (k : ℕ). holds_at src d k w) (sym a.counts) ∙ holds_here src w a.sheet a.stands d
