-- What a wavelength is tested on in the bytes of a sheet is what the sheet's data say. Assumes nothing.
use mathlib.Core.Path.{◌≡◌, refl, sym, ap, ◌∙◌, subst}
use mathlib.Core.Bool.{Bool, true, false, ◌&&◌, cond}
use mathlib.Core.List.{List, [], ◌∷◌}
use Prim.Native.Nat.{ℕ, zero, suc, ◌+◌, ◌-◌, ◌<◌}
use native.Mathlib.Omega.{arith}
use lib.Dec.{eqb}
use lib.ListN.{length, drop, drop_of_length-le}
use lib.Seq.{drop-cons}
use lib.Ieee.{Float}
use Rattle.gate_limits.specs.Limits.{wavelength_passes}
use Rattle.sheet.specs.Words.{word, kind, float}
use Rattle.sheet.specs.Blocks.{Block}
use Rattle.sheet.specs.Sheet.{SheetLayer, keeps, tunes, SheetSurface, no_surface, nth, Sheet, surfaces_blocks, end_block}
use Rattle.sheet.specs.Internal.{next_place, place_on, layer_run, tuning_at, layers_at, onto, begin}
use Rattle.sheet.proofs.Stands.{Stands, Standing, SurfaceHere, tuning_i, surface_i, surface_on, begin_stands}
use Rattle.gate.specs.Wavelength.{surface_admitted, unless_tuned, layers_hold, holds}
use Rattle.gate.specs.Internal.{surface_holds_at, layers_hold_at, holds_at}

abbrev with_layers : SheetSurface → List SheetLayer → SheetSurface
with_layers y ls = record { tuning = keeps; payload = y.payload; n_incident = y.n_incident; n_substrate = y.n_substrate; angle = y.angle; layers = ls }

module _ (src : List ℕ) (w : Float) where
  surface_holds_here : (at : ℕ) (y : SheetSurface) (more : List Block) → SurfaceHere src at y more → surface_holds_at src at w ≡ surface_admitted w y
  unfolding surface_holds_at
  surface_holds_here at y more h =
      ap (λ (z : SheetSurface). surface_admitted w z) (h.value (layers_at src (next_place src at) (layer_run 16 src at)))
      ∙ ap (λ (ls : List SheetLayer). surface_admitted w (with_layers y ls)) (ap (layers_at src (next_place src at)) h.run ∙ h.layers)

  module _ (x : Sheet) (h : Standing src x) where
    abbrev left : ℕ → List Block
    left i = surfaces_blocks (drop i x.surfaces) (end_block (length x.surfaces) ∷ [])

    layers_here : (n i at : ℕ) → i + n ≡ length x.surfaces → Stands src at (left i) → layers_hold_at n src at w ≡ layers_hold w (drop i x.surfaces)
    unfolding layers_hold_at layers_hold
    layers_here zero i at e s = sym (ap (layers_hold w) (drop_of_length-le x.surfaces {i = i} (omega arith)))
    layers_here (suc n) i at e s = by (eqb (kind (word src at)) 7) refl (λ q st. layers_here n (suc i) q (omega arith) st) ∙ sym (ap (layers_hold w) (drop-cons x.surfaces i no_surface lt))
      where
        lt : i < length x.surfaces
        lt = omega arith

        y : SheetSurface
        y = nth x.surfaces i

        rest : Bool
        rest = layers_hold w (drop (suc i) x.surfaces)

        tuning : tuning_at src at ≡ (nth x.surfaces i).tuning
        tuning = tuning_i src x h at i lt s

        by : (t : Bool) → eqb (kind (word src at)) 7 ≡ t → ((q : ℕ) → Stands src q (left (suc i)) → layers_hold_at n src q w ≡ layers_hold w (drop (suc i) x.surfaces))
            → cond (eqb (kind (word src at)) 7) true (surface_holds_at src at w && layers_hold_at n src (place_on src at (suc (layer_run 16 src at))) w)
            ≡ unless_tuned (nth x.surfaces i).tuning (surface_admitted w (nth x.surfaces i) && layers_hold w (drop (suc i) x.surfaces))
        by true q again =
            let t : (nth x.surfaces i).tuning ≡ tunes (float src (at + 1)) = sym tuning ∙ ap (λ (b : Bool). cond b (tunes (float src (at + 1))) keeps) q in
            rw (q, t) refl
        by false q again =
            let t : (nth x.surfaces i).tuning ≡ keeps = sym tuning ∙ ap (λ (b : Bool). cond b (tunes (float src (at + 1))) keeps) q in
            let o : onto src at ≡ at = onto_at q in
            let s-i = subst (λ (k : ℕ). SurfaceHere src k (nth x.surfaces i) (left (suc i))) o (surface_i src x h at i lt s) in
            let s-on = subst (λ (k : ℕ). Stands src (place_on src k (suc (layer_run 16 src k))) (left (suc i))) o (surface_on src x h at i lt s) in
            rw (q, t) (λ k. surface_holds_here at (nth x.surfaces i) _ s-i k && again _ s-on k)
          where
            onto_at : eqb (kind (word src at)) 7 ≡ false → onto src at ≡ at
            onto_at e = unfold onto in rw e refl

    -- from any number of SURFACEs on
    pub holds_here : (done : ℕ) → holds_at src done (length x.surfaces) w ≡ holds w (drop done x.surfaces)
    unfolding holds_at holds layers_hold_at layers_hold
    holds_here done = ap (λ (b : Bool). wavelength_passes w && b) (by (length x.surfaces - done) refl)
      where
        by : (n : ℕ) → length x.surfaces - done ≡ n → layers_hold_at (length x.surfaces - done) src (begin src done) w ≡ layers_hold w (drop done x.surfaces)
        by zero e = rw e (sym (ap (layers_hold w) (drop_of_length-le x.surfaces {i = done} (omega arith))))
        by (suc n) e = layers_here (length x.surfaces - done) done (begin src done) (omega arith) (begin_stands src x h done (omega arith))
