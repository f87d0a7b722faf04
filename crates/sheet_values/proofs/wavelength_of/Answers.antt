-- `sheet_values::wavelength_of` meets its contract. Assumes nothing.
use mathlib.Core.Path.{◌≡◌, sym, ap, ◌∙◌}
use mathlib.Core.List.{List}
use Prim.Native.Nat.{ℕ, suc, ◌+◌}
use native.Mathlib.Numerals.{add-one}
use lib.Ieee.{Float}
use Rattle.sheet.specs.Internal.{next_place, place_on, layer_run, tuning_at, onto, begin}
use Rattle.sheet_values.specs.declared.Beam.{Beam}
use Rattle.sheet_values.specs.Values.{met_with}
use Rattle.sheet_values.specs.Internal.{beam_at, wavelength_at}
use Rattle.sheet_values.proofs.wavelength_of.Goals as goal

first : (src : List ℕ) (b : Beam) → b ≡ beam_at src (next_place src 0) → (at : ℕ) → at ≡ begin src 0 → (v : Float) → v ≡ met_with b.wavelength_nm (tuning_at src at) → v ≡ wavelength_at src 0
unfolding wavelength_at
first src b eb at ea v ev = ev ∙ (λ i. met_with (eb i).wavelength_nm (tuning_at src (ea i)))

module _ (src : List ℕ) (at i o q : ℕ) (e : at ≡ begin src i) (k : o ≡ onto src at) (h : q ≡ place_on src o (suc (layer_run 16 src o))) where
  further : q ≡ begin src (i + 1)
  unfolding begin
  further = rw (add-one i, ← e, ← k) h

  next : (v : Float) → v ≡ wavelength_at src i → (u : Float) → u ≡ met_with v (tuning_at src q) → u ≡ wavelength_at src (i + 1)
  unfolding wavelength_at
  next v ev u eu = eu ∙ (λ j. met_with (ev j) (tuning_at src (further j))) ∙ ap (λ (n : ℕ). met_with (wavelength_at src i) (tuning_at src (begin src n))) (add-one i) ∙ ap (wavelength_at src) (sym (add-one i))

pub loop-init : goal.loop-init
loop-init c = (c.begin_of-at.ensures, first _ _ c.beam_of-beam.ensures _ c.begin_of-at.ensures _ c.met_with-held_nm.ensures)

pub loop-preserved : goal.loop-preserved
loop-preserved c =
    let h = c.loop.invariant in
    (further _ _ _ _ _ h.0 c.onto.ensures c.after_layers-at.ensures, next _ _ _ _ _ h.0 c.onto.ensures c.after_layers-at.ensures _ h.1 _ c.met_with-held_nm-in-loop.ensures)
