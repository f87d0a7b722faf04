-- The chosen powers of a surface within the limits, by the shorter way, are those of its answers. Assumes nothing.
use mathlib.Core.Path.{◌≡◌, refl, sym, ap, ◌∙◌}
use mathlib.Core.List.{List, [], ◌∷◌}
use Prim.Native.Nat.{ℕ, suc, ◌+◌, ◌<◌}
use lib.ListN.{length, drop, get_or}
use lib.Ieee.{Float, nan}
use Rattle.ieee.specs.Operators.{◌⊗◌}
use Rattle.refusal.specs.Outcome.{map}
use Rattle.surface.specs.declared.Answers.{Answers}
use Rattle.surface.specs.Finite.{Answered}
use Rattle.surface.proofs.Alone.{powers_answered}
use Rattle.sheet.specs.Sheet.{SheetSurface, nth, Sheet, surfaces_blocks, end_block}
use Rattle.sheet.specs.Internal.{next_place, layer_run, tuning_at, surface_at, layers_at, onto, begin, place}
use Rattle.sheet.proofs.Stands.{Standing, SurfaceHere, placed}
use Rattle.sheet_values.specs.declared.Beam.{Beam}
use Rattle.sheet_values.specs.Values.{beam_value, films, surface_value, met_with}
use Rattle.sheet_values.specs.Internal.{beam_at}
use Rattle.sheet_values.proofs.Here.{beam_here, value_here, films_here, tuning_here}
use Rattle.math_trig.specs.Trig.{sin_cos}
use Rattle.sheet_index.specs.Internal.{Indexed}
use Rattle.gate.specs.Internal.{angle_at}
use Rattle.gate.specs.Claim.{WithinLimits}
use Rattle.gate.proofs.Wavelengths.{Met}
use Rattle.sheet_surfaces.proofs.Answers.{all_nth, answered}
use Rattle.train_steps.specs.declared.Chosen as Declared
use Rattle.train_steps.specs.declared.State.{State}
use Rattle.train_steps.specs.Train.{chosen_of, chosen_powers, after_one}
use Rattle.train_steps.specs.Internal.{chosen_alone, chosen_at, moved_from, moved_at}

alone : (w : Float) (y : SheetSurface) → Answered w (surface_value y) (films w y.layers) → chosen_alone w (surface_value y) (films w y.layers) ≡ chosen_powers w y
unfolding chosen_alone chosen_powers
alone w y a =
    ap (chosen_of (surface_value y).reflected) (powers_answered w (surface_value y) (films w y.layers) a.value a.is ∙ sym (ap (map (λ (v : Answers). v.powers)) a.is))

-- ---- the i-th surface of an admitted sheet, where it begins
module _ (src : List ℕ) (x : Sheet) (stands : Standing src x) (within : WithinLimits x) where
  pub beam_is : (b : Beam) → b ≡ beam_at src (next_place src 0) → b ≡ beam_value x
  beam_is b e = e ∙ beam_here src x stands

  module _ (i : ℕ) (lt : i < length x.surfaces) where
    abbrev y : SheetSurface
    y = nth x.surfaces i

    here : SurfaceHere src (place src i) y (surfaces_blocks (drop (suc i) x.surfaces) (end_block (length x.surfaces) ∷ []))
    here = placed src x stands i lt

    -- the wavelength that it is met with
    pub met_here : (at : ℕ) → at ≡ begin src i → (held : Float) → met_with held (tuning_at src at) ≡ met_with held y.tuning
    met_here at q held = ap (λ (k : ℕ). met_with held (tuning_at src k)) q ∙ ap (met_with held) (tuning_here src x stands i lt)

    pub chosen_here : (w : Float) → Met w y → (at : ℕ) → at ≡ place src i → (m : ℕ) → m ≡ layer_run 16 src at → chosen_at src at m w ≡ chosen_powers w y
    unfolding chosen_at
    chosen_here w good at q m e =
        let t : surface_value (surface_at src at []) ≡ surface_value y = ap (λ (k : ℕ). surface_value (surface_at src k [])) q ∙ value_here src (place src i) y _ here in
        let l : films w (layers_at src (next_place src at) m) ≡ films w y.layers = ap (λ (k : ℕ). films w (layers_at src (next_place src k) m)) q ∙ films_here src (place src i) y _ here w m (e ∙ ap (layer_run 16 src) q) in
        (λ k. chosen_alone w (t k) (l k)) ∙ alone w y (answered w good.0 y good.1 (all_nth _ x.surfaces i stands.formed.surfaces lt).few)

    pub moved_here : (at : ℕ) → at ≡ begin src i → (st : State) → Met (met_with st.wavelength_nm y.tuning) y → moved_at src at st ≡ after_one st y
    unfolding moved_from moved_at after_one
    moved_here at q st good =
        let w = met_with st.wavelength_nm y.tuning in
        ap (λ (v : Float). let c = chosen_at src (onto src at) (layer_run 16 src (onto src at)) v in record { done = st.done + 1; s = st.s ⊗ c.s; p = st.p ⊗ c.p; wavelength_nm = v }) (met_here at q st.wavelength_nm)
        ∙ ap (λ (c : Declared.Chosen). record { done = st.done + 1; s = st.s ⊗ c.s; p = st.p ⊗ c.p; wavelength_nm = w }) (chosen_here w good (onto src at) (ap (onto src) q) (layer_run 16 src (onto src at)) refl)

-- the sine and the cosine that the index has of the i-th surface
pub angles_here : (src : List ℕ) (n : ℕ) (b c : List ℕ) (s t : List Float) → Indexed src n b c s t → (i : ℕ) → i < n → (o : ℕ) → o ≡ onto src (get_or b i 0) → record { sin = get_or s i nan; cos = get_or t i nan } ≡ sin_cos (angle_at src o)
angles_here src n b c s t h i lt o e = (λ k. record { sin = h.sine i lt k; cos = h.cosine i lt k }) ∙ ap (λ (z : ℕ). sin_cos (angle_at src (onto src z))) (sym (h.begun i lt)) ∙ ap (λ (z : ℕ). sin_cos (angle_at src z)) (sym e)

-- and the count of its layers
pub layers_here : (src : List ℕ) (n : ℕ) (b c : List ℕ) (s t : List Float) → Indexed src n b c s t → (i : ℕ) → i < n → (o : ℕ) → o ≡ onto src (get_or b i 0) → get_or c i 0 ≡ layer_run 16 src o
layers_here src n b c s t h i lt o e = h.counted i lt ∙ ap (λ (z : ℕ). layer_run 16 src (onto src z)) (sym (h.begun i lt)) ∙ ap (layer_run 16 src) (sym e)
