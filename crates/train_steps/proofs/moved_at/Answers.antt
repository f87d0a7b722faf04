-- `train_steps::moved_at` meets its contract. Assumes nothing.
use mathlib.Core.Path.{◌≡◌, sym, ap, ◌∙◌}
use mathlib.Core.List.{List}
use Prim.Native.Nat.{ℕ}
use lib.Ieee.{Float}
use Rattle.math_trig.specs.declared.SinCos.{SinCos}
use Rattle.math_trig.specs.Trig.{sin_cos}
use Rattle.gate.specs.Internal.{angle_at}
use Rattle.sheet.specs.Internal.{layer_run, tuning_at, onto}
use Rattle.sheet_values.specs.Values.{met_with}
use Rattle.train_steps.specs.declared.Chosen.{Chosen}
use Rattle.train_steps.specs.declared.State.{State}
use Rattle.train_steps.specs.Internal.{chosen_at, moved, moved_from, moved_at}
use Rattle.train_steps.proofs.moved_at.Goals as goal

by_these : (src : List ℕ) (begin : ℕ) (st : State) (w : Float) → w ≡ met_with st.wavelength_nm (tuning_at src begin) → (at : ℕ) → at ≡ onto src begin → (m : ℕ) → m ≡ layer_run 16 src at → (c : Chosen) → c ≡ chosen_at src at m w
    → (r : State) → r ≡ moved c w st → r ≡ moved_at src begin st
unfolding moved_from moved_at
by_these src begin st w ew at ea m em c ec r h =
    h ∙ ap (λ (z : Chosen). moved z w st) ec ∙ ap (λ (k : ℕ). moved_from src at k w st) em ∙ (λ i. moved_from src (ea i) (layer_run 16 src (ea i)) (ew i) st)

angle : (src : List ℕ) (at o : ℕ) → at ≡ o → (theta : SinCos) → theta ≡ sin_cos (angle_at src o) → theta ≡ sin_cos (angle_at src at)
angle src at o e theta h = h ∙ ap (λ (k : ℕ). sin_cos (angle_at src k)) (sym e)

pub chosen_with-requires : goal.chosen_with-requires
chosen_with-requires c = angle _ _ _ c.onto-at.ensures _ c.requires.1.1

pub returns : goal.returns
returns c =
    let o = c.onto-at.ensures in
    by_these _ _ _ _ c.met_with-wavelength_nm.ensures _ o _ (c.requires.1.0 ∙ ap (layer_run 16 _) (sym o)) _ c.chosen_with.ensures _ c.moved.ensures
