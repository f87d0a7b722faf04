-- `band::line_passes` meets its contract. Assumes nothing.
use mathlib.Core.Path.{◌≡◌, refl, sym, ap, ◌∙◌}
use mathlib.Core.Bool.{Bool, true, false, ◌&&◌}
use mathlib.Core.List.{List}
use Prim.Native.Nat.{ℕ}
use native.Mathlib.Nat.{sub-zero}
use lib.Ieee.{Float}
use Rattle.ieee.proofs.Signs.{of_true}
use Rattle.sheet.specs.Internal.{begin}
use Rattle.gate_limits.specs.Limits.{wavelength_passes}
use Rattle.gate.specs.Internal.{layers_hold_at, holds_at}
use Rattle.band.proofs.line_passes.Goals as goal

alone : (src : List ℕ) (n : ℕ) (w : Float) → layers_hold_at n src (begin src 0) w ≡ true → (t : Bool) → t ≡ wavelength_passes w → t ≡ holds_at src 0 n w
unfolding holds_at
alone src n w e t t_is = t_is ∙ sym (ap (λ (b : Bool). wavelength_passes w && b) (ap (λ (m : ℕ). layers_hold_at m src (begin src 0) w) (sub-zero n) ∙ e) ∙ own (wavelength_passes w))
  where
    own : (b : Bool) → b && true ≡ b
    own true = refl
    own false = refl

pub returns-then-always : goal.returns-then-always
returns-then-always c = alone _ _ _ (c.requires (of_true _ c.if-always.true) _) _ c.wavelength_passes.ensures
