-- `gate::holds_from` meets its contract. Assumes nothing.
use mathlib.Core.Path.{◌≡◌, sym, ap, ◌∙◌}
use mathlib.Core.Bool.{Bool, true, false, ◌&&◌}
use mathlib.Core.List.{List}
use Prim.Native.Nat.{ℕ}
use lib.Ieee.{Float}
use Rattle.gate_limits.specs.Limits.{wavelength_passes}
use Rattle.gate.specs.Internal.{layers_hold_at, holds_from}
use Rattle.gate.proofs.holds_from.Goals as goal

module _ (src : List ℕ) (at n : ℕ) (w : Float) (t : Bool) (is : t ≡ wavelength_passes w) where
  in_range : t ≡ true → (r : Bool) → r ≡ layers_hold_at n src at w → r ≡ holds_from src at n w
  unfolding holds_from
  in_range e r r_is = r_is ∙ sym (ap (λ (b : Bool). b && layers_hold_at n src at w) (sym is ∙ e))

  out_of_range : t ≡ false → t ≡ holds_from src at n w
  unfolding holds_from
  out_of_range e = e ∙ sym (ap (λ (b : Bool). b && layers_hold_at n src at w) (sym is ∙ e))

pub returns-then-wavelength_passes : goal.returns-then-wavelength_passes
returns-then-wavelength_passes c = in_range _ _ _ _ _ c.wavelength_passes.ensures c.if-wavelength_passes.true _ c.layers_hold.ensures

pub returns-else-wavelength_passes : goal.returns-else-wavelength_passes
returns-else-wavelength_passes c = out_of_range _ _ _ _ _ c.wavelength_passes.ensures c.if-wavelength_passes.false
