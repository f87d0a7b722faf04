-- `gate::holds` meets its contract. Assumes nothing.
use mathlib.Core.Path.{◌≡◌, sym, ap, ◌∙◌}
use mathlib.Core.Bool.{Bool, true, false, not, ◌&&◌}
use mathlib.Core.List.{List}
use Prim.Native.Nat.{ℕ, ◌-◌, ◌≤◌}
use native.Mathlib.Omega.{arith}
use lib.Ieee.{Float}
use borrow.Author.Tests.{not-true, not-false}
use Rattle.gate_limits.specs.Limits.{wavelength_passes}
use Rattle.sheet.specs.Internal.{begin}
use Rattle.gate.specs.Internal.{layers_hold_at, holds_at}
use Rattle.gate.proofs.holds.Goals as goal

module _ (src : List ℕ) (done count : ℕ) (w : Float) (t : Bool) (is : t ≡ wavelength_passes w) where
  abbrev layers : Bool
  layers = layers_hold_at (count - done) src (begin src done) w

  out_of_range : not t ≡ true → false ≡ holds_at src done count w
  unfolding holds_at
  out_of_range e = sym (ap (λ (b : Bool). b && layers) (sym is ∙ not-true t e))

  in_range : not t ≡ false → layers ≡ holds_at src done count w
  unfolding holds_at
  in_range e = sym (ap (λ (b : Bool). b && layers) (sym is ∙ not-false t e))

  none_left : not t ≡ false → count ≤ done → true ≡ holds_at src done count w
  unfolding layers_hold_at
  none_left e le = ap (λ (k : ℕ). layers_hold_at k src (begin src done) w) (sym gone) ∙ in_range e
    where
      gone : count - done ≡ 0
      gone = omega arith

  some_left : not t ≡ false → (at : ℕ) → at ≡ begin src done → (r : Bool) → r ≡ layers_hold_at (count - done) src at w → r ≡ holds_at src done count w
  some_left e at at_is r r_is = r_is ∙ ap (λ (k : ℕ). layers_hold_at (count - done) src k w) at_is ∙ in_range e

pub returns-then-not-wavelength_passes : goal.returns-then-not-wavelength_passes
returns-then-not-wavelength_passes c = out_of_range _ _ _ _ _ c.wavelength_passes.ensures (ap not c.if-not-wavelength_passes.true)

pub returns-then-done-count : goal.returns-then-done-count
returns-then-done-count c = none_left _ _ _ _ _ c.wavelength_passes.ensures (ap not c.if-not-wavelength_passes.false) c.if-done-count.true

pub returns : goal.returns
returns c = some_left _ _ _ _ _ c.wavelength_passes.ensures (ap not c.if-not-wavelength_passes.false) _ c.begin_of.ensures _ c.layers_hold.ensures
