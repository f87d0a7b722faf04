-- `sheet::begin_of` meets its contract. Assumes nothing.
use mathlib.Core.Path.{◌≡◌}
use mathlib.Core.List.{List}
use Prim.Native.Nat.{ℕ, suc, ◌+◌}
use native.Mathlib.Numerals.{add-one}
use Rattle.sheet.specs.Internal.{place_on, layer_run, onto, begin}
use Rattle.sheet.proofs.begin_of.Goals as goal

further : (src : List ℕ) (at i o q : ℕ) → at ≡ begin src i → o ≡ onto src at → q ≡ place_on src o (suc (layer_run 16 src o)) → q ≡ begin src (i + 1)
unfolding begin
further src at i o q e k h = rw (add-one i, ← e, ← k) h

pub loop-init : goal.loop-init
unfolding begin
loop-init c = c.place_on-at.ensures

pub loop-preserved : goal.loop-preserved
loop-preserved c = further _ _ _ _ _ c.loop.invariant c.onto.ensures c.after_layers-at.ensures
