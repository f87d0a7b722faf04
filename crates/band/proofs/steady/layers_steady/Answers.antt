-- `band::steady::layers_steady` meets its contract. Assumes nothing.
use mathlib.Core.Path.{◌≡◌, ap, ◌∙◌, subst}
use mathlib.Core.Bool.{true}
use mathlib.Core.List.{List}
use Prim.Native.Nat.{ℕ}
use native.Mathlib.Nat.{sub-zero}
use lib.Ieee.{Float}
use Rattle.sheet.specs.Internal.{layers_at}
use Rattle.gate_limits.specs.Limits.{layer_within}
use Rattle.gate.specs.Wavelength.{layers_admitted}
use Rattle.band.proofs.Always.{Layers, layer_more, layers_done}
use mathlib.Core.Bool.{not}
use Rattle.band.proofs.steady.layers_steady.Goals as goal

begun : (src : List ℕ) (from n : ℕ) (b : Float) → Layers src from n b from 0
begun src from n b w e = subst (λ (m : ℕ). layers_admitted w b (layers_at src from m) ≡ true) (sub-zero n) e

pub loop-init : goal.loop-init
loop-init c = begun _ _ _ _

pub loop-preserved : goal.loop-preserved
loop-preserved c =
    layer_more _ _ _ _ _ _ c.loop.invariant c.loop-test.true _ c.kind_at.ensures c.if-kind_at-eq6.false _ (c.layer_within.ensures ∙ ap (layer_within _) c.plain_at.ensures) (ap not c.if-not-layer_within.false) _ c.next_place-place.ensures

pub returns : goal.returns
returns c = λ t. layers_done _ _ _ _ _ _ c.loop.invariant c.loop-test.false
