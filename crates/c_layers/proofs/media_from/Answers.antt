-- `c_layers::media_from` meets its contract. Assumes nothing.
use mathlib.Core.Path.{ap, ◌∙◌}
use Prim.Native.Nat.{ℕ, ◌/◌}
use native.Mathlib.Omega.{arith}
use lib.ListN.{length}
use Rattle.surface_real.specs.Internal.{medium_of}
use Rattle.surface_real.proofs.Memo.{begun, turns, wrote_none, wrote_more, wrote_all}
use Rattle.c_layers.specs.Internal.{layer_on}
use Rattle.c_layers.proofs.media_from.Goals as goal

pub loop-i-init : goal.loop-i-init
loop-i-init c = (begun _ _ _ c.no_recent-recent.ensures, wrote_none _ _ _ _ _ _)

pub layer_at-requires : goal.layer_at-requires
layer_at-requires c =
    let n : ℕ = length c.args.flat.now / 3 in
    omega (arith, c.loop-i-test.true, c.requires.1)

pub loop-i-preserved : goal.loop-i-preserved
loop-i-preserved c =
    let a = c.args in
    let snell = a.light.snell in
    let nm = a.light.wavelength_nm in
    let m = turns snell nm _ _ _ c.loop-i.invariant.0 c.turn-recent.ensures.0 c.turn-recent.ensures.1 c.turn-recent.ensures.2 in (
      m.0,
      wrote_more snell nm (layer_on a.flat.now a.after) _ _ _ c.loop-i.i _ _ _ _ c.loop-i.invariant.1 (m.1 ∙ ap (medium_of snell nm) c.layer_at.ensures),
    )

pub returns : goal.returns
returns c =
    let a = c.args in
    wrote_all a.light.snell a.light.wavelength_nm (layer_on a.flat.now a.after) _ _ _ c.loop-i.i a.few _ _ _ (omega (arith, c.loop-i-test.false)) c.loop-i.invariant.1
