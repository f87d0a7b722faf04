-- `surface_real::presets::media` meets its contract. Assumes nothing.
use mathlib.Core.Path.{ap, ◌∙◌}
use mathlib.Core.List.{[]}
use native.Mathlib.Omega.{arith}
use lib.ListN.{get_or}
use Rattle.thin_film_layers.specs.Evaluation.{no_layer}
use Rattle.thin_film.specs.Coating.{layers_of}
use Rattle.surface_real.specs.Internal.{medium_of}
use Rattle.surface_real.proofs.Memo.{begun, turns, wrote_none, wrote_more, wrote_all}
use Rattle.surface_real.proofs.presets.media.Goals as goal

pub loop-i-init : goal.loop-i-init
loop-i-init c = (begun _ _ _ c.no_recent-recent.ensures, wrote_none _ _ _ _ _ _)

pub loop-i-preserved : goal.loop-i-preserved
loop-i-preserved c =
    let a = c.args in
    let snell = a.light.snell in
    let nm = a.light.wavelength_nm in
    let m = turns snell nm _ _ _ c.loop-i.invariant.0 c.turn-recent.ensures.0 c.turn-recent.ensures.1 c.turn-recent.ensures.2 in (
      m.0,
      wrote_more snell nm (λ j. get_or (layers_of a.coating []) j no_layer) _ _ _ c.loop-i.i _ _ _ _ c.loop-i.invariant.1 (m.1 ∙ ap (medium_of snell nm) c.own_layer.ensures),
    )

pub returns : goal.returns
returns c =
    let a = c.args in
    wrote_all a.light.snell a.light.wavelength_nm (λ j. get_or (layers_of a.coating []) j no_layer) _ _ _ c.loop-i.i a.count _ _ _ (omega (arith, c.loop-i-test.false)) c.loop-i.invariant.1
