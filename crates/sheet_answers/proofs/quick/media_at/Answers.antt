-- `sheet_answers::quick::media_at` meets its contract. Assumes nothing.
use mathlib.Core.Path.{◌≡◌, ap, ◌∙◌}
use mathlib.Core.List.{List}
use Prim.Native.Nat.{ℕ, ◌+◌}
use native.Mathlib.Omega.{arith}
use lib.Ieee.{Float}
use Rattle.sheet.specs.Internal.{next_place, place_on, layer_at}
use Rattle.sheet_values.specs.Values.{film}
use Rattle.surface_real.specs.Internal.{medium_of}
use Rattle.surface_real.proofs.Memo.{begun, turns, wrote_none, wrote_more, wrote_all}
use Rattle.sheet_answers.specs.declared.quick.Reached.{Reached}
use Rattle.sheet_answers.specs.Internal.{nth_film, reached}
use Rattle.sheet_answers.proofs.Walk.{first, further}
use Rattle.sheet_answers.proofs.quick.media_at.Goals as goal

-- the layer that is reached
module _ (w : Float) (src : List ℕ) (at i place : ℕ) (e : place ≡ place_on src (next_place src at) i) (r : Reached) (f : r ≡ reached w src place) where
  own : r.layer ≡ nth_film w src at i
  unfolding reached
  own = ap (λ (z : Reached). z.layer) f ∙ ap (λ (p : ℕ). film w (layer_at src p)) e

  on : r.next ≡ place_on src (next_place src at) (i + 1)
  unfolding reached
  on = further src (next_place src at) i place r.next e (ap (λ (z : Reached). z.next) f)

pub loop-i-init : goal.loop-i-init
loop-i-init c = (first _ _ _ c.next_place-place.ensures, begun _ _ _ c.no_recent-recent.ensures, wrote_none _ _ _ _ _ _)

pub loop-i-preserved : goal.loop-i-preserved
loop-i-preserved c =
    let a = c.args in
    let snell = a.light.snell in
    let nm = a.light.wavelength_nm in
    let inv = c.loop-i.invariant in
    let m = turns snell nm _ _ _ inv.1 c.turn-recent.ensures.0 c.turn-recent.ensures.1 c.turn-recent.ensures.2 in (
      on a.wavelength_nm a.src.now a.at _ _ inv.0 _ c.reach-reached.ensures,
      m.0,
      wrote_more snell nm (nth_film a.wavelength_nm a.src.now a.at) _ _ _ c.loop-i.i _ _ _ _ inv.2
          (m.1 ∙ ap (medium_of snell nm) (own a.wavelength_nm a.src.now a.at _ _ inv.0 _ c.reach-reached.ensures)),
    )

pub returns : goal.returns
returns c =
    let a = c.args in
    wrote_all a.light.snell a.light.wavelength_nm (nth_film a.wavelength_nm a.src.now a.at) _ _ _ c.loop-i.i a.count _ _ _ (omega arith) c.loop-i.invariant.2
