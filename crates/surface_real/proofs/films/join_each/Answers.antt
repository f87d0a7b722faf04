-- `surface_real::films::join_each` meets its contract. Assumes nothing.
use mathlib.Core.Path.{◌≡◌, ap, ◌∙◌}
use Prim.Native.Nat.{ℕ}
use native.Mathlib.Omega.{arith}
use mathlib.Core.List.{List}
use lib.Ieee.{Float}
use Rattle.math_trig.specs.declared.SinCos.{SinCos}
use Rattle.math_trig.specs.Trig.{sin_cos}
use Rattle.surface_real.specs.declared.Film.{Film}
use Rattle.surface_real.specs.Internal.{film_in}
use Rattle.surface_real.specs.InternalFilms.{at, film_at}
use Rattle.surface_real.proofs.Loops.{none, next, all}
use Rattle.surface_real.proofs.films.join_each.Goals as goal

-- the film of the medium that is read
here : (es ep δ : List Float) (j : ℕ) (w : SinCos) (f : Film) → w ≡ sin_cos (at δ j) → f ≡ film_in (at es j) (at ep j) w.sin w.cos → f ≡ film_at es ep δ j
unfolding film_at
here es ep δ j w f w_is f-is = f-is ∙ ap (λ (v : SinCos). film_in (at es j) (at ep j) v.sin v.cos) w_is

pub loop-i-init : goal.loop-i-init
loop-i-init c = none _ _ _ _

pub loop-i-preserved : goal.loop-i-preserved
loop-i-preserved c =
    let a = c.args in
    next _ _ _ _ _ _ _ _ c.loop-i.invariant
    (here a.eta_s.now a.eta_p.now a.delta.now _ _ _ c.sin_cos-wave.ensures c.film_in-film.ensures ∙ ap (film_at a.eta_s.now a.eta_p.now a.delta.now) c.nth_index-j.ensures)
    c.join-product.ensures

pub returns : goal.returns
returns c = all _ _ _ _ _ _ (omega (arith, c.loop-i-test.false)) c.loop-i.invariant
