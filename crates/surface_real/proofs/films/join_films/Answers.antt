-- `surface_real::films::join_films` meets its contract. Assumes nothing.
use mathlib.Core.Path.{◌≡◌, ap, ◌∙◌}
use mathlib.Core.Bool.{Bool, true, false, cond}
use Prim.Native.Nat.{ℕ, ◌%◌, ◌<◌}
use native.Mathlib.Omega.{arith}
use mathlib.Core.List.{List}
use lib.Dec.{ltb}
use lib.Ieee.{Float}
use Rattle.ieee.specs.Operators.{◌⊗◌}
use Rattle.thin_film_layers.specs.Internal.{nth_index}
use Rattle.surface_real.specs.declared.Film.{Film}
use Rattle.surface_real.specs.InternalFilms.{at, film_here, film_place}
use Rattle.surface_real.proofs.Loops.{none, next, all}
use Rattle.surface_real.proofs.films.join_films.Goals as goal

-- a film stands within 16 places
low : (j films : ℕ) → j < 16 → film_place j films < 16
low j films h = go (ltb j films)
  where
    go : (b : Bool) → cond b j (j % 2) < 16
    go true = h
    go false = omega arith

-- the film that is read
here : (sin cos eta_s eta_p y-s y-p : List Float) (films : ℕ) (reversed : Bool) (n i j place : ℕ) → j ≡ nth_index reversed n i → place ≡ film_place j films
    → ◌≡◌ {A = Film} (record { cos = at cos place; y_s = at y-s place; z_s = at sin place ⊗ at eta_s place; y_p = at y-p place; z_p = at sin place ⊗ at eta_p place })
    (film_here sin cos eta_s eta_p y-s y-p (film_place (nth_index reversed n i) films))
unfolding film_here
here sin cos eta_s eta_p y-s y-p films reversed n i j place e f = ap (film_here sin cos eta_s eta_p y-s y-p) (f ∙ ap (λ (z : ℕ). film_place z films) e)

pub loop-i-init : goal.loop-i-init
loop-i-init c = none _ _ _ _

pub loop-i-preserved : goal.loop-i-preserved
loop-i-preserved c =
    next _ _ _ _ _ _ _ _ c.loop-i.invariant (here _ _ _ _ _ _ _ c.args.reversed c.args.count c.loop-i.i _ _ c.nth_index.ensures c.film_place-j.ensures) c.join-product.ensures

pub returns : goal.returns
returns c = all _ _ _ _ _ _ (omega (arith, c.loop-i-test.false)) c.loop-i.invariant
