-- `surface_real::films::join_together` meets its contract. Assumes nothing.
use mathlib.Core.Path.{◌≡◌, ◌∙◌}
use Prim.Native.Nat.{ℕ, ◌≤◌, ◌<◌}
use native.Mathlib.Nat.{le_refl}
use native.Mathlib.Omega.{arith}
use lib.ListN.{replicate, length-replicate}
use borrow.Author.Rules.{rules}
use Rattle.ieee.specs.Functions.{one}
use Rattle.surface_real.specs.InternalFilms.{film_at, film_here, film_place}
use Rattle.surface_real.proofs.Arrays.{own_film}
use Rattle.surface_real.proofs.Stacking.{same_joined}
use Rattle.surface_real.proofs.films.join_together.Goals as goal

pub returns : goal.returns
returns c =
    let a = c.args in
    let film = film_at a.eta_s.now a.eta_p.now a.delta.now in
    c.join_films.ensures
    ∙ same_joined _ film a.reversed a.count a.count a.stack (le_refl a.count)
    (λ j h.
    let t = c.film_count-films.ensures.1 j h in
    own_film (replicate 16 one) (length-replicate 16 one) c.film_count-films.result c.angle_count.result c.angle_count.ensures.0 c.angle_count.ensures.1
    a.eta_s.now a.eta_p.now a.delta.now _ _ _ _ c.sin_cos.ensures.0 c.sin_cos.ensures.1 c.quotients.ensures.0 c.quotients.ensures.1 _ t.0
    ∙ t.1)
