-- `surface_real::films::join_all` meets its contract. Assumes nothing.
use mathlib.Core.Path.{◌≡◌, ap, ◌∙◌}
use mathlib.Core.Logic.{⊎_elim}
use Prim.Native.Nat.{ℕ, ◌≤◌}
use native.Mathlib.Omega.{arith}
use Rattle.math_waves.specs.Waves.{at_most_16}
use Rattle.surface_real.specs.InternalFilms.{film_at, joined}
use Rattle.surface_real.proofs.films.join_all.Goals as goal
use Rattle.surface_real.proofs.films.join_all.Goals.{else-count-lt16, then-count-lt16}

pub returns-then-few-le2 : goal.returns-then-few-le2
returns-then-few-le2 c =
    let a = c.args in
    c.join_each.ensures ∙ ap (λ (n : ℕ). joined (film_at a.eta_s.now a.eta_p.now a.delta.now) a.reversed n n a.stack) ((let it : c.if-count-lt16.few ≡ at_most_16 c.args.count = elim c.if-count-lt16.branch [ then-count-lt16 w ↦ omega arith | else-count-lt16 w ↦ omega arith ] in it))

pub returns : goal.returns
returns c =
    let a = c.args in
    c.join_together.ensures ∙ ap (λ (n : ℕ). joined (film_at a.eta_s.now a.eta_p.now a.delta.now) a.reversed n n a.stack) ((let it : c.if-count-lt16.few ≡ at_most_16 c.args.count = elim c.if-count-lt16.branch [ then-count-lt16 w ↦ omega arith | else-count-lt16 w ↦ omega arith ] in it))
