-- `surface_real::films::take_turns` meets its contract. Assumes nothing.
use mathlib.Core.Path.{◌≡◌}
use Prim.Native.Nat.{ℕ, ◌+◌, ◌<◌}
use Rattle.surface_real.specs.declared.Film.{Film}
use Rattle.surface_real.specs.InternalFilms.{film_at}
use Rattle.surface_real.proofs.films.take_turns.Given as goal

-- the first films take turns
abbrev pub Turns : (ℕ → Film) → ℕ → Type 0
Turns film m = (i : ℕ) → i + 2 < m → film (i + 2) ≡ film i

abbrev pub invariant-loop-i : goal.invariant-loop-i
invariant-loop-i l = Turns (film_at l.eta_s l.eta_p l.delta) l.i
