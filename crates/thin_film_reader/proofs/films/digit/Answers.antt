-- `thin_film_reader::films::digit` meets its contract. Assumes nothing.
use mathlib.Core.Path.{ap, ◌∙◌}
use Prim.Native.Nat.{ℕ, ◌*◌}
use Rattle.thin_film_reader.specs.InternalFilms.{repeated}
use Rattle.thin_film_reader.proofs.films.digit.Goals as goal

pub returns : goal.returns
returns c = c.repeat.ensures ∙ ap (λ (n : ℕ). repeated c.args.f (n * c.args.f.unit)) c.copies.ensures
