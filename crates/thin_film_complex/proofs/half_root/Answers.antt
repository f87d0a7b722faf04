-- `thin_film_complex::half_root` meets its contract. Assumes nothing.
use mathlib.Core.Path.{◌∙◌, ap}
use lib.Ieee.{binary64}
use Rattle.math_root.specs.Root.{square_root}
use Rattle.thin_film_complex.specs.Complex.{half_root}
use borrow.Author.Rules.{rules}
use Rattle.thin_film_complex.proofs.half_root.Goals as goal

pub returns : goal.returns
unfolding half_root
returns c = c.sqrt.ensures ∙ ap (square_root binary64) c.max.ensures
