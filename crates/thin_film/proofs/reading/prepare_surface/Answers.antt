-- `thin_film::reading::prepare_surface` meets its contract. Assumes nothing.
use mathlib.Core.Path.{◌≡◌, ◌∙◌, ap}
use mathlib.Core.List.{List}
use Rattle.thin_film_solver.specs.declared.ThinFilmLayer.{ThinFilmLayer}
use Rattle.thin_film_layers.specs.declared.Prepared.{Prepared}
use Rattle.thin_film_layers.specs.Internal.{read_from}
use Rattle.thin_film.proofs.Own.{evaluates, answers}
use borrow.Author.Rules.{rules}
use Rattle.thin_film.proofs.reading.prepare_surface.Goals as goal

pub returns : goal.returns
returns c layers long =
    ap (λ (p : Prepared). read_from p layers) c.with_own_layers.ensures ∙ answers _ c.prepare.result layers
    ∙ evaluates _ _ _ _ _ layers _ long c.prepare.result c.prepare.ensures
