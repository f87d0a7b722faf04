-- `thin_film_coating::Coating::evaluate` meets its contract. Assumes nothing.
use mathlib.Core.Path.{refl, ap, ◌∙◌}
use mathlib.Core.Bool.{false}
use mathlib.Core.List.{List}
use lib.ListN.{length}
use Rattle.thin_film_solver.specs.declared.ThinFilmLayer.{ThinFilmLayer}
use Rattle.thin_film_layers.proofs.Order.{front}
use Rattle.thin_film_coating.specs.Evaluate.{evaluate_coating}
use Rattle.thin_film_coating.proofs.Answers.{prepared}
use Rattle.thin_film_coating.proofs.Coating.evaluate.Goals as goal

pub returns : goal.returns
returns c =
    let a = c.args in
    c.evaluate_list.ensures
    ∙ prepared a.n_incident a.n_substrate a.angle_incident_rad a.wavelength_nm false a.layers.now (length a.layers.now) refl a.self c.prepare.result c.prepare.ensures
    ∙ ap (λ (ls : List ThinFilmLayer). evaluate_coating a.self ls a.n_incident a.n_substrate a.angle_incident_rad a.wavelength_nm) (front a.layers.now)
