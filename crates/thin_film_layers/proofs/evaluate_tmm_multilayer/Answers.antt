-- `thin_film_layers::evaluate_tmm_multilayer` meets its contract. Assumes nothing.
use mathlib.Core.Path.{sym, ap, ◌∙◌}
use Rattle.thin_film_layers.specs.Internal.{read_from, response}
use Rattle.thin_film_layers.proofs.Order as Order
use Rattle.thin_film_layers.proofs.evaluate_tmm_multilayer.Goals as goal
use Rattle.refusal.specs.Outcome.{outcome}

pub returns : goal.returns
returns c =
    c.response.ensures
    ∙ Order.every c.args.n_incident c.args.n_substrate c.args.angle_incident_rad c.args.wavelength_nm c.args.layers.now c.evaluate_list.result
    (c.evaluate_list.ensures ∙ ap (λ p. read_from p c.args.layers.now) c.all_layers.ensures)
