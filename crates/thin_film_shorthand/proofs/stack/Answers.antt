-- `thin_film_shorthand::stack` meets its contract. Assumes nothing.
use Rattle.std.proofs.Common.{sym, ap, ◌∙◌}
use Rattle.std.proofs.lemmas.Result.{err_from_is_err_and}
use Rattle.refusal.specs.Outcome as Outcome
use Rattle.thin_film_grammar.specs.Reading.{reading}
use Rattle.thin_film_coating.specs.Coating.{layers_in}
use Rattle.thin_film_shorthand.specs.Stack.{layer}
use Rattle.thin_film_shorthand.proofs.Given as given
use Rattle.thin_film_shorthand.proofs.stack.Goals as goal

pub returns-then-not-valid : goal.returns-then-not-valid
returns-then-not-valid c = ap (Outcome.map layers_in) (given.bad _ _ _ _ _ (sym c.valid.ensures ∙ c.if-not-valid.true))

pub returns-in_err-reading : goal.returns-in_err-reading
returns-in_err-reading c =
    let p = err_from_is_err_and c.from_residual.result c.from_residual.ensures.1 in
    rw (p.1, p.2) (given.turned_back (layer c.args.n_h c.args.n_l c.args.n_m c.args.design_wavelength_nm) (reading c.args.text.now) _ c.in_err-reading.ensures ∙ ap (Outcome.map layers_in) (given.good _ _ _ _ _ (sym c.valid.ensures ∙ c.if-not-valid.false)))

pub layers-requires : goal.layers-requires
layers-requires c = given.few (reading c.args.text.now) _ (given.all_fine c.args.text.now) c.in_ok-reading.ensures

pub returns : goal.returns
returns c = ap Outcome.answer c.layers.ensures ∙ given.taken_over (layer c.args.n_h c.args.n_l c.args.n_m c.args.design_wavelength_nm) (reading c.args.text.now) _ c.in_ok-reading.ensures ∙ ap (Outcome.map layers_in) (given.good _ _ _ _ _ (sym c.valid.ensures ∙ c.if-not-valid.false))
