-- `c_polarization::retarder` meets its contract. Assumes nothing.
use mathlib.Core.Path.{ap, ◌∙◌}
use Rattle.polarization_mueller.specs.declared.JonesMatrix.{JonesMatrix}
use Rattle.c_call.specs.Call.{written}
use Rattle.c_call.specs.Layout.{entries}
use borrow.Author.Rules.{rules}
use Rattle.c_polarization.proofs.retarder.Goals as goal

pub returns : goal.returns
returns c = c.put_jones.ensures ∙ ap (λ (j : JonesMatrix). written (entries j) c.args.list.now) c.retarder.ensures
