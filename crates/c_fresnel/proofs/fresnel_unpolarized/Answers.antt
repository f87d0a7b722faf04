-- `c_fresnel::fresnel_unpolarized` meets its contract. Assumes nothing.
use mathlib.Core.Path.{ap, ◌∙◌}
use Rattle.c_call.specs.Call.{written}
use Rattle.fresnel.specs.declared.Unpolarized.{Unpolarized}
use Rattle.c_fresnel.specs.Fresnel.{totals}
use borrow.Author.Rules.{rules}
use Rattle.c_fresnel.proofs.fresnel_unpolarized.Goals as goal

pub returns : goal.returns
returns c = c.put_both.ensures ∙ ap (λ (z : Unpolarized). written (totals z) c.args.list.now) c.fresnel_unpolarized-r.ensures
