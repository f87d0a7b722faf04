-- `c_fresnel::fresnel_dielectric` meets its contract. Assumes nothing.
use mathlib.Core.Path.{ap, ◌∙◌}
use Rattle.c_call.specs.Call.{written}
use Rattle.fresnel.specs.declared.Reflectances.{Reflectances}
use Rattle.c_fresnel.specs.Fresnel.{reflectances}
use borrow.Author.Rules.{rules}
use Rattle.c_fresnel.proofs.fresnel_dielectric.Goals as goal

pub returns : goal.returns
returns c = c.put_both.ensures ∙ ap (λ (z : Reflectances). written (reflectances z) c.args.list.now) c.fresnel_dielectric-r.ensures
