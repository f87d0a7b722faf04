-- `c_fresnel::schlick_approx` meets its contract. Assumes nothing.
use mathlib.Core.Path.{ap, ◌∙◌}
use Rattle.c_call.specs.Call.{written}
use lib.Ieee.{Float}
use Rattle.c_call.specs.Layout.{alone}
use borrow.Author.Rules.{rules}
use Rattle.c_fresnel.proofs.schlick_approx.Goals as goal

pub returns : goal.returns
returns c = c.put_one.ensures ∙ ap (λ (z : Float). written (alone z) c.args.list.now) c.schlick_approx.ensures
