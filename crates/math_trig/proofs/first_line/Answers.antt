-- `math_trig::first_line` meets its contract. Assumes nothing.
use mathlib.Core.Path.{sym, ap, ◌∙◌}
use borrow.Author.Rules.{rules}
use lib.Ieee.{Float, le}
use Rattle.ieee.proofs.Signs.{of_true}
use Rattle.math_trig.specs.Angles.{pi, turns_limit}
use Rattle.math_trig.specs.Trig.{first_line}
use Rattle.math_trig.proofs.Shifted.{up_to_pi, up_to_limit}
use Rattle.math_trig.proofs.first_line.Goals as goal

pub returns-then-size : goal.returns-then-size
returns-then-size c = up_to_pi c.args.x (of_true _ (ap (λ (z : Float). le z pi) (sym c.abs-size.ensures) ∙ c.if-size.true))

pub returns-then-size-2 : goal.returns-then-size-2
returns-then-size-2 c = c.near_line.ensures ∙ up_to_limit c.args.x (of_true _ (ap (λ (z : Float). le z turns_limit) (sym c.abs-size.ensures) ∙ c.if-size-2.true))

pub returns-else-size-2 : goal.returns-else-size-2
unfolding first_line
returns-else-size-2 c = c.rem.ensures ∙ simp (sym c.abs-size.ensures, c.if-size-2.false)
