-- `c_names::coating_of` meets its contract. Assumes nothing.
use mathlib.Core.Path.{◌∙◌}
use borrow.Author.Tests.{ne_eqb}
use Rattle.c_layers.specs.Evaluate.{call_coating}
use Rattle.c_names.proofs.coating_of.Goals as goal

pub returns-then-code-eq8 : goal.returns-then-code-eq8
unfolding call_coating
returns-then-code-eq8 c = simp c.if-code-eq8.true

pub returns : goal.returns
unfolding call_coating
returns c = c.coded.ensures ∙ simp (ne_eqb _ _ c.if-code-eq8.false)
