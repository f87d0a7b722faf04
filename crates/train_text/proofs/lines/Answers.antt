-- `train_text::lines` meets its contract. Assumes nothing.
use mathlib.Core.Path.{refl, ◌∙◌}
use native.Mathlib.Omega.{arith}
use Rattle.train_text.proofs.Runs.{started, onward, ended}
use Rattle.train_text.proofs.lines.Goals as goal

pub loop-i-init : goal.loop-i-init
loop-i-init c = (omega arith, (refl, λ x run. started _ _ _ _ _ _ run _))

pub surface_line-at-requires : goal.surface_line-at-requires
surface_line-at-requires c = omega (arith, c.loop-i.invariant.0, c.loop-i.invariant.1.0, c.loop-i-test.true, c.requires.0, c.requires.1)

pub loop-i-preserved : goal.loop-i-preserved
loop-i-preserved c = (
  omega (arith, c.loop-i.invariant.0, c.surface_line-at.ensures.1),
  (
    c.surface_line-at.ensures.0.long ∙ c.loop-i.invariant.1.0,
    λ x run. onward _ _ _ _ _ _ run _ _ _ _ _ _ _ _ (c.loop-i.invariant.1.1 x run) c.loop-i-test.true _ _ c.reflects.ensures c.surface_line-at.ensures.0,
  ),
)

pub sum_line-requires : goal.sum_line-requires
sum_line-requires c = omega (arith, c.loop-i.auto.i-end, c.loop-i.invariant.0, c.loop-i.invariant.1.0, c.requires.0, c.requires.1)

pub shape_of-page : goal.shape_of-page
shape_of-page c = c.sum_line.ensures.0.long ∙ c.loop-i.invariant.1.0

pub returns : goal.returns
returns c = (
  λ x run. ended _ _ _ _ _ _ run _ _ _ _ _ _ _ _ (c.loop-i.invariant.1.1 x run) c.loop-i-test.false c.sum_line.ensures.0,
  omega (arith, c.sum_line.ensures.1, c.loop-i.invariant.1.0),
)
