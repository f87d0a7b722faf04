-- `math_waves::folds` meets its contract. Assumes nothing.
use mathlib.Core.Path.{◌≡◌, refl, ap, ◌∙◌}
use lib.Ieee.{Float}
use Rattle.ieee.specs.Operators.{◌⊗◌}
use Rattle.math_trig.specs.Trig.{second_fold}
use Rattle.math_trig.specs.Internal.{near_line}
use Rattle.math_waves.specs.Internal.{all_near, near_fold, near_square}
use Rattle.math_waves.proofs.Written.{written_none, written_more}
use Rattle.math_waves.proofs.Sizes.{more_near}
use Rattle.math_waves.proofs.folds.Goals as goal

-- one angle
module _ (x r a : Float) (er : r ≡ near_line x) (ea : a ≡ second_fold r) where
  fold_here : a ≡ near_fold x
  unfolding near_fold
  fold_here = ea ∙ ap second_fold er

  square_here : a ⊗ a ≡ near_square x
  unfolding near_square
  square_here = ap (λ (z : Float). z ⊗ z) fold_here

pub loop-i-init : goal.loop-i-init
unfolding all_near
loop-i-init c = (refl, (written_none _ _, (written_none _ _, written_none _ _)))

pub loop-i-preserved : goal.loop-i-preserved
loop-i-preserved c =
    let line = c.near_line-rest.ensures in
    let fold = c.second_fold-folded.ensures in
    let w = c.loop-i.invariant in (
      more_near _ _ _ _ _ w.0 c.near-all.ensures line,
      (
        written_more _ _ _ _ _ w.1.0 line,
        (
          written_more _ _ _ _ _ w.1.1.0 (fold_here _ _ _ line fold),
          written_more _ _ _ _ _ w.1.1.1 (square_here _ _ _ line fold),
        ),
      ),
    )
