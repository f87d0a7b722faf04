-- `math_waves::at_once` meets its contract. Assumes nothing.
use mathlib.Core.Path.{◌≡◌, refl, ap, ◌∙◌}
use lib.Ieee.{Float, neg, of_bits}
use Rattle.ieee.specs.Operators.{◌⊗◌}
use Rattle.ieee.specs.Functions.{one, minus_one, clamp}
use Rattle.math_trig.specs.declared.Series.{Series}
use Rattle.math_trig.specs.Trig.{second_fold, series, sin_div, cos_div, sin_at, cos_at}
use Rattle.math_trig.specs.Internal.{near_line}
use Rattle.math_waves.specs.Internal.{turned, all_near, near_sin, near_cos}
use Rattle.math_waves.proofs.Written.{written_none, written_more}
use Rattle.math_waves.proofs.Sizes.{more_near}
use Rattle.math_waves.proofs.at_once.Goals as goal

-- one angle
module _ (x r a : Float) (p : Series) (er : r ≡ near_line x) (ea : a ≡ second_fold r)
    (ep : p ≡ record { sin = series sin_div 10 (a ⊗ a) one; cos = series cos_div 11 (a ⊗ a) one }) where
  sin_here : (s : Float) → s ≡ clamp (a ⊗ p.sin) minus_one one → s ≡ near_sin x
  unfolding near_sin sin_at
  sin_here s e = e ∙ ap (λ (q : Series). clamp (a ⊗ q.sin) minus_one one) ep ∙ ap sin_at (ea ∙ ap second_fold er)

  cos_here : (c t : Float) → c ≡ clamp p.cos minus_one one → t ≡ turned r c → t ≡ near_cos x
  unfolding near_cos cos_at
  cos_here c t e f = f ∙ ap (turned r) (e ∙ ap (λ (q : Series). clamp q.cos minus_one one) ep ∙ ap cos_at ea) ∙ ap (λ (z : Float). turned z (cos_at (second_fold z))) er

pub loop-i-init : goal.loop-i-init
unfolding all_near
loop-i-init c = (refl, (written_none _ _, written_none _ _))

pub loop-i-preserved : goal.loop-i-preserved
unfolding of_bits neg
loop-i-preserved c =
    let line = c.near_line-r.ensures in
    let folds = c.second_fold-a.ensures in
    let both = c.both_series-p.ensures in
    let w = c.loop-i.invariant in (
      more_near _ _ _ _ _ w.0 c.near-all.ensures line,
      (
        written_more _ _ _ _ _ w.1.0 (sin_here _ _ _ _ line folds both _ c.clamp.ensures),
        written_more _ _ _ _ _ w.1.1 (cos_here _ _ _ _ line folds both _ _ c.clamp-in-loop-i.ensures c.turned.ensures),
      ),
    )
