-- `thin_film_matrix::phase_of` meets its contract. Assumes nothing.
use mathlib.Core.Path.{◌≡◌}
use lib.Ieee.{Float, neg}
use Rattle.ieee.specs.Operators.{◌⊗◌}
use Rattle.ieee.specs.Functions.{zero_f, half}
use Rattle.math_trig.specs.declared.SinCos.{SinCos}
use Rattle.math_trig.specs.Trig.{sin, cos, sin_cos}
use Rattle.math_exp.specs.Exp as Exp
use Rattle.math_trig.proofs.Parity.{sin_odd, cos_even}
use Rattle.thin_film_complex.specs.declared.Complex.{Complex}
use Rattle.thin_film_complex.specs.Complex.{scale, add, sub, mul, exp}
use Rattle.thin_film_matrix.specs.declared.Phase.{Phase}
use Rattle.thin_film_matrix.specs.Film.{exp_pos, exp_neg, cos_delta, sin_delta, i_sin_delta}
use Rattle.thin_film_matrix.proofs.Exponentials.{exp_sgn, sum_odd, difference_odd}
use borrow.Author.Rules.{rules}
use Rattle.thin_film_matrix.proofs.phase_of.Goals as goal

module _ (d : Complex) where
  -- the two factors, and the two exponentials as they are computed
  abbrev pos : Float
  pos = Exp.exp (neg d.im)

  abbrev min : Float
  min = Exp.exp d.im

  abbrev plain : Complex
  plain = record { re = pos ⊗ cos d.re; im = pos ⊗ sin d.re }

  abbrev turned : Complex
  turned = record { re = min ⊗ cos d.re; im = min ⊗ neg (sin d.re) }

  sums : add plain turned ≡ add (exp_pos d) (exp_neg d)
  unfolding add exp exp_pos exp_neg
  sums = simp (cos_even, sum_odd pos min (sin d.re) (sin (neg d.re)) (exp_sgn (neg d.im)) (exp_sgn d.im) (sin_odd d.re))

  differences : sub plain turned ≡ sub (exp_pos d) (exp_neg d)
  unfolding sub exp exp_pos exp_neg
  differences = simp (cos_even, difference_odd pos min (sin d.re) (sin (neg d.re)) (exp_sgn (neg d.im)) (exp_sgn d.im) (sin_odd d.re))

  parts : (y : SinCos) (g h : Float) (p n s x u w m i : Complex) → y ≡ sin_cos d.re → g ≡ pos → h ≡ min
      → p ≡ record { re = g ⊗ y.cos; im = g ⊗ y.sin } → n ≡ record { re = h ⊗ y.cos; im = h ⊗ neg y.sin } → s ≡ add p n → x ≡ scale s half → u ≡ sub p n
      → w ≡ record { re = zero_f; im = neg half } → m ≡ mul u w → i ≡ record { re = neg m.im; im = m.re }
      → ◌≡◌ {A = Phase} (record { cos = x; i_sin = i }) (record { cos = cos_delta d; i_sin = i_sin_delta d })
  unfolding cos_delta sin_delta i_sin_delta
  parts y g h p n s x u w m i h1 h2 h3 h4 h5 h6 h7 h8 h9 h10 h11 = simp (h11, h10, h9, h8, h7, h6, h5, h4, h3, h2, h1, sums, differences)

pub returns : goal.returns
returns c =
    parts _ _ _ _ _ _ _ _ _ _ _ _ c.sin_cos-y.ensures c.exp_of-pos.ensures c.exp_of-neg.ensures c.new-exp_pos.ensures c.new-exp_neg.ensures c.add.ensures c.scale-cos_delta.ensures c.sub.ensures c.new.ensures c.mul-sin_delta.ensures c.new-2.ensures
