-- `thin_film_complex::Complex::exp` meets its contract. Assumes nothing.
use mathlib.Core.Path.{◌≡◌}
use borrow.Author.Rules.{rules}
use lib.Ieee.{Float}
use Rattle.ieee.specs.Operators.{◌⊗◌}
use Rattle.math_trig.specs.declared.SinCos.{SinCos}
use Rattle.math_trig.specs.Trig.{sin_cos}
use Rattle.math_exp.specs.Exp as Exp
use Rattle.thin_film_complex.specs.declared.Complex.{Complex}
use Rattle.thin_film_complex.specs.Complex.{exp}
use Rattle.thin_film_complex.proofs.Complex.exp.Goals as goal

parts : (z : Complex) (e : Float) (y : SinCos) → e ≡ Exp.exp z.re → y ≡ sin_cos z.im → ◌≡◌ {A = Complex} (record { re = e ⊗ y.cos; im = e ⊗ y.sin }) (exp z)
unfolding exp
parts z e y p q = cc

pub returns : goal.returns
returns c = parts _ _ _ c.exp-exp_x.ensures c.sin_cos-y.ensures
