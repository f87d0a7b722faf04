-- `thin_film_solver::solve` meets its contract. Assumes nothing.
use mathlib.Core.Path.{◌≡◌}
use lib.Ieee.{Float}
use Rattle.ieee.specs.Operators.{◌⊗◌, ◌⊘◌}
use Rattle.ieee.specs.Functions.{zero_f, one, two, clamp}
use Rattle.thin_film_complex.specs.declared.Complex.{Complex}
use Rattle.thin_film_complex.specs.Complex.{scale, norm_sq, arg, add, sub, mul, div}
use Rattle.thin_film_matrix.specs.Matrix.{Matrix, at}
use Rattle.thin_film_solver.specs.declared.Polarized.{Polarized}
use Rattle.thin_film_solver.specs.Solve.{b_of, c_of, reflection, transmission, reflectance, transmittance, solve}
use borrow.Author.Rules.{rules}
use Rattle.thin_film_solver.proofs.solve.Goals as goal

module _ (m : Matrix) (eta0 eta : Complex) where
  amplitudes : (x b y c e n f d : Complex) → x ≡ mul (at m 0 1) eta → b ≡ add (at m 0 0) x → y ≡ mul (at m 1 1) eta → c ≡ add (at m 1 0) y
      → e ≡ mul eta0 b → n ≡ sub e c → f ≡ mul eta0 b → d ≡ add f c → (r : Complex) → r ≡ div n d → r ≡ reflection m eta0 eta
  unfolding b_of c_of reflection
  amplitudes x b y c e n f d p1 p2 p3 p4 p5 p6 p7 p8 r p9 = cc

  transmitted : (x b y c f d : Complex) → x ≡ mul (at m 0 1) eta → b ≡ add (at m 0 0) x → y ≡ mul (at m 1 1) eta → c ≡ add (at m 1 0) y
      → f ≡ mul eta0 b → d ≡ add f c → (g t : Complex) → g ≡ scale eta0 two → t ≡ div g d → t ≡ transmission m eta0 eta
  unfolding b_of c_of transmission
  transmitted x b y c f d p1 p2 p3 p4 p5 p6 g t p7 p8 = cc

  parts : (r t : Complex) → r ≡ reflection m eta0 eta → t ≡ transmission m eta0 eta → (q R q' S ph : Float) → q ≡ norm_sq r → R ≡ clamp q zero_f one
      → q' ≡ norm_sq t → S ≡ clamp (eta.re ⊘ eta0.re ⊗ q') zero_f one → ph ≡ arg r
      → ◌≡◌ {A = Polarized} (record { r = r; t = t; reflectance = R; transmittance = S; phase = ph }) (solve m eta0 eta)
  unfolding solve reflectance transmittance
  parts r t e f q R q' S ph p1 p2 p3 p4 p5 = simp (p5, p4, p3, p2, p1, e, f)

pub returns : goal.returns
returns c =
    parts _ _ _ _ _
    (amplitudes _ _ _ _ _ _ _ _ _ _ _ c.mul.ensures c.add-b.ensures c.mul-2.ensures c.add-c.ensures c.mul-3.ensures c.sub-num.ensures c.mul-4.ensures c.add-den.ensures _ c.div-r.ensures)
    (transmitted _ _ _ _ _ _ _ _ _ c.mul.ensures c.add-b.ensures c.mul-2.ensures c.add-c.ensures c.mul-4.ensures c.add-den.ensures _ _ c.scale.ensures c.div-t.ensures)
    _ _ _ _ _ c.norm_sq.ensures c.clamp.ensures c.norm_sq-2.ensures c.clamp-2.ensures c.arg.ensures
