-- `thin_film_solver::finish` meets its contract. Assumes nothing.
use mathlib.Core.Path.{◌≡◌}
use lib.Ieee.{Float}
use Rattle.ieee.specs.Operators.{◌⊗◌, ◌⊘◌}
use Rattle.ieee.specs.Functions.{max}
use Rattle.thin_film_complex.specs.declared.Complex.{Complex}
use Rattle.thin_film_complex.specs.Complex.{real, mul, div}
use Rattle.thin_film_solver.specs.declared.Incidence.{Incidence}
use Rattle.thin_film_solver.specs.declared.Polarized.{Polarized}
use Rattle.thin_film_solver.specs.declared.CoatingResponse.{CoatingResponse}
use Rattle.thin_film_matrix.specs.Matrix.{Matrix}
use Rattle.thin_film_solver.specs.Solve.{cos_theta_sub, least_cos, eta0_s, eta0_p, eta_sub_s, eta_sub_p, solve, respond}
use Rattle.thin_film_solver.specs.Internal.{finish}
use borrow.Author.Rules.{rules}
use Rattle.thin_film_solver.proofs.finish.Goals as goal

parts : (k : Incidence) (ms mp : Matrix) (z n e f : Complex) (m : Float) → z ≡ cos_theta_sub (k.snell ⊘ k.n_substrate) → n ≡ real k.n_substrate → e ≡ real (k.n_incident ⊗ k.cos_theta0)
    → m ≡ max k.cos_theta0 least_cos → f ≡ real (k.n_incident ⊘ m) → (x y : Complex) (s p : Polarized) (r : CoatingResponse) → x ≡ mul n z → s ≡ solve ms e x → y ≡ div n z → p ≡ solve mp f y → r ≡ respond s p
    → r ≡ finish k ms mp
unfolding finish eta0_s eta0_p eta_sub_s eta_sub_p
parts k ms mp z n e f m h1 h2 h3 h4 h5 x y s p r h6 h7 h8 h9 h10 = simp (h10, h9, h8, h7, h6, h5, h4, h3, h2, h1)

pub returns : goal.returns
returns c = parts _ _ _ _ _ _ _ _ c.cos_theta_sub-cos.ensures c.real-n_sub.ensures c.real-eta0_s.ensures c.max.ensures c.real-eta0_p.ensures _ _ _ _ _ c.mul.ensures c.solve-s.ensures c.div.ensures c.solve-p.ensures c.respond.ensures
