-- `thin_film_solver::cos_theta_sub` meets its contract. Assumes nothing.
use mathlib.Core.Path.{◌≡◌}
use mathlib.Core.Bool.{true, false}
use lib.Ieee.{Float, binary64, neg, le}
use Rattle.ieee.specs.Operators.{◌⊖◌, ◌⊗◌}
use Rattle.ieee.specs.Functions.{zero_f, one, abs, max}
use Rattle.math_root.specs.Root.{square_root}
use Rattle.thin_film_complex.specs.declared.Complex.{Complex}
use Rattle.thin_film_complex.specs.Complex.{real}
use Rattle.thin_film_solver.specs.Solve.{cos_theta_sub}
use borrow.Author.Rules.{rules}
use Rattle.thin_film_solver.proofs.cos_theta_sub.Goals as goal

module _ (q a : Float) (a-is : a ≡ abs q) where
  within : le a one ≡ true → (m u : Float) → m ≡ max (one ⊖ q ⊗ q) zero_f → u ≡ square_root binary64 m → (z : Complex) → z ≡ real u → z ≡ cos_theta_sub q
  unfolding cos_theta_sub
  within t m u p1 p2 z p3 = let h : le (abs q) one ≡ true = (rw a-is at t) in simp (h, p3, p2, p1)

  beyond : le a one ≡ false → (u : Float) → u ≡ square_root binary64 (q ⊗ q ⊖ one) → (z : Complex) → z ≡ record { re = zero_f; im = neg u } → z ≡ cos_theta_sub q
  unfolding cos_theta_sub
  beyond t u p1 z p2 = let h : le (abs q) one ≡ false = (rw a-is at t) in simp (h, p2, p1)

pub returns-then-abs : goal.returns-then-abs
returns-then-abs c = within _ _ c.abs.ensures c.if-abs.true _ _ c.max.ensures c.sqrt.ensures _ c.real.ensures

pub returns-else-abs : goal.returns-else-abs
returns-else-abs c = beyond _ _ c.abs.ensures c.if-abs.false _ c.sqrt-else-abs.ensures _ c.new.ensures
