-- `surface_real::cos_theta_sub` meets its contract. Assumes nothing.
use mathlib.Core.Path.{◌≡◌}
use mathlib.Core.Bool.{true, false}
use lib.Ieee.{Float, binary64, le}
use Rattle.ieee.specs.Operators.{◌⊖◌, ◌⊗◌}
use Rattle.ieee.specs.Functions.{zero_f, one, abs, max}
use Rattle.math_root.specs.Root.{square_root}
use Rattle.surface_real.specs.Internal.{no_number, cos_theta_sub}
use borrow.Author.Rules.{rules}
use Rattle.surface_real.proofs.cos_theta_sub.Goals as goal

module _ (q a : Float) (a-is : a ≡ abs q) where
  within : le a one ≡ true → (m u : Float) → m ≡ max (one ⊖ q ⊗ q) zero_f → u ≡ square_root binary64 m → u ≡ cos_theta_sub q
  unfolding cos_theta_sub
  within t m u p1 p2 = let h : le (abs q) one ≡ true = (rw a-is at t) in simp (h, p2, p1)

  beyond : le a one ≡ false → no_number ≡ cos_theta_sub q
  unfolding cos_theta_sub
  beyond t = let h : le (abs q) one ≡ false = (rw a-is at t) in simp h

pub returns-then-abs : goal.returns-then-abs
returns-then-abs c = within _ _ c.abs.ensures c.if-abs.true _ _ c.max.ensures c.sqrt.ensures

pub returns-else-abs : goal.returns-else-abs
returns-else-abs c = beyond _ _ c.abs.ensures c.if-abs.false
