-- `sheet::place_after` meets its contract. Assumes nothing.
use mathlib.Core.Path.{◌≡◌, ap, ◌∙◌, sym}
use Prim.Native.Nat.{ℕ, suc, ◌+◌, ◌*◌, ◌≤◌}
use native.Mathlib.Omega.{arith}
use Rattle.sheet.specs.Read.{floats_after}
use Rattle.sheet.specs.Internal.{place_after}
use Rattle.sheet.proofs.Standings.{floats_few}
use Rattle.sheet.proofs.place_after.Goals as goal

few : (k n : ℕ) → n ≡ floats_after k → n ≤ 4
few k n e = omega (arith, floats_few k)

module _ (at k : ℕ) where
  on : (n : ℕ) → n ≡ floats_after k → at + 2 * n + 1 ≡ place_after at k
  on n h = rw (← h) (one at (2 * n))
    where
      one : (a b : ℕ) → a + b + 1 ≡ a + suc b
      one a b = omega arith

  layer : k ≡ 4 → at + 7 ≡ place_after at k
  unfolding floats_after
  layer q = seven at ∙ on 3 (sym (ap floats_after q))
    where
      seven : (a : ℕ) → a + 7 ≡ a + 2 * 3 + 1
      seven a = omega arith

pub returns-then-kind-eq4 : goal.returns-then-kind-eq4
returns-then-kind-eq4 c = layer _ _ c.if-kind-eq4.true

pub returns : goal.returns
returns c = on _ _ _ c.floats_after.ensures

pub overflow_mul-result : goal.overflow_mul-result
overflow_mul-result c = record { fits = omega (arith, few _ _ c.floats_after.ensures) }

pub overflow_add-result-2 : goal.overflow_add-result-2
overflow_add-result-2 c = omega (arith, few _ _ c.floats_after.ensures, c.requires)

pub overflow_add-result-3 : goal.overflow_add-result-3
overflow_add-result-3 c = omega (arith, few _ _ c.floats_after.ensures, c.requires)
