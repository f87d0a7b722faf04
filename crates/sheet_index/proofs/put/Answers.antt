-- `sheet_index::put` meets its contract. Assumes nothing.
use mathlib.Core.Path.{◌≡◌, ap}
use mathlib.Core.List.{List}
use Prim.Native.Nat.{ℕ, ◌+◌, ◌-◌}
use native.Mathlib.Omega.{arith}
use lib.ListN.{get_or, set}
use lib.Ieee.{Float, nan}
use Rattle.sheet_index.specs.Internal.{stored}
use Rattle.sheet_index.proofs.Filled.{stored_none, stored_more}
use Rattle.sheet_index.proofs.put.Invariants.{from}
use Rattle.sheet_index.proofs.put.Goals as goal

one : (from₀ l l₀ : List Float) (i k : ℕ) → l ≡ stored (from from₀ i) i k l₀ → set l (i + k) (get_or from₀ k nan) ≡ stored (from from₀ i) i (k + 1) l₀
one from₀ l l₀ i k h = stored_more (from from₀ i) l l₀ i k (get_or from₀ k nan) h (ap (λ (j : ℕ). get_or from₀ j nan) (up i k))
  where
    up : (i k : ℕ) → k ≡ i + k - i
    up i k = omega arith

pub loop-k-init : goal.loop-k-init
loop-k-init c = (stored_none _ _ _, stored_none _ _ _)

pub loop-k-preserved : goal.loop-k-preserved
loop-k-preserved c =
    let h = c.loop-k.invariant in
    let a = c.args in
    (one a.sin.now _ a.sines.now _ _ h.0, one a.cos.now _ a.cosines.now _ _ h.1)
