-- `sheet_index::index` meets its contract. Assumes nothing.
use mathlib.Core.Path.{◌≡◌}
use Prim.Native.Nat.{ℕ, ◌+◌, ◌-◌, ◌≤◌, ◌<◌}
use native.Mathlib.Omega.{arith}
use Rattle.math_waves.specs.Waves.{at_most_16}
use Rattle.sheet_index.specs.Index.{at_most_64}
use Rattle.sheet_index.proofs.Filled.{filled_none, filled_on}
use Rattle.sheet_index.proofs.index.Goals as goal

some_of : (n t i c : ℕ) → t ≡ at_most_64 c → i < t → n ≡ at_most_16 (t - i) → ((n ≤ 16) × (i + n ≤ 64)) × ((0 < n) × (i + n ≤ t))
some_of n t i c e lt q = ((omega arith, omega arith), (omega arith, omega arith))

pub loop-i-init : goal.loop-i-init
loop-i-init c = record { most = omega arith; stands = c.begin_of-first.ensures; begun = filled_none _ _; counted = filled_none _ _; sine = filled_none _ _; cosine = filled_none _ _ }

pub loop-i-preserved : goal.loop-i-preserved
loop-i-preserved c =
    let h = c.loop-i.invariant in
    let s = some_of _ _ _ _ c.at_most_64-total.ensures c.loop-i-test.true c.at_most_16-n.ensures in
    let e = c.some-first.ensures in
    record {
      most = s.1.1;
      stands = e.0.0;
      begun = filled_on _ _ _ _ _ _ e.0.1 h.begun;
      counted = filled_on _ _ _ _ _ _ e.1.0 h.counted;
      sine = filled_on _ _ _ _ _ _ e.1.1.0 h.sine;
      cosine = filled_on _ _ _ _ _ _ e.1.1.1 h.cosine;
    }
