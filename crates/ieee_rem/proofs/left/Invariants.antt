-- `ieee_rem::left` meets its contract. The loop's invariant: r is m·2 ^ (d - k) % n. Assumes nothing.
use mathlib.Core.Path.{◌≡◌}
use Prim.Native.Nat.{◌-◌, ◌*◌, ◌%◌, ◌^◌, ◌≤◌, ◌<◌}
use Rattle.ieee_rem.proofs.left.Given as goal

abbrev pub invariant-loop-k : goal.invariant-loop-k
invariant-loop-k l = (l.r < l.n) × (l.k ≤ l.d) × (l.r ≡ l.m * 2 ^ (l.d - l.k) % l.n)

abbrev pub decreases-loop-k : goal.decreases-loop-k
decreases-loop-k l = l.k
