-- `ieee_rem::pack` meets its contract. The loop's invariant: the pattern of m and k is that of r and j. Assumes nothing.
use mathlib.Core.Path.{◌≡◌}
use Prim.Native.Nat.{◌^◌, ◌<◌}
use Rattle.ieee_rem.specs.Internal.{pack}
use Rattle.ieee_rem.proofs.pack.Given as goal

abbrev pub invariant-loop-k : goal.invariant-loop-k
invariant-loop-k l = (l.m < 2 ^ 53) × (pack l.m l.k ≡ pack l.r l.j)
