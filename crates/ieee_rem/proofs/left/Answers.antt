-- `ieee_rem::left` meets its contract. The loop's invariant: r is m·2 ^ (d - k) % n. Assumes nothing.
use Prim.Native.Nat.{◌*◌}
use native.Mathlib.Nat.{mod-lt}
use native.Mathlib.Omega.{arith}
use Rattle.ieee_rem.proofs.Steps.{eleven, ended}
use Rattle.ieee_rem.proofs.left.Goals as goal

pub loop-k-preserved : goal.loop-k-preserved
loop-k-preserved c = (
  mod-lt (c.loop-k.r * 2048) c.requires.0,
  omega arith,
  eleven c.args.m c.args.n c.args.d c.loop-k.r c.loop-k.k c.loop-k.invariant.1 c.loop-k-test.true c.loop-k.invariant.2,
)

pub returns : goal.returns
returns c =
    ended c.args.m c.args.n c.args.d c.loop-k.r c.loop-k.k
    c.loop-k.invariant.1 c.loop-k.invariant.0 c.requires.1 c.loop-k-test.false c.loop-k.invariant.2
