-- `c_layers::promising` is safe and ends. Assumes nothing.
use Prim.Native.Nat.{ℕ, ◌/◌}
use native.Mathlib.Omega.{arith}
use lib.ListN.{length}
use Rattle.c_layers.proofs.promising.Goals as goal

pub layer_at-layer-requires : goal.layer_at-layer-requires
layer_at-layer-requires c = let n : ℕ = length c.args.flat.now / 3 in omega (arith, c.loop-i-test.true)
