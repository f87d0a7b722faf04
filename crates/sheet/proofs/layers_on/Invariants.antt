-- `sheet::layers_on` meets its contract. The loop's invariant: the layers passed, with the run of layers from here on, are the whole run. Assumes nothing.
use mathlib.Core.Path.{◌≡◌}
use mathlib.Core.List.{List}
use Prim.Native.Nat.{ℕ, suc, ◌+◌, ◌-◌}
use Rattle.sheet.specs.Internal.{place_on, layer_run}
use Rattle.sheet.proofs.layers_on.Given as goal

-- after n layers
pub record Passed (src : List ℕ) (at n place : ℕ) : Type 0 where
  pub there : place ≡ place_on src at (suc n)
  pub run : n + layer_run (16 - n) src (place_on src at n) ≡ layer_run 16 src at

abbrev pub invariant-loop-n : goal.invariant-loop-n
invariant-loop-n l = Passed l.src l.at l.n l.place
