-- `c_presets::place` meets its contract. Assumes nothing.
use Prim.Native.Nat.{◌+◌, ◌*◌}
use Rattle.thin_film_presets.specs.Layers.{bragg_layers}
use Rattle.c_stack.proofs.Flat.{Half}
use Rattle.c_presets.proofs.place.Given as goal

abbrev pub invariant-loop-i : goal.invariant-loop-i
invariant-loop-i l = Half (bragg_layers l.n_high l.n_low l.pairs l.design_wavelength_nm) (l.pairs * 2 + 1) l.initial.list l.list l.i
