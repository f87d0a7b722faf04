-- `c_stack::place` meets its contract. Assumes nothing.
use mathlib.Core.List.{map}
use Rattle.thin_film_shorthand.specs.Stack.{layer}
use Rattle.c_stack.proofs.Flat.{Half}
use Rattle.c_stack.proofs.place.Given as goal

abbrev pub invariant-loop-i : goal.invariant-loop-i
invariant-loop-i l = Half (map (layer l.n_h l.n_l l.n_m l.design_wavelength_nm) l.films) l.count l.initial.list l.list l.i
