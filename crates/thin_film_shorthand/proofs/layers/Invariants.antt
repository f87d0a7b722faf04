-- `thin_film_shorthand::layers` meets its contract. Assumes nothing.
use mathlib.Core.Path.{◌≡◌}
use mathlib.Core.List.{map}
use lib.ListN.{take}
use lib.Seq.{paste}
use Rattle.thin_film_shorthand.specs.Stack.{layer}
use Rattle.thin_film_shorthand.proofs.layers.Given as goal

abbrev pub invariant-loop-i : goal.invariant-loop-i
invariant-loop-i l = l.items ≡ paste l.initial.items 0 (map (layer l.n_h l.n_l l.n_m l.design_wavelength_nm) (take l.count l.films)) l.i
