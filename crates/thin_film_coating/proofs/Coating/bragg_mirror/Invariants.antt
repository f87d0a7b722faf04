-- `thin_film_coating::Coating::bragg_mirror` meets its contract. Assumes nothing.
use mathlib.Core.Path.{◌≡◌}
use lib.Seq.{paste}
use Rattle.thin_film_presets.specs.Layers.{bragg_layers}
use Rattle.thin_film_coating.proofs.Coating.bragg_mirror.Given as goal

abbrev pub invariant-loop-i : goal.invariant-loop-i
invariant-loop-i l = l.items ≡ paste l.initial.items 0 (bragg_layers l.n_high l.n_low l.pairs l.design_wavelength_nm) l.i
