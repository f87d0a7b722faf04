-- `c_scan::place` meets its contract. Assumes nothing.
use Rattle.c_layers.specs.Evaluate.{evaluate}
use Rattle.c_scan.proofs.Filled.{Filled}
use Rattle.c_scan.proofs.place.Given as goal

abbrev pub invariant-loop-i : goal.invariant-loop-i
invariant-loop-i l = Filled (λ angle wavelength. evaluate l.code l.design_wavelength_nm l.n_incident l.n_substrate angle wavelength l.layers) l.angles_rad l.wavelengths_nm l.initial.list l.list l.i
