-- `c_scan::first_refused` meets its contract. Assumes nothing.
use mathlib.Core.List.{List}
use Rattle.thin_film_solver.specs.declared.CoatingResponse.{CoatingResponse}
use Rattle.c_layers.specs.Evaluate.{evaluate}
use Rattle.c_scan.proofs.Cases.{Half}
use Rattle.c_scan.proofs.first_refused.Given as goal

abbrev pub invariant-loop-i : goal.invariant-loop-i
invariant-loop-i l = (rs : List CoatingResponse) × Half (λ angle wavelength. evaluate l.code l.design_wavelength_nm l.n_incident l.n_substrate angle wavelength l.layers) l.angles_rad l.wavelengths_nm l.i rs
