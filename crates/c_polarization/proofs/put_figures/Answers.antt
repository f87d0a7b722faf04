-- `c_polarization::put_figures` meets its contract. Assumes nothing.
use mathlib.Core.Path.{◌∙◌}
use borrow.Author.Rules.{rules}
use Rattle.c_polarization.proofs.put_figures.Goals as goal

pub returns : goal.returns
returns c = c.put.ensures ∙ simp (c.ellipticity_angle_rad-ellipticity.ensures, c.orientation_angle_rad-orientation.ensures, c.degree_of_circular_polarization-circular.ensures, c.degree_of_linear_polarization-linear.ensures, c.degree_of_polarization-whole.ensures)
