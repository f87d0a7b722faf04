-- `polarization_mueller::JonesMatrix::quarter_wave_plate` meets its contract. Assumes nothing.
use Rattle.polarization_mueller.specs.Jones.{quarter_wave_plate}
use borrow.Author.Rules.{rules}
use Rattle.polarization_mueller.proofs.JonesMatrix.quarter_wave_plate.Goals as goal

pub returns : goal.returns
unfolding quarter_wave_plate
returns c = simp c.retarder.ensures
