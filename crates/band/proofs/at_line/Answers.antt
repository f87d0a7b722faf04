-- `band::at_line` meets its contract. Assumes nothing.
use mathlib.Core.Path.{sym, subst}
use lib.Dec.{T}
use lib.Ieee.{binary64, fits}
use Rattle.train_steps.specs.declared.State.{State}
use Rattle.band.specs.Band.{at_line}
use Rattle.band.specs.Internal.{Line}
use Rattle.band.proofs.Line.{ran}
use Rattle.band.proofs.at_line.Goals as goal

pub returns : goal.returns
returns c x g l h =
    subst (λ (z : State). Line z (at_line x c.args.wavelength_nm)) (sym c.run_at.ensures) (ran _ c.type_inv.src _ _ ((let it : T (fits binary64 c.args.wavelength_nm) = subst T (sym c.well_formed.1.1.0.1) tt in it)) x g l h)
