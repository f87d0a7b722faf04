-- `gate::limits` meets its contract. Assumes nothing.
use Rattle.refusal.specs.Outcome.{map}
use Rattle.sheet.specs.Read.{decode, graded, surfaces_of}
use Rattle.gate.specs.Gate.{within_limits}
use Rattle.gate.proofs.Surfaces.{Reached}
use Rattle.gate.proofs.limits.Given as goal

abbrev pub invariant-loop-i : goal.invariant-loop-i
invariant-loop-i l = Reached l.src l.n l.i l.wavelength_nm (map surfaces_of (within_limits (graded (decode l.src))))
