-- `sheet::has_ended` meets its contract. Assumes nothing.
use borrow.Author.Rules.{rules}
use Rattle.sheet.specs.Read.{may_end}
use Rattle.sheet.proofs.has_ended.Goals as goal

pub returns-in-AtOpen : goal.returns-in-AtOpen
unfolding may_end
returns-in-AtOpen c = search rules

pub returns-in-AtBeam : goal.returns-in-AtBeam
unfolding may_end
returns-in-AtBeam c = search rules

pub returns-in-Among : goal.returns-in-Among
unfolding may_end
returns-in-Among c = search rules

pub returns-in-AtSurface : goal.returns-in-AtSurface
unfolding may_end
returns-in-AtSurface c = search rules

pub returns-in-Ended : goal.returns-in-Ended
unfolding may_end
returns-in-Ended c = search rules
