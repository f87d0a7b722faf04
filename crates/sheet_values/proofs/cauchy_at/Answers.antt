-- `sheet_values::cauchy_at` meets its contract. Assumes nothing.
use Rattle.sheet_values.proofs.Past.{cauchy_past}
use Rattle.sheet_values.proofs.cauchy_at.Goals as goal

pub returns : goal.returns
returns c = cauchy_past _ _ c.if-at-src.false
