-- `c_layers::at_most_16` meets its contract. Assumes nothing.
use native.Mathlib.Omega.{arith}
use Rattle.c_layers.proofs.at_most_16.Goals as goal

pub returns-then-left-lt16 : goal.returns-then-left-lt16
returns-then-left-lt16 c = (omega (arith, c.if-left-lt16.true), omega arith, λ h. h)

pub returns-else-left-lt16 : goal.returns-else-left-lt16
returns-else-left-lt16 c = (omega arith, omega (arith, c.if-left-lt16.false), λ h. omega arith)
