-- `thin_film_reader::machine::second_power` meets its contract. Assumes nothing.
use Rattle.thin_film_reader.proofs.Steps as Steps
use native.Mathlib.Omega.{arith}
use Rattle.thin_film_reader.proofs.machine.second_power.Goals as goal

pub returns-then-power-gt31 : goal.returns-then-power-gt31
returns-then-power-gt31 c = Steps.too_high c.args.m _ c.requires.2 _ (omega arith) c.stopped.ensures

pub returns : goal.returns
returns c = Steps.second c.args.m _ c.requires.2 (omega arith) c.requires.0
