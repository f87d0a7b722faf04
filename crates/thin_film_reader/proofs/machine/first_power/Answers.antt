-- `thin_film_reader::machine::first_power` meets its contract. Assumes nothing.
use Rattle.thin_film_reader.proofs.Steps as Steps
use native.Mathlib.Omega.{arith}
use Rattle.thin_film_reader.proofs.machine.first_power.Goals as goal

pub returns-then-a-eq0 : goal.returns-then-a-eq0
returns-then-a-eq0 c = Steps.no_power c.args.m _ c.requires.1 _ (omega arith) c.stopped.ensures

pub returns : goal.returns
returns c = Steps.power _ _ c.requires.1 (omega arith) c.requires.0
