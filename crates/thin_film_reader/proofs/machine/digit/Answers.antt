-- `thin_film_reader::machine::digit` meets its contract. Assumes nothing.
use mathlib.Core.Path.{refl}
use Rattle.thin_film_reader.proofs.Steps as Steps
use Rattle.thin_film_reader.specs.declared.machine.Phase.TheVariants as P
use Rattle.thin_film_reader.proofs.machine.digit.Goals as goal

pub second_digit-requires : goal.second_digit-requires
second_digit-requires c = (c.requires.0, Steps.low_at _ P.Number1 c.in-Number1.is c.requires.0, c.requires.1)

pub second_power-requires : goal.second_power-requires
second_power-requires c = (c.requires.0, Steps.low_at _ P.Power1 c.in-Power1.is c.requires.0, c.requires.1)

pub returns-in-Stop : goal.returns-in-Stop
returns-in-Stop c = Steps.halts _ P.Stop _ _ c.in-Stop.is refl c.stopped.ensures

pub returns-in-Ready : goal.returns-in-Ready
returns-in-Ready c = Steps.by_phase _ P.Ready _ _ c.in-Ready.is c.first_digit.ensures

pub returns-in-Atom : goal.returns-in-Atom
returns-in-Atom c = Steps.by_phase _ P.Atom _ _ c.in-Atom.is (Steps.as_ready c.args.m _ _ c.first_digit-in-Atom.ensures)

pub returns-in-Number1 : goal.returns-in-Number1
returns-in-Number1 c = Steps.by_phase _ P.Number1 _ _ c.in-Number1.is c.second_digit.ensures

pub returns-in-Number2 : goal.returns-in-Number2
returns-in-Number2 c = Steps.halts _ P.Number2 _ _ c.in-Number2.is refl c.stopped-in-Number2.ensures

pub returns-in-Gap : goal.returns-in-Gap
returns-in-Gap c = Steps.halts _ P.Gap _ _ c.in-Gap.is refl c.stopped-in-Gap.ensures

pub returns-in-Caret : goal.returns-in-Caret
returns-in-Caret c = Steps.by_phase _ P.Caret _ _ c.in-Caret.is c.first_power.ensures

pub returns-in-Power1 : goal.returns-in-Power1
returns-in-Power1 c = Steps.by_phase _ P.Power1 _ _ c.in-Power1.is c.second_power.ensures

pub returns-in-Power2 : goal.returns-in-Power2
returns-in-Power2 c = Steps.halts _ P.Power2 _ _ c.in-Power2.is refl c.stopped-in-Power2.ensures
