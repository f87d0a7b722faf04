-- `thin_film_reader::machine::space` meets its contract. Assumes nothing.
use Rattle.thin_film_reader.proofs.Steps as Steps
use Rattle.thin_film_reader.proofs.machine.space.Goals as goal

pub returns : goal.returns
returns c = Steps.spaces _ _ c.spaced.ensures c.requires
