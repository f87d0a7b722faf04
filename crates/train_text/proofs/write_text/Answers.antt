-- `train_text::write_text` meets its contract. Assumes nothing.
use mathlib.Core.Path.{refl, ap}
use Rattle.train_text.proofs.Pieces.{same_bytes}
use Rattle.train_text.proofs.Whole.{had_room, ran_text, refused_text}
use Rattle.train_text.proofs.write_text.Goals as goal
use Rattle.refusal.specs.Outcome.{outcome}

pub admitted-requires : goal.admitted-requires
admitted-requires c = (had_room _ _ refl _ _ c.run.ensures _ (ap outcome c.in-Ok.is), c.requires)

pub returns-in-Ok : goal.returns-in-Ok
returns-in-Ok c = (ran_text _ _ refl _ _ c.run.ensures _ (ap outcome c.in-Ok.is) c.admitted.ensures.0, c.admitted.ensures.1)

pub returns-in-Err : goal.returns-in-Err
returns-in-Err c = (
  same_bytes (refused_text _ _ refl _ _ c.run.ensures _ _ (ap outcome c.in-Err.is)) (rw (c.number.ensures, c.place.ensures) at c.refused_line.ensures.0),
  c.refused_line.ensures.1,
)
