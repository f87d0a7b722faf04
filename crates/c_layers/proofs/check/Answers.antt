-- `c_layers::check` meets its contract. Assumes nothing.
use mathlib.Core.Path.{ap, ◌∙◌}
use Rattle.thin_film.specs.Evaluate.{refusal_of}
use Rattle.c_layers.proofs.Triples.{count}
use Rattle.c_layers.proofs.Codes.{ragged, unknown, known}
use Rattle.c_layers.proofs.check.Goals as goal

pub returns-then-flat-ne0 : goal.returns-then-flat-ne0
returns-then-flat-ne0 c = ap refusal_of (ragged _ _ _ _ _ _ _ c.if-flat-ne0.true)

pub returns-in-Some : goal.returns-in-Some
returns-in-Some c = c.check_known.ensures _ (count _) ∙ ap refusal_of (known _ _ _ _ _ _ _ c.if-flat-ne0.false _ c.coating_of.ensures _ c.in-Some.is)

pub returns-in-None : goal.returns-in-None
returns-in-None c = ap refusal_of (unknown _ _ _ _ _ _ _ c.if-flat-ne0.false _ c.coating_of.ensures c.in-None.is)
