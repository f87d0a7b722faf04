-- `dihkelu::dihkelu_answers_at` meets its contract. Assumes nothing.
use mathlib.Core.Path.{sym, ap, ◌∙◌, subst}
use Rattle.refusal.specs.Outcome.{Outcome}
use Rattle.sheet.proofs.Stands.{bytes_from}
use Rattle.surface.specs.declared.Answers.{Answers}
use Rattle.c_call.specs.Call.{Apart, answered}
use Rattle.c_call.specs.Layout.{surface_answered}
use Rattle.c_call.proofs.Returned.{sound_apart}
use Rattle.dihkelu.proofs.Answered.{answers_at_sound}
use Rattle.dihkelu.proofs.dihkelu_answers_at.Goals as goal

pub put_surface-requires : goal.put_surface-requires
put_surface-requires c = subst Apart (sym c.answers_at.ensures) (sound_apart _ (answers_at_sound _ (bytes_from _ c.type_inv.sheet) _ _))

pub returns : goal.returns
returns c = c.put_surface.ensures ∙ ap (λ (o : Outcome Answers). answered surface_answered o c.args.list.now) c.answers_at.ensures
