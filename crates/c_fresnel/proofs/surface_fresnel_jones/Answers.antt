-- `c_fresnel::surface_fresnel_jones` meets its contract. Assumes nothing.
use mathlib.Core.Path.{sym, ap, ◌∙◌}
use Rattle.refusal.specs.Outcome.{outcome}
use Rattle.c_call.proofs.Returned.{sound_apart, refuses, answers}
use Rattle.c_fresnel.specs.Fresnel.{matrices}
use Rattle.c_fresnel.proofs.Surface.{surface_sound}
use Rattle.c_fresnel.proofs.surface_fresnel_jones.Goals as goal

pub returns-in-Ok : goal.returns-in-Ok
returns-in-Ok c = answers matrices _ _ _ _ (sym (ap outcome c.in-Ok.is) ∙ c.surface_fresnel_jones.ensures) c.put_two_jones.ensures

pub returns-in-Err : goal.returns-in-Err
returns-in-Err c = refuses matrices _ _ _ _ (sym (ap outcome c.in-Err.is) ∙ c.surface_fresnel_jones.ensures) (sound_apart _ (surface_sound _ _ _)) c.packed.ensures
