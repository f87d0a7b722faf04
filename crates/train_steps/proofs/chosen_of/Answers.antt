-- `train_steps::chosen_of` meets its contract. Assumes nothing.
use mathlib.Core.Path.{◌≡◌, sym, ap, ◌∙◌}
use mathlib.Core.Bool.{Bool}
use lib.Ieee.{Float, nan}
use Rattle.ieee.proofs.Patterns.{nan_is}
use Rattle.refusal.specs.declared.Refusal.{Refusal}
use Rattle.surface.specs.declared.Powers.{Powers}
use Rattle.train_steps.specs.declared.Chosen.{Chosen}
use Rattle.train_steps.specs.Train.{chosen, chosen_of}
use Rattle.train_steps.proofs.chosen_of.Goals as goal
use Rattle.refusal.specs.Outcome.{outcome}
use Rattle.std.specs.Prelude.{Ok, Err, Result}

module _ (reflected : Bool) (reply : Result Powers Refusal) where
  picked : (r : Powers) (q : Chosen) → q ≡ chosen reflected r → reply ≡ Ok r → q ≡ chosen_of reflected (outcome reply)
  picked r q e g = e ∙ sym (ap (λ (z : Result Powers Refusal). chosen_of reflected (outcome z)) g)

  unanswered : (r : Refusal) (x : Float) → x ≡ nan → reply ≡ Err r → record { s = x; p = x } ≡ chosen_of reflected (outcome reply)
  unanswered r x e g = rw e (sym (ap (λ (z : Result Powers Refusal). chosen_of reflected (outcome z)) g))

pub returns-in-Ok : goal.returns-in-Ok
returns-in-Ok c = picked _ _ _ _ c.choose.ensures c.in-Ok.is

pub returns-in-Err : goal.returns-in-Err
returns-in-Err c = unanswered _ _ _ _ nan_is c.in-Err.is
