-- `train_steps::chosen_with` meets its contract. Assumes nothing.
use mathlib.Core.Path.{sym, ap, ◌∙◌}
use Rattle.gate_limits.specs.declared.Surface.{Surface}
use Rattle.math_trig.specs.Trig.{sin_cos}
use Rattle.train_steps.proofs.Picked.{chosen_is}
use Rattle.train_steps.proofs.chosen_with.Goals as goal

pub returns : goal.returns
returns c =
    let s_is = c.surface_at-surface.ensures in
    chosen_is _ _ _ _ _ s_is _ (c.powers_with_angle-reply.ensures (c.requires ∙ ap (λ (z : Surface). sin_cos z.angle_rad) (sym s_is))) _ c.chosen_of.ensures
