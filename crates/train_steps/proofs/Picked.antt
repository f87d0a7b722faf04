-- The chosen powers of the SURFACE at a place, from its powers. Assumes nothing.
use mathlib.Core.Path.{◌≡◌, ap, ◌∙◌}
use mathlib.Core.List.{List, []}
use Prim.Native.Nat.{ℕ}
use lib.Ieee.{Float}
use Rattle.refusal.specs.Outcome.{Outcome}
use Rattle.gate_limits.specs.declared.Surface.{Surface}
use Rattle.surface.specs.declared.Powers.{Powers}
use Rattle.surface.specs.Answers.{powers}
use Rattle.sheet.specs.Internal.{next_place, surface_at, layers_at}
use Rattle.sheet_values.specs.Values.{films, surface_value}
use Rattle.train_steps.specs.declared.Chosen as Declared
use Rattle.train_steps.specs.Train.{chosen_of}
use Rattle.train_steps.specs.Internal.{chosen_alone, chosen_at}

pub chosen_is : (src : List ℕ) (at n : ℕ) (w : Float) (s : Surface) → s ≡ surface_value (surface_at src at []) → (o : Outcome Powers) → o ≡ powers w s (films w (layers_at src (next_place src at) n))
    → (r : Declared.Chosen) → r ≡ chosen_of s.reflected o → r ≡ chosen_at src at n w
unfolding chosen_at chosen_alone
chosen_is src at n w s s_is o h r e = e ∙ ap (chosen_of s.reflected) h ∙ ap (λ (z : Surface). chosen_alone w z (films w (layers_at src (next_place src at) n))) s_is
