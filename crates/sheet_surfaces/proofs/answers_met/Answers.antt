-- `sheet_surfaces::answers_met` meets its contract. Assumes nothing.
use mathlib.Core.Path.{◌≡◌, ◌∙◌}
use mathlib.Core.List.{List, []}
use Prim.Native.Nat.{ℕ}
use lib.Ieee.{Float}
use Rattle.refusal.specs.Outcome.{Outcome}
use Rattle.gate_limits.specs.declared.Surface.{Surface}
use Rattle.surface.specs.declared.Answers.{Answers}
use Rattle.surface.specs.Answers.{answers}
use Rattle.sheet.specs.Internal.{next_place, layer_run, surface_at, layers_at}
use Rattle.sheet_values.specs.Values.{films, surface_value}
use Rattle.sheet_surfaces.specs.Internal.{answers_met}
use Rattle.sheet_surfaces.proofs.answers_met.Goals as goal

whole : (src : List ℕ) (at : ℕ) (w : Float) (m : ℕ) → m ≡ layer_run 16 src at → (s : Surface) → s ≡ surface_value (surface_at src at []) → (reply : Outcome Answers) → reply ≡ answers w s (films w (layers_at src (next_place src at) m)) → reply ≡ answers_met src at w
unfolding answers_met
whole src at w m em s es reply er = er ∙ (λ k. answers w (es k) (films w (layers_at src (next_place src at) (em k))))

pub returns : goal.returns
returns c = whole _ _ _ _ c.layer_run-n.ensures _ c.surface_at-surface.ensures _ c.answers_at.ensures
