-- `gate_limits::judge_with` meets its contract. Assumes nothing.
use mathlib.Core.Path.{◌≡◌}
use mathlib.Core.Bool.{Bool}
use lib.Ieee.{Float}
use Rattle.ieee.specs.Operators.{◌⊗◌}
use Rattle.ieee.specs.Functions.{abs}
use Rattle.math_trig.specs.declared.SinCos.{SinCos}
use Rattle.math_trig.specs.Trig.{sin_cos}
use Rattle.gate_limits.specs.declared.Surface.{Surface}
use Rattle.gate_limits.specs.declared.Judgement.{Judgement}
use Rattle.gate_limits.specs.Limits.{angle_passes, surface_within, surface_passes, judgement}
use borrow.Author.Rules.{rules}
use Rattle.gate_limits.proofs.judge_with.Goals as goal

-- the judgement of the one sine and cosine
judges : (s : Surface) (t : SinCos) (a : Float) (p : Bool) → t ≡ sin_cos s.angle_rad → a ≡ abs t.sin → p ≡ surface_within (s.n_incident ⊗ a) t.cos s → ◌≡◌ {A = Judgement} (record { passes = p; snell = s.n_incident ⊗ a }) (judgement s)
unfolding surface_passes angle_passes
judges s t a p e f g = rw (g, f, e)

pub returns : goal.returns
returns c = λ e. judges _ _ _ _ e c.abs.ensures c.surface_within.ensures
