-- `sheet_answers::powers_with_angle` meets its contract. Assumes nothing.
use mathlib.Core.Path.{◌≡◌, sym, ap, ◌∙◌}
use mathlib.Core.List.{List}
use Prim.Native.Nat.{ℕ}
use lib.Ieee.{Float}
use Rattle.math_trig.specs.declared.SinCos.{SinCos}
use Rattle.math_trig.specs.Trig.{cos, sin_cos}
use Rattle.refusal.specs.Outcome.{answer, map}
use Rattle.thin_film_solver.specs.declared.ThinFilmLayer.{ThinFilmLayer}
use Rattle.thin_film_coating.specs.declared.Coating.TheVariants.{Multilayer}
use Rattle.thin_film.specs.declared.SurfaceCoating.TheVariants.{Custom}
use Rattle.thin_film.specs.Evaluate.{evaluate_surface}
use Rattle.gate_limits.specs.declared.Surface.{Surface}
use Rattle.gate_limits.specs.Coating.{coded, interface}
use Rattle.surface.specs.declared.Powers.{Powers}
use Rattle.surface.specs.Answers.{bare_powers, coated_powers, powers_of, powers}
use Rattle.sheet_answers.proofs.powers_with_angle.Goals as goal

module _ (w : Float) (layers : List ThinFilmLayer) (s : Surface) where
  bare : s.coating ≡ 0 → (t : SinCos) → t ≡ sin_cos s.angle_rad → (r : Powers) → (t.cos ≡ cos s.angle_rad → r ≡ bare_powers s) → answer r ≡ powers w s layers
  unfolding powers_of interface coded
  bare e t t_is r f = ap answer (f (ap (λ (z : SinCos). z.cos) t_is)) ∙ ap (λ (k : ℕ). powers_of (interface k) w s layers) (sym e)

  custom : s.coating ≡ 5 → map coated_powers (evaluate_surface (Custom Multilayer) layers s.n_incident s.n_substrate s.angle_rad w) ≡ powers w s layers
  unfolding powers_of interface coded
  custom e = ap (λ (k : ℕ). powers_of (interface k) w s layers) (sym e)

pub returns-then-surface-eq0 : goal.returns-then-surface-eq0
returns-then-surface-eq0 c = λ e. bare _ _ _ c.if-surface-eq0.true _ e _ c.bare_powers_with.ensures

pub returns-then-surface-eq5 : goal.returns-then-surface-eq5
returns-then-surface-eq5 c = λ e. c.custom_powers.ensures e ∙ custom _ _ _ c.if-surface-eq5.true

pub returns : goal.returns
returns c = λ e. c.powers_at.ensures
