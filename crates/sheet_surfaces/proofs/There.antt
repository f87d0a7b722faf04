-- The answers of the i-th surface of an admitted sheet, from its bytes, at a wavelength within the limits. Assumes nothing.
use mathlib.Core.Path.{◌≡◌, refl, sym, ap, ◌∙◌}
use Prim.Native.Nat.{ℕ, ◌<◌}
use mathlib.Core.List.{List, []}
use lib.Ieee.{Float}
use Rattle.refusal.specs.Outcome.{Outcome, answer}
use Rattle.surface.specs.declared.Answers.{Answers}
use Rattle.surface.specs.Answers.{answers}
use Rattle.sheet.specs.Sheet.{SheetSurface, nth}
use Rattle.sheet.specs.Internal.{next_place, layer_run, surface_at, layers_at, place}
use Rattle.sheet.proofs.Stands.{Known}
use Rattle.sheet_values.specs.Values.{films, surface_value}
use Rattle.sheet_values.proofs.Here.{value_here, films_here}
use Rattle.gate.specs.Gate.{gate}
use Rattle.gate.proofs.Admitted.{Admitted, admitted}
use Rattle.sheet_surfaces.specs.Surfaces.{its_answers}
use Rattle.sheet_surfaces.specs.Internal.{answers_met}
use Rattle.sheet_surfaces.proofs.Nth.{here}

module _ (src : List ℕ) (i n : ℕ) (known : Known src) (e : answer n ≡ gate src) (h : i < n) where
  abbrev y : SheetSurface
  y = nth (admitted src n known e).sheet.surfaces i

  there : (w : Float) → answers w (surface_value (surface_at src (place src i) [])) (films w (layers_at src (next_place src (place src i)) (layer_run 16 src (place src i)))) ≡ its_answers w y
  there w = let p = here src i n known e h in λ k. answers w (value_here src (place src i) y _ p k) (films_here src (place src i) y _ p w (layer_run 16 src (place src i)) refl k)

  -- whatever is said of it is said of what the bytes give
  pub met_given : (w : Float) (at : ℕ) → at ≡ place src i → (o : Outcome Answers) → its_answers w y ≡ o → answers_met src at w ≡ o
  unfolding answers_met
  met_given w at q o eo = ap (λ (k : ℕ). answers_met src k w) q ∙ there w ∙ eo
