-- Scaffolding, not to be believed: the answers of the SURFACE at a place of some bytes.
use Rattle.std.specs.Prelude.{List, [], ℕ, Float}
use Rattle.refusal.specs.Outcome.{Outcome}
use Rattle.surface.specs.declared.Answers.{Answers}
use Rattle.surface.specs.Answers.{answers}
use Rattle.sheet.specs.Internal.{next_place, layer_run, surface_at, layers_at}
use Rattle.sheet_values.specs.Values.{films, surface_value}

unfoldable pub answers_met : List ℕ → ℕ → Float → Outcome Answers
answers_met src at wavelength =
    let layers = layers_at src (next_place src at) (layer_run 16 src at) in
    answers wavelength (surface_value (surface_at src at [])) (films wavelength layers)
