-- `sheet_answers::layer_after` meets its contract. Assumes nothing.
use mathlib.Core.Path.{◌≡◌, refl, ◌∙◌}
use mathlib.Core.List.{List}
use Prim.Native.Nat.{ℕ}
use lib.Ieee.{Float}
use Rattle.sheet.specs.Internal.{next_place, place_on, layer_at}
use Rattle.sheet_values.specs.Values.{film}
use Rattle.sheet_answers.proofs.layer_after.Goals as goal

there : (w : Float) (src : List ℕ) (at j q p : ℕ) → q ≡ next_place src at → p ≡ place_on src q j → film w (layer_at src p) ≡ film w (layer_at src (place_on src (next_place src at) j))
there w src at j q p e f = rw (f, e) refl

pub returns : goal.returns
returns c = c.layer_at.ensures ∙ there _ _ _ _ _ _ c.next_place.ensures c.place_on-place.ensures
