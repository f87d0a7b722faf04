-- What a caller has of what is built. Assumes nothing.
use Prim.Native.Nat.{ℕ, ◌-◌, ◌<◌}
use native.Mathlib.Omega.{arith}
use mathlib.Core.Path.{◌≡◌, refl, ◌∙◌, ap}
use mathlib.Core.Bool.{Bool, true, false, cond}
use mathlib.Core.List.{List, ◌++◌, append_assoc}
use lib.Dec.{leb}
use lib.ListN.{length, take, replicate}
use lib.Seq.{take-append_seam}
use lib.Ieee.{Float}
use Rattle.refusal.specs.Outcome.{answer, too_many_layers}
use Rattle.thin_film_solver.specs.declared.ThinFilmLayer.{ThinFilmLayer}
use Rattle.thin_film_presets.specs.Layers.{bragg_layers}
use Rattle.thin_film_layers.specs.Evaluation.{no_layer}
use Rattle.thin_film_coating.specs.declared.Built.{Built}
use Rattle.thin_film_coating.specs.declared.Coating.{Coating}
use Rattle.thin_film_coating.specs.declared.Coating.TheVariants as C
use Rattle.thin_film_coating.specs.Coating.{quarter_wave_layers, listed, layers_in, built, too_many, outcome, bragg_mirror, BuiltClaim}
use Rattle.thin_film_coating.proofs.Places.{as_many}

pub held : (layers : List ThinFilmLayer) → listed (layers_in layers) ≡ layers
unfolding listed
held layers =
    let places : List ThinFilmLayer = replicate (64 - length layers) no_layer in
    let none : List ThinFilmLayer = replicate (length layers - length (layers ++ places)) no_layer in
    ap (take (length layers)) (append_assoc layers places none) ∙ take-append_seam layers (places ++ none)

values : (coating : Coating) (layers : List ThinFilmLayer) → outcome (built coating layers) ≡ answer (coating, layers)
values coating layers = ap (λ (ls : List ThinFilmLayer). answer (coating, ls)) (held layers)

either : (t : Bool) (layers : List ThinFilmLayer) → outcome (cond t (built C.Multilayer layers) too_many) ≡ cond t (answer (C.Multilayer, layers)) too_many_layers
either true layers = values C.Multilayer layers
either false layers = refl

pub built_claim : BuiltClaim
built_claim = record {
  of_quarter_wave_ar = λ n-ambient n_substrate design. values C.Multilayer (quarter_wave_layers n-ambient n_substrate design);
  of_bragg_mirror = λ n_high n_low pairs design. either (leb pairs 31) (bragg_layers n_high n_low pairs design);
  of_refused = (omega (arith, as_many too_many.layers), refl);
}
