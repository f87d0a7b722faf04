-- `c_layers::join_some` meets its contract. Assumes nothing.
use mathlib.Core.Path.{◌≡◌, ◌∙◌}
use mathlib.Core.List.{List}
use native.Mathlib.Omega.{arith}
use lib.ListN.{length, take, drop, replicate, length-replicate, length-drop}
use lib.Seq.{length-take-le, get_or-take, get_or-drop}
use lib.Ieee.{Float}
use Rattle.ieee.specs.Functions.{one}
use Rattle.thin_film_solver.specs.declared.ThinFilmLayer.{ThinFilmLayer}
use Rattle.thin_film_layers.specs.Evaluation.{no_layer}
use Rattle.surface_real.proofs.Stacking.{media_joined, media_written}
use Rattle.c_layers.specs.Evaluate.{layers}
use Rattle.c_layers.specs.Internal.{layer_on}
use Rattle.c_layers.proofs.Triples.{count}
use Rattle.c_layers.proofs.join_some.Goals as goal

pub returns : goal.returns
returns c =
    let a = c.args in
    let flat : List Float = a.flat.now in
    let rest : List ThinFilmLayer = drop a.after (layers flat) in
    let long : length (take a.few rest) ≡ a.few = length-take-le a.few rest (omega (arith, length-drop a.after (layers flat), count flat, c.requires.1)) in
    let snell = a.light.snell in
    let nm = a.light.wavelength_nm in
    c.join_all.ensures
    ∙ media_joined snell nm _ _ _ (take a.few rest) a.reversed a.stack a.few long c.requires.0
    (media_written snell nm _ _ _ (take a.few rest) (layer_on flat a.after) a.few (replicate 16 one) (omega (arith, c.requires.0, length-replicate 16 one)) c.media_from.ensures long
    (λ j h. get_or-take a.few rest j no_layer h ∙ get_or-drop a.after (layers flat) j no_layer))
