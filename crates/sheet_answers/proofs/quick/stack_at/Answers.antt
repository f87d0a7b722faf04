-- `sheet_answers::quick::stack_at` meets its contract. Assumes nothing.
use mathlib.Core.Path.{◌≡◌, ap, ◌∙◌}
use mathlib.Core.List.{List}
use Prim.Native.Nat.{ℕ}
use native.Mathlib.Omega.{arith}
use lib.ListN.{length, replicate, length-replicate}
use Rattle.ieee.specs.Functions.{one}
use Rattle.thin_film_solver.specs.declared.ThinFilmLayer.{ThinFilmLayer}
use Rattle.thin_film_layers.specs.Evaluation.{ordered, no_layer}
use Rattle.sheet.specs.Internal.{next_place, layers_at}
use Rattle.sheet_values.specs.Values.{films}
use Rattle.surface_real.specs.declared.Stack.{Stack}
use Rattle.surface_real.specs.Internal.{stacked}
use Rattle.surface_real.proofs.Stacking.{media_joined, media_written}
use Rattle.sheet_answers.specs.Internal.{nth_film}
use Rattle.sheet_answers.proofs.After.{many, nth}
use Rattle.sheet_answers.proofs.quick.stack_at.Goals as goal

pub returns : goal.returns
returns c =
    let a = c.args in
    let src : List ℕ = a.src.now in
    let layers : List ThinFilmLayer = films a.wavelength_nm (layers_at src (next_place src a.at) a.n) in
    let long : length layers ≡ a.n = many a.wavelength_nm src (next_place src a.at) a.n in
    let snell = a.light.snell in
    let nm = a.light.wavelength_nm in
    c.join_all.ensures
    ∙ media_joined snell nm _ _ _ layers a.reversed c.no_films-none.result a.n long c.requires
    (media_written snell nm _ _ _ layers (nth_film a.wavelength_nm src a.at) a.n (replicate 16 one) (omega (arith, c.requires, length-replicate 16 one)) c.media_at.ensures long
    (λ j h. nth a.wavelength_nm src (next_place src a.at) a.n j no_layer h))
    ∙ ap (λ (k : Stack). stacked snell nm k (ordered a.reversed layers)) c.no_films-none.ensures
