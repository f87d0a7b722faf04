-- `surface_real::presets::stack_of` meets its contract. Assumes nothing.
use mathlib.Core.Path.{◌≡◌, refl, sym, ap, ◌∙◌}
use mathlib.Core.List.{List, []}
use Prim.Native.Nat.{ℕ, ◌≤◌}
use native.Mathlib.Omega.{arith}
use lib.Dec.{lit≤}
use lib.ListN.{length, get_or, replicate, length-replicate}
use Rattle.ieee.specs.Functions.{one}
use Rattle.thin_film_layers.specs.Evaluation.{ordered, no_layer}
use Rattle.thin_film_presets.specs.Layers.{broadband_layers, bragg_layers}
use Rattle.thin_film_coating.specs.declared.Coating.TheVariants as C
use Rattle.thin_film.specs.declared.SurfaceCoating.{SurfaceCoating}
use Rattle.thin_film.specs.declared.SurfaceCoating.TheVariants as S
use Rattle.thin_film.specs.Coating.{mgf2_layers, mirror_layers, layers_of}
use Rattle.surface_real.specs.declared.Stack.{Stack}
use Rattle.surface_real.specs.Internal.{stacked}
use Rattle.surface_real.proofs.Stacking.{media_joined, media_written}
use borrow.Author.Rules.{rules}
use Rattle.surface_real.proofs.presets.stack_of.Goals as goal

few : (s : SurfaceCoating) → length (layers_of s []) ≤ 16
unfolding layers_of mgf2_layers broadband_layers mirror_layers bragg_layers
few S.IdealAr = lit≤ tt
few (S.MgF2 design) = lit≤ tt
few S.BroadbandAr = lit≤ tt
few S.HighReflectanceMirror = lit≤ tt
few (S.Custom C.IdealAr) = lit≤ tt
few (S.Custom C.IdealMirror) = lit≤ tt
few (S.Custom C.IdealBeamsplitter) = lit≤ tt
few (S.Custom C.Multilayer) = lit≤ tt

pub returns : goal.returns
returns c =
    let a = c.args in
    let ls = layers_of a.coating [] in
    let snell = a.light.snell in
    let nm = a.light.wavelength_nm in
    let low : c.own_count-n.result ≤ 16 = (let it : c.own_count-n.result ≤ 16 = omega (arith, c.own_count-n.ensures, few c.args.coating) in it) in
    c.join_all.ensures
    ∙ media_joined snell nm _ _ _ ls a.reversed c.no_films.result c.own_count-n.result (sym c.own_count-n.ensures) low
    (media_written snell nm _ _ _ ls (λ i. get_or ls i no_layer) c.own_count-n.result (replicate 16 one) (omega (arith, low, length-replicate 16 one)) c.media.ensures (sym c.own_count-n.ensures) (λ i h. refl))
    ∙ ap (λ (k : Stack). stacked snell nm k (ordered a.reversed ls)) c.no_films.ensures

pub media-requires : goal.media-requires
media-requires c = omega (arith, c.own_count-n.ensures, few c.args.coating)
