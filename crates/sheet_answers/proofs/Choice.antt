-- A coating's own layers are read, or else those after the block. Assumes nothing.
use mathlib.Core.Path.{◌≡◌, sym, ap, ◌∙◌}
use mathlib.Core.Bool.{Bool}
use mathlib.Core.List.{List, []}
use Prim.Native.Nat.{ℕ}
use lib.Dec.{eqb}
use lib.ListN.{length}
use borrow.Author.Tests.{eq-eqb, ne_eqb}
use Rattle.thin_film_solver.specs.declared.ThinFilmLayer.{ThinFilmLayer}
use Rattle.thin_film_solver.specs.declared.Incidence.{Incidence}
use Rattle.thin_film_solver.specs.Internal.{solved}
use Rattle.thin_film_layers.specs.Evaluation.{ordered}
use Rattle.thin_film.specs.declared.SurfaceCoating.{SurfaceCoating}
use Rattle.thin_film.specs.Coating.{layers_of}
use Rattle.thin_film.specs.Internal.{own_layers}
use Rattle.thin_film.proofs.Own.{beside, own}

module _ (light : Incidence) (reversed : Bool) (s : SurfaceCoating) (layers : List ThinFilmLayer) (n : ℕ) (n_is : n ≡ length (layers_of s [])) where
  pub after : n ≡ 0 → solved light (ordered reversed layers) ≡ solved light (ordered reversed (own_layers s layers))
  after e = ap (λ (l : List ThinFilmLayer). solved light (ordered reversed l)) (sym (beside s layers (ap (λ (m : ℕ). eqb m 0) (sym n_is) ∙ eq-eqb n 0 e)))

  pub preset : (n ≡ 0 → ⊥) → solved light (ordered reversed (layers_of s [])) ≡ solved light (ordered reversed (own_layers s layers))
  preset e = ap (λ (l : List ThinFilmLayer). solved light (ordered reversed l)) (sym (own s layers (ap (λ (m : ℕ). eqb m 0) (sym n_is) ∙ ne_eqb n 0 e)))
