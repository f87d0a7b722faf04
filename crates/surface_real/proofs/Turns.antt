-- Films joined one after the other, in their order or reversed: what a loop over layers cites. Assumes nothing.
use mathlib.Core.Path.{◌≡◌, refl, sym, ap, ◌∙◌, subst}
use Prim.Native.Nat.{ℕ, suc, ◌+◌, ◌<◌}
use native.Mathlib.Numerals.{add-one}
use mathlib.Core.Bool.{Bool}
use mathlib.Core.List.{List, ◌∷◌}
use lib.ListN.{length, get_or, drop}
use lib.Seq.{drop-cons, drop-length}
use lib.Ieee.{Float}
use Rattle.thin_film_solver.specs.declared.ThinFilmLayer.{ThinFilmLayer}
use Rattle.thin_film_layers.specs.Evaluation.{ordered}
use Rattle.thin_film_layers.specs.Internal.{nth_index}
use Rattle.thin_film_layers.proofs.Order.{as_long, nth}
use Rattle.surface_real.specs.declared.Film.{Film}
use Rattle.surface_real.specs.declared.Stack.{Stack}
use Rattle.surface_real.specs.Internal.{film_of, join, no_films, stacked}

-- what is left of the layers from the i-th on leads to the product of all of them
abbrev pub Left : Float → Float → Stack → ℕ → List ThinFilmLayer → Type 0
Left snell wavelength k i ls = stacked snell wavelength k (drop i ls) ≡ stacked snell wavelength no_films ls

pub begun : (snell wavelength : Float) (ls : List ThinFilmLayer) (k : Stack) → k ≡ no_films → Left snell wavelength k 0 ls
begun snell wavelength ls k e = ap (λ (m : Stack). stacked snell wavelength m ls) e

module _ (snell wavelength : Float) (reversed : Bool) (ls : List ThinFilmLayer) where
  taken : (k : Stack) (y : ThinFilmLayer) (rest : List ThinFilmLayer) → stacked snell wavelength (join k (film_of snell wavelength y)) rest ≡ stacked snell wavelength k (y ∷ rest)
  unfolding stacked
  taken k y rest = refl

  -- a turn that takes the i-th layer, which stands at j
  pub turn : (n i j : ℕ) (d y : ThinFilmLayer) (f : Film) (k k' : Stack) → n ≡ length ls → i < n → j ≡ nth_index reversed n i → y ≡ get_or ls j d → f ≡ film_of snell wavelength y
      → k' ≡ join k f → Left snell wavelength k i (ordered reversed ls) → Left snell wavelength k' (i + 1) (ordered reversed ls)
  turn n i j d y f k k' n_is h j-is y_is f-is k_is left =
      let within_list : i < length ls = subst (λ (m : ℕ). i < m) n_is h in
      let y_at : y ≡ get_or (ordered reversed ls) i d = y_is ∙ ap (λ (m : ℕ). get_or ls m d) (j-is ∙ ap (λ (m : ℕ). nth_index reversed m i) n_is) ∙ nth reversed ls i d within_list in
      ap (λ (m : Stack). stacked snell wavelength m (drop (i + 1) (ordered reversed ls))) (k_is ∙ ap (join k) (f-is ∙ ap (film_of snell wavelength) y_at))
      ∙ ap (λ (m : ℕ). stacked snell wavelength (join k (film_of snell wavelength (get_or (ordered reversed ls) i d))) (drop m (ordered reversed ls))) (add-one i)
      ∙ taken k (get_or (ordered reversed ls) i d) (drop (suc i) (ordered reversed ls))
      ∙ ap (stacked snell wavelength k) (sym (drop-cons (ordered reversed ls) i d (rw as_long within_list))) ∙ left

  -- past the last layer nothing is left
  pub last : (k : Stack) (i : ℕ) → i ≡ length ls → Left snell wavelength k i (ordered reversed ls) → k ≡ stacked snell wavelength no_films (ordered reversed ls)
  unfolding stacked
  last k i e left =
      ap (stacked snell wavelength k) (sym (drop-length (ordered reversed ls)))
      ∙ ap (λ (m : ℕ). stacked snell wavelength k (drop m (ordered reversed ls))) (as_long reversed ls ∙ sym e) ∙ left
