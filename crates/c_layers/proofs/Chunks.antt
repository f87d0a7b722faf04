-- Layers taken some at a time: which they are, and what is left to be joined. Assumes nothing.
use mathlib.Core.Path.{◌≡◌, refl, sym, ap, ◌∙◌, subst}
use mathlib.Core.Bool.{Bool, true, false, cond}
use mathlib.Core.List.{List, [], ◌∷◌, ◌++◌}
use Prim.Native.Nat.{ℕ, ◌+◌, ◌-◌, ◌≤◌, ◌<◌}
use native.Mathlib.Omega.{arith}
use lib.ListN.{length, get_or, take, drop, length-drop, take-append-drop}
use lib.Seq.{length-take-le, get_or-take, get_or-drop, drop-drop, ext_get_or}
use lib.Ieee.{Float}
use Rattle.thin_film_solver.specs.declared.ThinFilmLayer.{ThinFilmLayer}
use Rattle.thin_film_layers.specs.Evaluation.{ordered, no_layer}
use Rattle.thin_film_layers.specs.Internal.{nth_index}
use Rattle.thin_film_layers.proofs.Order.{as_long, within, nth}
use Rattle.surface_real.specs.declared.Stack.{Stack}
use Rattle.surface_real.specs.Internal.{film_of, join, stacked}
use Rattle.surface_real.proofs.Turns.{Left}

-- ---- a few layers in the list's order are those that light meets after i others, from either end
pub inside : (reversed : Bool) (n i few from : ℕ) → i + few ≤ n → from ≡ cond reversed (n - i - few) i → from + few ≤ n
inside true n i few from h e = omega arith
inside false n i few from h e = omega arith

pub met : (reversed : Bool) (ls : List ThinFilmLayer) (i few from n : ℕ) → n ≡ length ls → i + few ≤ n → from ≡ cond reversed (n - i - few) i
    → ordered reversed (take few (drop from ls)) ≡ take few (drop i (ordered reversed ls))
met reversed ls i few from n n_is h from_is =
    ext_get_or no_layer (ordered reversed l) (take few (drop i (ordered reversed ls))) (size ∙ sym size_2) (λ k g. at k (subst (λ (m : ℕ). k < m) size g))
  where
    l : List ThinFilmLayer
    l = take few (drop from ls)

    long : length l ≡ few
    long = length-take-le few (drop from ls) (omega (arith, inside reversed n i few from h from_is, length-drop from ls))

    size : length (ordered reversed l) ≡ few
    size = as_long reversed l ∙ long

    size_2 : length (take few (drop i (ordered reversed ls))) ≡ few
    size_2 = length-take-le few (drop i (ordered reversed ls)) (omega (arith, as_long reversed ls, length-drop i (ordered reversed ls)))

    place : (reversed : Bool) (n i few from k : ℕ) → i + few ≤ n → from ≡ cond reversed (n - i - few) i → k < few → from + nth_index reversed few k ≡ nth_index reversed n (i + k)
    place true n i few from k h e g = omega arith
    place false n i few from k h e g = omega arith

    at : (k : ℕ) → k < few → get_or (ordered reversed l) k no_layer ≡ get_or (take few (drop i (ordered reversed ls))) k no_layer
    at k g =
        let j = nth_index reversed few k in
        let j_in : j < few = within reversed few k g in
        sym (nth reversed l k no_layer (omega (arith, long))) ∙ ap (λ (m : ℕ). get_or l (nth_index reversed m k) no_layer) long
        ∙ get_or-take few (drop from ls) j no_layer j_in ∙ get_or-drop from ls j no_layer
        ∙ ap (λ (m : ℕ). get_or ls m no_layer) (place reversed n i few from k h from_is g ∙ ap (λ (m : ℕ). nth_index reversed m (i + k)) n_is)
        ∙ nth reversed ls (i + k) no_layer (omega (arith, n_is)) ∙ sym (get_or-drop i (ordered reversed ls) k no_layer) ∙ sym (get_or-take few (drop i (ordered reversed ls)) k no_layer g)

-- ---- what is left after so many more
module _ (snell wavelength : Float) where
  append : (k : Stack) (a b : List ThinFilmLayer) → stacked snell wavelength (stacked snell wavelength k a) b ≡ stacked snell wavelength k (a ++ b)
  unfolding stacked
  append k [] b = refl
  append k (x ∷ a) b = append (join k (film_of snell wavelength x)) a b

  pub turn : (ls : List ThinFilmLayer) (i few : ℕ) (some : List ThinFilmLayer) (k k' : Stack) → some ≡ take few (drop i ls) → k' ≡ stacked snell wavelength k some
      → Left snell wavelength k i ls → Left snell wavelength k' (i + few) ls
  turn ls i few some k k' e k_is left =
      ap (λ (z : Stack). stacked snell wavelength z (drop (i + few) ls)) (k_is ∙ ap (stacked snell wavelength k) e)
      ∙ ap (stacked snell wavelength (stacked snell wavelength k (take few (drop i ls)))) (sym (drop-drop few i ls))
      ∙ append k (take few (drop i ls)) (drop few (drop i ls)) ∙ ap (stacked snell wavelength k) (take-append-drop few (drop i ls)) ∙ left
