-- Films joined one after the other, from a list of layers or from the media in arrays. Assumes nothing.
use mathlib.Core.Path.{◌≡◌, refl, sym, ap, ap₂, ◌∙◌}
use Prim.Native.Nat.{ℕ, zero, suc, ◌≤◌, ◌<◌}
use native.Mathlib.Nat.{le_refl}
use native.Mathlib.Numerals.{add-one}
use native.Mathlib.Omega.{arith}
use mathlib.Core.Bool.{Bool}
use mathlib.Core.List.{List, [], ◌∷◌, ◌++◌}
use lib.ListN.{length, get_or, take}
use lib.Seq.{take-suc, take_all}
use lib.Ieee.{Float, nan}
use Rattle.math_trig.specs.Trig.{sin, cos}
use Rattle.math_waves.specs.Waves.{written, at_most_16}
use Rattle.math_waves.proofs.Written.{nth_written}
use Rattle.thin_film_solver.specs.declared.ThinFilmLayer.{ThinFilmLayer}
use Rattle.thin_film_layers.specs.Evaluation.{ordered, no_layer}
use Rattle.thin_film_layers.specs.Internal.{nth_index}
use Rattle.thin_film_layers.proofs.Order.{as_long, within, nth}
use Rattle.surface_real.specs.declared.Film.{Film}
use Rattle.surface_real.specs.declared.Medium.{Medium}
use Rattle.surface_real.specs.declared.Stack.{Stack}
use Rattle.surface_real.specs.Internal.{medium_of, film_in, film_of, join, stacked}
use Rattle.surface_real.specs.InternalFilms.{at, film_at, Media, Wrote, joined}

-- films that are the same at each place
pub same_joined : (f g : ℕ → Film) (reversed : Bool) (n i : ℕ) (k : Stack) → i ≤ n → ((j : ℕ) → j < n → f j ≡ g j) → joined f reversed n i k ≡ joined g reversed n i k
unfolding joined
same_joined f g reversed n zero k h own = refl
same_joined f g reversed n (suc i) k h own =
    ap₂ join (same_joined f g reversed n i k (omega (arith, h)) own) (own (nth_index reversed n i) (within reversed n i h))

module _ (snell wavelength : Float) where
  more : (k : Stack) (ls : List ThinFilmLayer) (y : ThinFilmLayer) → stacked snell wavelength k (ls ++ (y ∷ [])) ≡ join (stacked snell wavelength k ls) (film_of snell wavelength y)
  unfolding stacked
  more k [] y = refl
  more k (x ∷ ls) y = more (join k (film_of snell wavelength x)) ls y

  -- one layer more
  one_more : (layers : List ThinFilmLayer) (i : ℕ) (f : Film) (k m : Stack) → i < length layers → f ≡ film_of snell wavelength (get_or layers i no_layer)
      → m ≡ stacked snell wavelength k (take i layers) → join m f ≡ stacked snell wavelength k (take (suc i) layers)
  one_more layers i f k m h f-is m_is =
      ap₂ join m_is f-is ∙ sym (more k (take i layers) (get_or layers i no_layer)) ∙ ap (stacked snell wavelength k) (sym (take-suc layers i no_layer h))

  -- each place has the film of its layer
  module _ (layers : List ThinFilmLayer) (reversed : Bool) (f : ℕ → Film) (own : (j : ℕ) → j < length layers → f j ≡ film_of snell wavelength (get_or layers j no_layer)) where
    abbrev met : List ThinFilmLayer
    met = ordered reversed layers

    first : (k : Stack) (i : ℕ) → i ≤ length layers → joined f reversed (length layers) i k ≡ stacked snell wavelength k (take i met)
    unfolding joined stacked
    first k zero h = refl
    first k (suc i) h =
        one_more met i (f (nth_index reversed (length layers) i)) k _ (rw as_long h)
        (own (nth_index reversed (length layers) i) (within reversed (length layers) i h) ∙ ap (film_of snell wavelength) (nth reversed layers i no_layer h))
        (first k i (omega (arith, h)))

    all_joined : (k : Stack) (n : ℕ) → length layers ≡ n → joined f reversed n n k ≡ stacked snell wavelength k met
    all_joined k n e =
        ap (λ (m : ℕ). joined f reversed m m k) (sym e) ∙ first k (length layers) (le_refl (length layers))
        ∙ ap (stacked snell wavelength k) (take_all (length layers) met (omega (arith, as_long reversed layers)))

  module _ (eta_s eta_p delta : List Float) (layers : List ThinFilmLayer) where
    -- the medium at a place makes its layer's film
    own_film : Media snell wavelength eta_s eta_p delta layers → (j : ℕ) → j < length layers → film_at eta_s eta_p delta j ≡ film_of snell wavelength (get_or layers j no_layer)
    unfolding film_at film_of
    own_film media j h = ap (λ (m : Medium). film_in m.eta_s m.eta_p (sin m.delta) (cos m.delta)) (media j h)

    -- what surface_real::films::join_all gives
    pub media_joined : (reversed : Bool) (k : Stack) (n : ℕ) → length layers ≡ n → n ≤ 16 → Media snell wavelength eta_s eta_p delta layers
        → joined (film_at eta_s eta_p delta) reversed (at_most_16 n) (at_most_16 n) k ≡ stacked snell wavelength k (ordered reversed layers)
    media_joined reversed k n e few media = all_joined layers reversed (film_at eta_s eta_p delta) (own_film media) k (at_most_16 n) (omega (arith, e, few))

    -- media that a loop writes
    pub media_written : (f : ℕ → ThinFilmLayer) (count : ℕ) (base : List Float) → count ≤ length base → Wrote snell wavelength f count base base base eta_s eta_p delta
        → length layers ≡ count → ((i : ℕ) → i < count → get_or layers i no_layer ≡ f i) → Media snell wavelength eta_s eta_p delta layers
    media_written f count base room (s_is, p_is, d-is) long own i h =
        (λ j. record { eta_s = place (λ m. (medium_of snell wavelength (f m)).eta_s) eta_s s_is j; eta_p = place (λ m. (medium_of snell wavelength (f m)).eta_p) eta_p p_is j; delta = place (λ m. (medium_of snell wavelength (f m)).delta) delta d-is j })
        ∙ ap (medium_of snell wavelength) (sym (own i (omega (arith, h, long))))
      where
        place : (g : ℕ → Float) (l : List Float) → l ≡ written g count base → at l i ≡ g i
        place g l is = ap (λ (m : List Float). at m i) is ∙ nth_written g count base i nan (omega (arith, h, long)) room
