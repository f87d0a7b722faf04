-- Films as layers. Assumes nothing.
use mathlib.Core.Path.{◌≡◌, refl, sym, ap, ◌∙◌, subst}
use mathlib.Core.Bool.{Bool, true, false, ◌&&◌, cond}
use mathlib.Core.List.{List, [], ◌∷◌, ◌++◌, map}
use Prim.Native.Nat.{ℕ, zero, suc, ◌+◌, ◌-◌, ◌≤◌, ◌<◌}
use native.Mathlib.Nat.{not-suc-le-zero, le_of_suc-le-suc}
use native.Mathlib.Omega.{arith}
use lib.Dec.{eqb}
use lib.IntN.{pos}
use lib.Ieee.{Float, binary64, of_int}
use lib.ListN.{length, get_or, set, take, replicate, length-map, length-replicate}
use lib.Seq.{paste, length-take-le, get_or-take, take_at}
use borrow.Author.Tests.{eq-eqb, ne_eqb}
use Rattle.ieee.specs.Operators.{◌⊗◌}
use Rattle.refusal.specs.Outcome as Outcome
use Rattle.refusal.specs.Outcome.{Outcome, answer, refusal}
use Rattle.thin_film_grammar.specs.declared.Film.{Film}
use Rattle.thin_film_solver.specs.declared.ThinFilmLayer.{ThinFilmLayer}
use Rattle.thin_film_solver.specs.Solve.{dielectric}
use Rattle.thin_film_layers.specs.Evaluation.{no_layer}
use Rattle.thin_film_presets.specs.Layers.{quarter_wave}
use Rattle.thin_film_coating.specs.declared.Layers.{Layers}
use Rattle.thin_film_coating.specs.Coating.{layers_in}
use Rattle.thin_film_coating.proofs.Repeat.{stored, all_stored}
use Rattle.thin_film_shorthand.specs.Stack.{index, thickness, layer}

-- ---- one film
module _ (h l m design : Float) (film : Film) (n : Float) (n_is : n ≡ index h l m film.letter) where
  pub alone : (q : ThinFilmLayer) → q ≡ dielectric n (quarter_wave design n) → film.multiplier ≡ 0 → q ≡ layer h l m design film
  unfolding layer
  alone q e z = simp (e, n_is, eq-eqb _ _ z)

  pub multiplied : (q r : ThinFilmLayer) → q ≡ dielectric n (quarter_wave design n) → r ≡ dielectric n (of_int binary64 (pos film.multiplier) ⊗ q.thickness_nm) → (film.multiplier ≡ 0 → ⊥) → r ≡ layer h l m design film
  unfolding layer dielectric
  multiplied q r e f z = simp (f, e, n_is, ne_eqb _ _ z)

-- ---- all of them
module _ {A B : Type 0} (f : A → B) where
  pub get_d_map : (l : List A) (i : ℕ) (a : A) (b : B) → i < length l → get_or (map f l) i b ≡ f (get_or l i a)
  get_d_map [] i a b h = absurd (not-suc-le-zero h)
  get_d_map (x ∷ l) zero a b h = refl
  get_d_map (x ∷ l) (suc i) a b h = get_d_map l i a b (le_of_suc-le-suc h)

module _ (f : Film → ThinFilmLayer) (films : List Film) (count : ℕ) (few : count ≤ 64) (there : count ≤ length films) where
  abbrev made : List ThinFilmLayer
  made = map f (take count films)

  long : length made ≡ count
  long = length-map (take count films) f ∙ length-take-le count films there

  pub one_more : (d items : List ThinFilmLayer) (i : ℕ) (a : Film) (y : ThinFilmLayer) → d ≡ replicate 64 no_layer → i < count → items ≡ paste d 0 made i → y ≡ f (get_or films i a) → set items i y ≡ paste d 0 made (i + 1)
  one_more d items i a y d-is h e g =
      let room : i < length d = rw (d-is, length-replicate 64 no_layer) (omega arith) in
      let film_is : get_or made i no_layer ≡ f (get_or films i a) = get_d_map f (take count films) i a no_layer (rw (length-take-le count films there) h) ∙ ap f (get_or-take count films i a h) in
      ap (λ (t : List ThinFilmLayer). set t i y) e ∙ ap (set (paste d 0 made i) i) (g ∙ sym film_is) ∙ stored d made i no_layer room (rw long h)

  pub all_made : (d items : List ThinFilmLayer) (i : ℕ) → d ≡ replicate 64 no_layer → i ≡ count → items ≡ paste d 0 made i → ◌≡◌ {A = Layers} (record { items = items; count = count }) (layers_in made)
  all_made d items i d-is e h =
      let items_are : items ≡ made ++ replicate (64 - length made) no_layer = h ∙ ap (λ (t : List ThinFilmLayer). paste t 0 made i) d-is ∙ all_stored made 64 i no_layer (e ∙ sym long) (omega arith) in
      ap (λ (t : List ThinFilmLayer). record { items = t; count = count }) items_are ∙ ap (λ (n : ℕ). record { items = made ++ replicate (64 - length made) no_layer; count = n }) (sym long)
