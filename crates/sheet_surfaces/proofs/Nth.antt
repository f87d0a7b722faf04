-- The surface of a number: of an admitted sheet, and of one that is not. Assumes nothing.
use mathlib.Core.Path.{◌≡◌, refl, sym, ap, ◌∙◌}
use mathlib.Core.List.{List, [], ◌∷◌}
use Prim.Native.Nat.{ℕ, suc, ◌+◌, ◌*◌, ◌≤◌, ◌<◌}
use native.Mathlib.Omega.{arith}
use borrow.Author.Tests.{lt-ltb, le-ltb}
use lib.ListN.{length, get_or, drop}
use lib.Ieee.{Float}
use Rattle.refusal.specs.declared.Refusal.{Refusal}
use Rattle.refusal.specs.Outcome.{Outcome, answer, refusal, refused, map, number_of, place_of}
use Rattle.thin_film_solver.specs.declared.ThinFilmLayer.{ThinFilmLayer}
use Rattle.gate_limits.specs.declared.Surface as Value
use Rattle.sheet.specs.Sheet.{SheetSurface, nth, Sheet, surfaces_blocks, end_block}
use Rattle.sheet.specs.Internal.{next_place, place_on, layer_run, layer_at, surface_at, layers_at, place}
use Rattle.sheet.proofs.Stands.{SurfaceHere, Known, placed}
use Rattle.sheet_values.specs.Values.{value, film, films, surface_value, met_at}
use Rattle.sheet_values.specs.Internal.{wavelength_at}
use Rattle.sheet_values.proofs.Here.{value_here, films_here, wavelength_here}
use Rattle.sheet_answers.proofs.After as After
use Rattle.gate.specs.Gate.{gate, gated}
use Rattle.gate.proofs.Admitted.{Admitted, admitted, turned_back}
use Rattle.sheet_surfaces.specs.Surfaces.{of_surface, numbered, nth_surface, no_film, layer_of, nth_layer}

-- ---- what is said of the i-th surface
module _ {A : Type 0} (f : Float → SheetSurface → Outcome A) (src : List ℕ) (i : ℕ) where
  module _ (n : ℕ) (a : Admitted src n) where
    pub none : n ≤ i → refusal 7 0 ≡ of_surface f i (gated src)
    none h = sym (ap (of_surface f i) a.is ∙ rw (le-ltb i (length a.sheet.surfaces) (omega (arith, a.counts))))

    pub there : i < n → f (met_at (value a.sheet.wavelength) a.sheet.surfaces i) (nth a.sheet.surfaces i) ≡ of_surface f i (gated src)
    there h = sym (ap (of_surface f i) a.is ∙ rw (lt-ltb i (length a.sheet.surfaces) (omega (arith, a.counts))))

  pub not_admitted : (r : Refusal) → refused r ≡ gate src → refused r ≡ of_surface f i (gated src)
  not_admitted r e = sym (ap (of_surface f i) (turned_back src (number_of r) (place_of r) e))

module _ (src : List ℕ) (i : ℕ) where
  abbrev itself : Float → SheetSurface → Outcome SheetSurface
  itself w y = answer y

  module _ (n : ℕ) (known : Known src) (e : answer n ≡ gate src) where
    abbrev a : Admitted src n
    a = admitted src n known e

    -- where it stands
    pub here : (h : i < n) → SurfaceHere src (place src i) (nth a.sheet.surfaces i) (surfaces_blocks (drop (suc i) a.sheet.surfaces) (end_block (length a.sheet.surfaces) ∷ []))
    here h = placed src a.sheet a.stands i (omega (arith, a.counts))

    -- the wavelength that it is met with
    abbrev pub met_there : Float
    met_there = met_at (value a.sheet.wavelength) a.sheet.surfaces i

    pub met_is : i < n → (v : Float) → v ≡ wavelength_at src i → v ≡ met_there
    met_is h v ev = ev ∙ wavelength_here src a.sheet a.stands i (omega (arith, a.counts))

    -- ---- its words
    pub no_surface_there : n ≤ i → refusal 7 0 ≡ nth_surface src i
    unfolding nth_surface
    no_surface_there h = ap (map numbered) (none itself src i n a h)

    pub surface_there : i < n → (at : ℕ) → at ≡ place src i → (s : Value.Surface) → s ≡ surface_value (surface_at src at []) → (m : ℕ) → m ≡ layer_run 16 src at → answer (record { surface = s; layers = m }) ≡ nth_surface src i
    unfolding nth_surface
    surface_there h at q s es m em =
        let w : s ≡ surface_value (nth a.sheet.surfaces i) = es ∙ ap (λ (k : ℕ). surface_value (surface_at src k [])) q ∙ value_here src (place src i) _ _ (here h) in
        let l : m ≡ length (nth a.sheet.surfaces i).layers = em ∙ ap (layer_run 16 src) q ∙ (here h).run in
        ap answer (λ k. record { surface = w k; layers = l k }) ∙ ap (map numbered) (there itself src i n a h)

    -- ---- its layers
    module _ (j : ℕ) where
      pub no_layer_there : n ≤ i → refusal 7 0 ≡ nth_layer src i j
      unfolding nth_layer
      no_layer_there h = none (layer_of j) src i n a h

      module _ (h : i < n) (at : ℕ) (q : at ≡ place src i) (m : ℕ) (em : m ≡ layer_run 16 src at) where
        abbrev y : SheetSurface
        y = nth a.sheet.surfaces i

        many : m ≡ length y.layers
        many = em ∙ ap (layer_run 16 src) q ∙ (here h).run

        pub past_layers : m ≤ j → refusal 7 0 ≡ nth_layer src i j
        unfolding nth_layer
        past_layers l = sym (rw (le-ltb j (length y.layers) (omega (arith, many)))) ∙ there (layer_of j) src i n a h

        pub layer_there : j < m → (u : Float) → u ≡ wavelength_at src i → (z : ThinFilmLayer) → z ≡ film u (layer_at src (place_on src (next_place src at) j)) → answer z ≡ nth_layer src i j
        unfolding nth_layer
        layer_there l u eu z ez =
            let w = met_there in
            let v : u ≡ w = met_is h u eu in
            let all : films w (layers_at src (next_place src at) m) ≡ films w y.layers = ap (λ (k : ℕ). films w (layers_at src (next_place src k) m)) q ∙ films_here src (place src i) y _ (here h) w m (em ∙ ap (layer_run 16 src) q) in
            ap answer (ez ∙ ap (λ (k : Float). film k (layer_at src (place_on src (next_place src at) j))) v ∙ sym (After.nth w src (next_place src at) m j no_film l) ∙ ap (λ (ls : List ThinFilmLayer). get_or ls j no_film) all)
            ∙ sym (rw (lt-ltb j (length y.layers) (omega (arith, many)))) ∙ there (layer_of j) src i n a h

  pub surface_refused : (r : Refusal) → refused r ≡ gate src → refused r ≡ nth_surface src i
  unfolding nth_surface
  surface_refused r e = ap (map numbered) (not_admitted itself src i r e)

  pub layer_refused : (j : ℕ) (r : Refusal) → refused r ≡ gate src → refused r ≡ nth_layer src i j
  unfolding nth_layer
  layer_refused j r e = not_admitted (layer_of j) src i r e
