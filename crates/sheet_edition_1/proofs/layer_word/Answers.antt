-- `sheet_edition_1::layer_word` meets its contract. Assumes nothing.
use mathlib.Core.Path.{◌≡◌, refl, sym, ap, ◌∙◌}
use mathlib.Core.Bool.{Bool, true, false}
use mathlib.Core.Logic.{◌⊎◌, inl, inr}
use mathlib.Core.List.{List, [], ◌∷◌}
use Prim.Native.Nat.{ℕ, ◌+◌, ◌/◌, ◌%◌, ◌^◌, ◌<◌}
use native.Mathlib.Omega.{arith}
use lib.Dec.{eqb}
use lib.ListN.{get_or}
use lib.Ieee.{Float, binary64, of_bits, to_bits}
use borrow.Author.Tests.{eqb-true, eqb-false}
use Rattle.thin_film_solver.specs.declared.ThinFilmLayer.{ThinFilmLayer}
use Rattle.sheet.specs.Words.{word, kind, float}
use Rattle.sheet.specs.Sheet.{raw_words}
use Rattle.sheet.proofs.WordBytes.{word_lt}
use Rattle.sheet.proofs.Stands.{Known, bytes_from}
use Rattle.sheet_values.specs.declared.Cauchy.{Cauchy}
use Rattle.sheet_values.specs.Values.{cauchy_index, cauchy_film}
use Rattle.sheet_values.specs.Internal.{cauchy_at}
use Rattle.sheet_edition_1.specs.Internal.{layer_words}
use Rattle.sheet_edition_1.proofs.NewBlocks.{kind_inside}
use Rattle.sheet_edition_1.proofs.layer_word.Goals as goal

module _ (src : List ℕ) (at : ℕ) (w : Float) (k : kind (word src at) ≡ 6) where
  abbrev n : ℕ
  n = to_bits binary64 (cauchy_index w (cauchy_at src at))

  abbrev t : ℕ
  t = float src (at + 7)

  words : layer_words w src at ≡ 0x4000_0000 ∷ n / 2 ^ 32 ∷ n % 2 ^ 32 ∷ 0 ∷ 0 ∷ t / 2 ^ 32 ∷ t % 2 ^ 32 ∷ []
  unfolding raw_words
  words = rw k refl

  entry : (j : ℕ) → get_or (layer_words w src at) j 0 ≡ get_or (0x4000_0000 ∷ n / 2 ^ 32 ∷ n % 2 ^ 32 ∷ 0 ∷ 0 ∷ t / 2 ^ 32 ∷ t % 2 ^ 32 ∷ []) j 0
  entry j = ap (λ (l : List ℕ). get_or l j 0) words

  module _ (g : Cauchy) (g-is : g ≡ cauchy_at src at) (f : ThinFilmLayer) (f-is : f ≡ cauchy_film w g) (j r : ℕ) where
    is_film : f ≡ cauchy_film w (cauchy_at src at)
    is_film = f-is ∙ ap (cauchy_film w) g-is

    kind_word_here : j ≡ 0 → 0x4000_0000 ≡ get_or (layer_words w src at) j 0
    kind_word_here e = sym (entry j ∙ rw e refl)

    n_high : j ≡ 1 → r ≡ to_bits binary64 f.n / 2 ^ 32 → r ≡ get_or (layer_words w src at) j 0
    n_high e q = q ∙ ap (λ (z : ThinFilmLayer). to_bits binary64 z.n / 2 ^ 32) is_film ∙ sym (entry j ∙ rw e refl)

    n_low : j ≡ 2 → r ≡ to_bits binary64 f.n % 2 ^ 32 → r ≡ get_or (layer_words w src at) j 0
    n_low e q = q ∙ ap (λ (z : ThinFilmLayer). to_bits binary64 z.n % 2 ^ 32) is_film ∙ sym (entry j ∙ rw e refl)

    k_high : j ≡ 3 → r ≡ to_bits binary64 f.k / 2 ^ 32 → r ≡ get_or (layer_words w src at) j 0
    unfolding to_bits of_bits
    k_high e q = q ∙ ap (λ (z : ThinFilmLayer). to_bits binary64 z.k / 2 ^ 32) is_film ∙ sym (entry j ∙ rw e refl)

    k_low : j ≡ 4 → r ≡ to_bits binary64 f.k % 2 ^ 32 → r ≡ get_or (layer_words w src at) j 0
    unfolding to_bits of_bits
    k_low e q = q ∙ ap (λ (z : ThinFilmLayer). to_bits binary64 z.k % 2 ^ 32) is_film ∙ sym (entry j ∙ rw e refl)

  thickness : Known src → (j r : ℕ) → (j ≡ 0 → ⊥) → (j ≡ 1 → ⊥) → (j ≡ 2 → ⊥) → (j ≡ 3 → ⊥) → (j ≡ 4 → ⊥) → j < 7 → r ≡ word src (at + j + 2) → r ≡ get_or (layer_words w src at) j 0
  unfolding float
  thickness known j r z a b c d lt q = by (five_six z a b c d lt)
    where
      five_six : (j ≡ 0 → ⊥) → (j ≡ 1 → ⊥) → (j ≡ 2 → ⊥) → (j ≡ 3 → ⊥) → (j ≡ 4 → ⊥) → j < 7 → (j ≡ 5) ⊎ (j ≡ 6)
      five_six z a b c d lt = decide (eqb j 5) refl
        where
          decide : (t : Bool) → eqb j 5 ≡ t → (j ≡ 5) ⊎ (j ≡ 6)
          decide true e = inl (eqb-true j 5 e)
          decide false e = let f = eqb-false j 5 e in inr (omega arith)

      low : word src (at + 7 + 1) < 2 ^ 32
      low = word_lt src (bytes_from src known) (at + 7 + 1)

      high : word src (at + 7) ≡ t / 2 ^ 32
      high = omega (arith, low)

      low_is : word src (at + 7 + 1) ≡ t % 2 ^ 32
      low_is = omega (arith, low)

      by : (j ≡ 5) ⊎ (j ≡ 6) → r ≡ get_or (layer_words w src at) j 0
      by (inl e) = let a : at + j + 2 ≡ at + 7 = omega arith in q ∙ ap (word src) a ∙ high ∙ sym (entry j ∙ rw e refl)
      by (inr e) = let a : at + j + 2 ≡ at + 7 + 1 = omega arith in q ∙ ap (word src) a ∙ low_is ∙ sym (entry j ∙ rw e refl)

pub returns-then-j-eq0 : goal.returns-then-j-eq0
returns-then-j-eq0 c = kind_word_here _ _ _ c.requires.0 _ c.cauchy_at.ensures _ c.cauchy_film-film.ensures _ 0 c.if-j-eq0.true

pub returns-then-j-eq1 : goal.returns-then-j-eq1
returns-then-j-eq1 c = n_high _ _ _ c.requires.0 _ c.cauchy_at.ensures _ c.cauchy_film-film.ensures _ _ c.if-j-eq1.true c.high_word.ensures

pub returns-then-j-eq2 : goal.returns-then-j-eq2
returns-then-j-eq2 c = n_low _ _ _ c.requires.0 _ c.cauchy_at.ensures _ c.cauchy_film-film.ensures _ _ c.if-j-eq2.true c.low_word.ensures

pub returns-then-j-eq3 : goal.returns-then-j-eq3
returns-then-j-eq3 c = k_high _ _ _ c.requires.0 _ c.cauchy_at.ensures _ c.cauchy_film-film.ensures _ _ c.if-j-eq3.true c.high_word-then-j-eq3.ensures

pub returns-then-j-eq4 : goal.returns-then-j-eq4
returns-then-j-eq4 c = k_low _ _ _ c.requires.0 _ c.cauchy_at.ensures _ c.cauchy_film-film.ensures _ _ c.if-j-eq4.true c.low_word-then-j-eq4.ensures

pub overflow_add-at : goal.overflow_add-at
overflow_add-at c = record { fits = omega (arith, kind_inside _ _ 6 c.requires.0 (omega arith), c.requires.1) }

pub overflow_add-at-2 : goal.overflow_add-at-2
overflow_add-at-2 c = record { fits = omega (arith, kind_inside _ _ 6 c.requires.0 (omega arith), c.requires.1) }

pub returns : goal.returns
returns c = thickness _ _ _ c.requires.0 c.type_inv.src _ _ c.if-j-eq0.false c.if-j-eq1.false c.if-j-eq2.false c.if-j-eq3.false c.if-j-eq4.false c.requires.1 c.word_from.ensures
