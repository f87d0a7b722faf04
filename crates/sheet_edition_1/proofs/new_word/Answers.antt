-- `sheet_edition_1::new_word` meets its contract. Assumes nothing.
use mathlib.Core.Path.{◌≡◌, refl, sym, ap, ◌∙◌}
use mathlib.Core.List.{List}
use Prim.Native.Nat.{ℕ, ◌+◌, ◌-◌, ◌<◌, min}
use native.Mathlib.Omega.{arith}
use lib.ListN.{length, get_or, take, drop, length-take, length-drop}
use lib.Seq.{get_or-take, get_or-drop}
use lib.Ieee.{Float}
use borrow.Author.Tests.{ne_eqb}
use Rattle.sheet.specs.Words.{word, words_of, count, kind}
use Rattle.sheet.specs.Sheet.{raw_words}
use Rattle.sheet.specs.Internal.{next_place}
use Rattle.sheet.proofs.Measure.{words_of_length, words_of_at}
use Rattle.sheet_edition_1.specs.Internal.{layer_words, new_words}
use Rattle.sheet_edition_1.proofs.new_word.Goals as goal

module _ (src : List ℕ) (at : ℕ) (w : Float) (j : ℕ) (lt : j < length (new_words w src at)) (k : ℕ) (is : k ≡ kind (word src at)) where
  is_open : k ≡ 1 → 0x1000_0001 ≡ get_or (new_words w src at) j 0
  unfolding new_words
  is_open e = let z : kind (word src at) ≡ 1 = sym is ∙ e in let few : j < 1 = rw z at lt in let o : j ≡ 0 = omega arith in rw (z, o) refl

  module _ (n1 : k ≡ 1 → ⊥) where
    module _ (e : k ≡ 6) where
      is_glass : new_words w src at ≡ layer_words w src at
      unfolding new_words
      is_glass = let z : kind (word src at) ≡ 6 = sym is ∙ e in rw z refl

      few : j < 7
      unfolding raw_words
      few = let z : kind (word src at) ≡ 6 = sym is ∙ e in rw z at (rw is_glass at lt)

      glass : (r : ℕ) → r ≡ get_or (layer_words w src at) j 0 → r ≡ get_or (new_words w src at) j 0
      glass r q = q ∙ sym (ap (λ (l : List ℕ). get_or l j 0) is_glass)

    module _ (n6 : k ≡ 6 → ⊥) where
      kept : new_words w src at ≡ take (next_place src at - at) (drop at (words_of src))
      unfolding new_words
      kept = rw (ne_eqb (kind (word src at)) 1 (λ z. n1 (is ∙ z)), ne_eqb (kind (word src at)) 6 (λ z. n6 (is ∙ z))) refl

      inside : (j < next_place src at - at) × (at + j < count src)
      inside =
          let l : j < min (next_place src at - at) (length (drop at (words_of src))) = rw (kept, length-take) at lt in
          omega (arith, length-drop at (words_of src), words_of_length src)

      other : (r : ℕ) → r ≡ word src (at + j) → r ≡ get_or (new_words w src at) j 0
      other r q = q ∙ sym (words_of_at src (at + j)) ∙ sym (ap (λ (l : List ℕ). get_or l j 0) kept ∙ get_or-take (next_place src at - at) (drop at (words_of src)) j 0 inside.0 ∙ get_or-drop at (words_of src) j 0)

pub returns-then-kind-eq1 : goal.returns-then-kind-eq1
returns-then-kind-eq1 c = is_open _ _ _ _ c.requires _ c.kind_at-kind.ensures c.if-kind-eq1.true

pub layer_word-requires : goal.layer_word-requires
layer_word-requires c = (sym c.kind_at-kind.ensures ∙ c.if-kind-eq6.true, few _ _ _ _ c.requires _ c.kind_at-kind.ensures c.if-kind-eq1.false c.if-kind-eq6.true)

pub returns-then-kind-eq6 : goal.returns-then-kind-eq6
returns-then-kind-eq6 c = glass _ _ _ _ c.requires _ c.kind_at-kind.ensures c.if-kind-eq1.false c.if-kind-eq6.true _ c.layer_word.ensures

pub overflow_add-at : goal.overflow_add-at
overflow_add-at c = record { fits = omega (arith, (inside _ _ _ _ c.requires _ c.kind_at-kind.ensures c.if-kind-eq1.false c.if-kind-eq6.false).1) }

pub returns : goal.returns
returns c = other _ _ _ _ c.requires _ c.kind_at-kind.ensures c.if-kind-eq1.false c.if-kind-eq6.false _ c.word_from.ensures
