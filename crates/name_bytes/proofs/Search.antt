-- The tests of a search at one place and the next. Assumes nothing.
use mathlib.Core.Path.{◌≡◌, refl, sym, ap, ◌∙◌}
use Prim.Native.Nat.{ℕ, suc, ◌+◌, ◌-◌, ◌≤◌, ◌<◌}
use native.Mathlib.Nat.{le_refl, le_of_eq}
use native.Mathlib.Numerals.{add-one}
use mathlib.Core.Bool.{Bool, true, false}
use mathlib.Core.List.{List, [], ◌∷◌}
use lib.ListN.{length, get_or, take, drop, length-drop, drop_of_length-le}
use lib.Seq.{take_all, drop-cons}
use borrow.Author.Tests.{eq-eqb, ne_eqb}
use Rattle.name_bytes.specs.Search.{begins, contains}

-- ---- p at the beginning of s, from their i-th bytes on
begins_nil : (s : List ℕ) → begins s [] ≡ true
unfolding begins
begins_nil s = refl

module _ (s p : List ℕ) (i : ℕ) where
  pub begins_more : i < length s → i < length p → get_or s i 0 ≡ get_or p i 0 → begins (drop i s) (drop i p) ≡ begins (drop (i + 1) s) (drop (i + 1) p)
  unfolding begins
  begins_more h k e = simp (add-one, drop-cons s i 0 h, drop-cons p i 0 k, eq-eqb (get_or s i 0) (get_or p i 0) e)

  pub begins_differs : i < length s → i < length p → (get_or s i 0 ≡ get_or p i 0 → ⊥) → begins (drop i s) (drop i p) ≡ false
  unfolding begins
  begins_differs h k e = simp (drop-cons s i 0 h, drop-cons p i 0 k, ne_eqb (get_or s i 0) (get_or p i 0) e)

  pub begins_short : length s ≤ i → i < length p → begins (drop i s) (drop i p) ≡ false
  unfolding begins
  begins_short h k = simp (drop_of_length-le s h, drop-cons p i 0 k)

  pub begins_end : length p ≤ i → begins (drop i s) (drop i p) ≡ true
  begins_end h = ap (begins (drop i s)) (drop_of_length-le p h) ∙ begins_nil (drop i s)

contains_nil : (p : List ℕ) → contains [] p ≡ begins [] p
unfolding contains
contains_nil p = refl

-- ---- p in s, from the k-th byte of s on: r is the test of the part from there to the end
module _ (s p : List ℕ) (k : ℕ) (r : Bool) (r_is : r ≡ begins (take (length s - k) (drop k s)) p) where
  at_part : r ≡ begins (drop k s) p
  at_part = r_is ∙ ap (λ (l : List ℕ). begins l p) (take_all (length s - k) (drop k s) (le_of_eq (length-drop k s)))

  at_cons : k < length s → r ≡ begins (get_or s k 0 ∷ drop (suc k) s) p
  at_cons h = at_part ∙ ap (λ (l : List ℕ). begins l p) (drop-cons s k 0 h)

  pub contains_more : k < length s → r ≡ false → contains (drop k s) p ≡ contains (drop (k + 1) s) p
  contains_more h e = rw add-one (ap (λ (l : List ℕ). contains l p) (drop-cons s k 0 h) ∙ go (sym (at_cons h) ∙ e))
    where
      go : begins (get_or s k 0 ∷ drop (suc k) s) p ≡ false → contains (get_or s k 0 ∷ drop (suc k) s) p ≡ contains (drop (suc k) s) p
      go f = unfold contains in simp f

  pub contains_here : k < length s → r ≡ true → contains (drop k s) p ≡ true
  contains_here h e = ap (λ (l : List ℕ). contains l p) (drop-cons s k 0 h) ∙ go (sym (at_cons h) ∙ e)
    where
      go : begins (get_or s k 0 ∷ drop (suc k) s) p ≡ true → contains (get_or s k 0 ∷ drop (suc k) s) p ≡ true
      go f = unfold contains in simp f

pub contains_end : (s p : List ℕ) (k : ℕ) (r : Bool) → length s ≤ k → r ≡ begins (take (length s - length s) (drop (length s) s)) p → contains (drop k s) p ≡ r
contains_end s p k r h r_is =
    ap (λ (l : List ℕ). contains l p) (drop_of_length-le s h) ∙ contains_nil p
    ∙ ap (λ (l : List ℕ). begins l p) (sym (drop_of_length-le s (le_refl (length s)))) ∙ sym (at_part s p (length s) r r_is)
