-- Lists that are written or compared in part. Assumes nothing.
use mathlib.Core.Path.{◌≡◌, refl, sym, ap, ◌∙◌}
use mathlib.Core.Bool.{false}
use mathlib.Core.List.{List, [], ◌∷◌}
use Prim.Native.Nat.{ℕ, suc, ◌+◌, ◌/◌, ◌≤◌, ◌<◌}
use native.Mathlib.Numerals.{add-one}
use native.Mathlib.Omega.{arith}
use borrow.Author.Tests.{lt-ltb, le-ltb, eq-eqb, ne_eqb}
use lib.Dec.{eqb}
use lib.ListN.{length, get_or, set, drop, drop_of_length-le}
use lib.Seq.{drop-cons}
use lib.Ieee.{Float}
use Rattle.test_records.specs.Words.{word, pattern, written, agree}

-- ---- an answer that is written up to its i-th float
pub begun : (out : List ℕ) (at : ℕ) (x : List Float) → written out (at + 0) x ≡ written out at x
begun out at x = ap (λ (k : ℕ). written out k x) (omega arith)

pub onward : (out : List ℕ) (at i : ℕ) (x : List Float) (d : Float) (w : ℕ) → at + i < 256 → i < length x → w ≡ pattern (get_or x i d) → written (set out (at + i) w) (at + (i + 1)) (drop (i + 1) x) ≡ written out (at + i) (drop i x)
unfolding written
onward out at i x d w r h e = rw (drop-cons x i d h, lt-ltb (at + i) 256 r, e, add-one i) (ap (λ (k : ℕ). written (set out (at + i) (pattern (get_or x i d))) k (drop (suc i) x)) (omega arith))

pub full : (out : List ℕ) (at : ℕ) (x : List Float) → 256 ≤ at → written out at x ≡ out
unfolding written
full out at [] h = refl
full out at (x ∷ xs) h = rw (le-ltb at 256 h)

pub done : (out : List ℕ) (at i : ℕ) (x : List Float) → length x ≤ i → written out at (drop i x) ≡ out
unfolding written
done out at i x h = rw (drop_of_length-le x h)

-- ---- an answer that is compared up to its i-th word
module _ (got want : List ℕ) (i : ℕ) where
  module _ (h : i < length got) (w : ℕ) (e : w ≡ word want i) where
    pub goes_on : get_or got i 0 ≡ w → agree (drop (i + 1) got) want (i + 1) ≡ agree (drop i got) want i
    unfolding agree
    goes_on q = rw (drop-cons got i 0 h, eq-eqb (get_or got i 0) (word want i) (q ∙ e), add-one i)

    pub differs : (get_or got i 0 ≡ w → ⊥) → false ≡ agree (drop i got) want i
    unfolding agree
    differs q = rw (drop-cons got i 0 h, ne_eqb (get_or got i 0) (word want i) (λ z. q (z ∙ sym e)))

  pub counted : length got ≤ i → i ≤ length got → eqb (length got) (length want / 8) ≡ agree (drop i got) want i
  unfolding agree
  counted h k =
      let all : length got ≡ i = omega arith in
      ap (λ (n : ℕ). eqb n (length want / 8)) all ∙ rw (drop_of_length-le got h)
