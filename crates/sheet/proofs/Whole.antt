-- Whole blocks of one kind word, one after the other from a place on: the grammar passes over layers together. Assumes nothing.
use mathlib.Core.Path.{◌≡◌, refl, sym, ap, ◌∙◌, subst}
use mathlib.Core.Bool.{Bool, true, false, cond}
use mathlib.Core.List.{List}
use Prim.Native.Nat.{ℕ, zero, suc, ◌+◌, ◌-◌, ◌*◌, ◌≤◌, ◌<◌}
use native.Mathlib.Nat.{add-zero, mul-zero, mul_comm, suc-mul}
use native.Mathlib.Omega.{arith}
use lib.Dec.{eqb, leb}
use borrow.Author.Tests.{leb-true, eqb-true, lt-ltb, le-leb, lt-leb}
use Rattle.refusal.specs.Outcome.{Outcome}
use Rattle.sheet.specs.Words.{word, count, kind}
use Rattle.sheet.specs.Sheet.{kind_word}
use Rattle.sheet.specs.Read.{Standing, at_open, at_beam, among, at_surface, ended, may, after, raws, floats_after, graded}
use Rattle.sheet.specs.Internal.{stands_whole, or_none, run_of, most_of, most_cauchy, fewer}
use Rattle.sheet.proofs.KindWords.{both}
use Rattle.sheet.proofs.Scan.{left, tally, onward, Counts}

module _ (w size : ℕ) where
  -- ---- one of them
  module _ (src : List ℕ) (at : ℕ) where
    pub no_room : count src < at + size → false ≡ stands_whole w size src at
    unfolding stands_whole
    no_room lt = rw (lt-leb (at + size) (count src) lt) refl

    pub room : at + size ≤ count src → (v : ℕ) → v ≡ word src at → eqb v w ≡ stands_whole w size src at
    unfolding stands_whole
    room le v e = rw (le-leb (at + size) (count src) le, e) refl

    pub whole : stands_whole w size src at ≡ true → (at + size ≤ count src) × (word src at ≡ w)
    unfolding stands_whole
    whole e =
        let h = both (leb (at + size) (count src)) (eqb (word src at) w) e in
        (leb-true (at + size) (count src) h.0, eqb-true (word src at) w h.1)

  -- ---- all of them
  none : (at : ℕ) → at + size * 0 ≡ at
  none at = ap (λ (k : ℕ). at + k) (mul-zero size) ∙ add-zero at

  further : (at k : ℕ) → at + size + size * k ≡ at + size * suc k
  further at k = omega (arith, suc-mul k size, mul_comm size k, mul_comm size (suc k))

  -- they are no more than may come, and stand before the end
  few : (most : ℕ) (src : List ℕ) (at : ℕ) → at ≤ count src → (run_of w size most src at ≤ most) × (at + size * run_of w size most src at ≤ count src)
  unfolding run_of
  few zero src at le = (omega arith, omega (arith, none at, le))
  few (suc most) src at le = by (stands_whole w size src at) refl (λ e. few most src (at + size) (whole src at e).0)
    where
      by : (t : Bool) → stands_whole w size src at ≡ t
          → (stands_whole w size src at ≡ true → (run_of w size most src (at + size) ≤ most) × (at + size + size * run_of w size most src (at + size) ≤ count src))
          → (or_none t (suc (run_of w size most src (at + size))) ≤ suc most) × (at + size * or_none t (suc (run_of w size most src (at + size))) ≤ count src)
      by true e f = let h = f e in (omega (arith, h.0), omega (arith, h.1, further at (run_of w size most src (at + size))))
      by false e f = (omega arith, omega (arith, none at, le))

  -- where such blocks may come as layers, what is left after them tallies as before them
  module _ (src : List ℕ) (n : ℕ) (o : Outcome ℕ) (edition done : ℕ) (come : (most : ℕ) → may (among edition done (suc most)) w ≡ true)
      (goes : (most : ℕ) → after (among edition done (suc most)) w ≡ among edition done (suc most - 1)) (other : eqb (kind w) 3 ≡ false) (words : raws w + 1 ≡ size) where
    abbrev Tallies : ℕ → ℕ → Type 0
    Tallies most at = graded (tally n (left src (among edition done most) at)) ≡ o

    one_on : (most at : ℕ) → stands_whole w size src at ≡ true → Tallies (suc most) at → Tallies most (at + size)
    one_on most at e inv =
        let h = whole src at e in
        let less : suc most - 1 ≡ most = omega arith in
        let step = onward src (among edition done (suc most)) at w (omega (arith, h.0, words)) (sym h.1) n (come most) (omega (arith, h.0, words)) in
        sym (ap graded (rw (other, goes most, words, less) at step)) ∙ inv

    runs_on : (most at : ℕ) → Tallies most at → Tallies (most - run_of w size most src at) (at + size * run_of w size most src at)
    unfolding run_of
    runs_on zero at inv = rw (none at) inv
    runs_on (suc most) at inv = by (stands_whole w size src at) refl (λ e. runs_on most (at + size) (one_on most at e inv))
      where
        all_left : (m : ℕ) → suc m - 0 ≡ suc m
        all_left m = omega arith

        fewer_one : (m k : ℕ) → suc m - suc k ≡ m - k
        fewer_one m k = omega arith

        by : (t : Bool) → stands_whole w size src at ≡ t
            → (stands_whole w size src at ≡ true → Tallies (most - run_of w size most src (at + size)) (at + size + size * run_of w size most src (at + size)))
            → Tallies (suc most - or_none t (suc (run_of w size most src (at + size)))) (at + size * or_none t (suc (run_of w size most src (at + size))))
        by true e f = rw (← further at (run_of w size most src (at + size)), fewer_one most (run_of w size most src (at + size))) (f e)
        by false e f = rw (none at, all_left most) inv

counts_same : (k n : ℕ) (s : Standing) → Counts s n → Counts (fewer k s) n
counts_same k n at_open c = c
counts_same k n (at_beam edition) c = c
counts_same k n (among edition done most) c = c
counts_same k n (at_surface edition done) c = c
counts_same k n ended c = c

-- ---- along the grammar's loop: k of them from a place on, of so many that may come
pub record Passes (w size : ℕ) (cap : Standing → ℕ) : Type 0 where
  pub under : (s : Standing) → cap s ≤ most_of s
  pub on : (src : List ℕ) (n : ℕ) (o : Outcome ℕ) (s : Standing) (at : ℕ) → graded (tally n (left src s at)) ≡ o
      → graded (tally n (left src (fewer (run_of w size (cap s) src at) s) (at + size * run_of w size (cap s) src at))) ≡ o

module _ (w size : ℕ) (cap : Standing → ℕ) (p : Passes w size cap) (src : List ℕ) (at : ℕ) (le : at ≤ count src) (s : Standing) (most : ℕ) (most-is : most ≡ cap s) (k : ℕ) (k_is : k ≡ run_of w size most src at) where
  all_of : k ≡ run_of w size (cap s) src at
  all_of = k_is ∙ ap (λ (m : ℕ). run_of w size m src at) most-is

  pub enough : k ≤ most_of s
  enough = omega (arith, all_of, (few w size (cap s) src at le).0, p.under s)

  pub inside : at + size * k ≤ count src
  inside = rw all_of (few w size (cap s) src at le).1

  module _ (t : Standing) (t_is : t ≡ fewer k s) (n : ℕ) where
    pub counts_still : Counts s n → Counts t n
    counts_still c = rw t_is (counts_same k n s c)

    pub tallies_still : (o : Outcome ℕ) → graded (tally n (left src s at)) ≡ o → graded (tally n (left src t (at + size * k))) ≡ o
    tallies_still o inv = rw (t_is, all_of) (p.on src n o s at inv)

-- LAYERs
module _ where
  layer_comes : (edition done most : ℕ) → may (among edition done (suc most)) (kind_word 4 0) ≡ true
  unfolding may
  layer_comes edition done most = rw (lt-ltb 0 (suc most) (omega arith)) refl

  layer_goes : (edition done most : ℕ) → after (among edition done (suc most)) (kind_word 4 0) ≡ among edition done (suc most - 1)
  unfolding after
  layer_goes edition done most = refl

  seven : raws (kind_word 4 0) + 1 ≡ 7
  unfolding raws floats_after
  seven = refl

  over_layers : (src : List ℕ) (n : ℕ) (o : Outcome ℕ) (s : Standing) (at : ℕ) → graded (tally n (left src s at)) ≡ o
      → graded (tally n (left src (fewer (run_of (kind_word 4 0) 7 (most_of s) src at) s) (at + 7 * run_of (kind_word 4 0) 7 (most_of s) src at))) ≡ o
  unfolding run_of
  over_layers src n o at_open at inv = rw (add-zero at) inv
  over_layers src n o (at_beam edition) at inv = rw (add-zero at) inv
  over_layers src n o (among edition done most) at inv = runs_on (kind_word 4 0) 7 src n o edition done (layer_comes edition done) (layer_goes edition done) refl seven most at inv
  over_layers src n o (at_surface edition done) at inv = rw (add-zero at) inv
  over_layers src n o ended at inv = rw (add-zero at) inv

pub layers : Passes (kind_word 4 0) 7 most_of
layers = record { under = λ s. omega arith; on = over_layers }

-- kinds 6
module _ where
  fewer_cauchy : (s : Standing) → most_cauchy s ≤ most_of s
  fewer_cauchy at_open = omega arith
  fewer_cauchy (at_beam edition) = omega arith
  fewer_cauchy (among edition done most) = by (eqb edition 2)
    where
      by : (t : Bool) → cond t most 0 ≤ most
      by true = omega arith
      by false = omega arith
  fewer_cauchy (at_surface edition done) = omega arith
  fewer_cauchy ended = omega arith

  cauchy_comes : (done most : ℕ) → may (among 2 done (suc most)) (kind_word 6 0) ≡ true
  unfolding may
  cauchy_comes done most = rw (lt-ltb 0 (suc most) (omega arith)) refl

  cauchy_goes : (done most : ℕ) → after (among 2 done (suc most)) (kind_word 6 0) ≡ among 2 done (suc most - 1)
  unfolding after
  cauchy_goes done most = refl

  nine : raws (kind_word 6 0) + 1 ≡ 9
  unfolding raws floats_after
  nine = refl

  over_cauchies : (src : List ℕ) (n : ℕ) (o : Outcome ℕ) (s : Standing) (at : ℕ) → graded (tally n (left src s at)) ≡ o
      → graded (tally n (left src (fewer (run_of (kind_word 6 0) 9 (most_cauchy s) src at) s) (at + 9 * run_of (kind_word 6 0) 9 (most_cauchy s) src at))) ≡ o
  unfolding run_of
  over_cauchies src n o at_open at inv = rw (add-zero at) inv
  over_cauchies src n o (at_beam edition) at inv = rw (add-zero at) inv
  over_cauchies src n o (among edition done most) at inv = by (eqb edition 2) refl
    where
      After : ℕ → ℕ → Type 0
      After e k = graded (tally n (left src (among e done (most - k)) (at + 9 * k))) ≡ o

      all_left : (m : ℕ) → m - 0 ≡ m
      all_left m = omega arith

      by : (t : Bool) → eqb edition 2 ≡ t → After edition (run_of (kind_word 6 0) 9 (cond t most 0) src at)
      by true e =
          let two : 2 ≡ edition = sym (eqb-true edition 2 e) in
          subst (λ (k : ℕ). After k (run_of (kind_word 6 0) 9 most src at)) two
          (runs_on (kind_word 6 0) 9 src n o 2 done (cauchy_comes done) (cauchy_goes done) refl nine most at (subst (λ (k : ℕ). graded (tally n (left src (among k done most) at)) ≡ o) (sym two) inv))
      by false e = rw (add-zero at, all_left most) inv
  over_cauchies src n o (at_surface edition done) at inv = rw (add-zero at) inv
  over_cauchies src n o ended at inv = rw (add-zero at) inv

pub cauchies : Passes (kind_word 6 0) 9 most_cauchy
cauchies = record { under = fewer_cauchy; on = over_cauchies }
