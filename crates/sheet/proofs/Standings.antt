-- The code's standings, and what may come in them. Assumes nothing.
use mathlib.Core.Path.{◌≡◌, refl, sym, ◌∙◌, subst}
use mathlib.Core.Bool.{Bool, true, false, not, ◌||◌, cond}
use mathlib.Core.List.{List}
use Prim.Native.Nat.{ℕ, zero, suc, ◌+◌, ◌-◌, ◌≤◌, ◌<◌}
use native.Mathlib.Numerals.{add-one}
use native.Mathlib.Omega.{arith}
use lib.Dec.{eqb}
use borrow.Author.Tests.{ne_eqb, lt-ltb, not-true, not-false}
use Rattle.sheet.specs.Words.{word, count, kind, payload}
use Rattle.sheet.specs.Read as Read
use Rattle.sheet.specs.Read.{floats_after, raws, among, at_surface, layers_after, layer_kind, is_surface, is_layer, is_tuning, is_end, may, after}
use Rattle.sheet.proofs.KindWords.{Comes, comes_surface, comes_layer, comes_cauchy, comes_tuning, comes_end, comes, surface_facts, after_surface, after_tuning, after_end}
use Rattle.sheet.specs.Internal.{standing_of, place_after, next_place, layer_follows, or_none, layer_run}
use Rattle.sheet.specs.declared.Standing.{Standing}
use Rattle.sheet.specs.declared.Standing.TheVariants as S

-- ---- floats
pub floats_few : (k : ℕ) → floats_after k ≤ 4
unfolding floats_after
floats_few k = by (eqb k 2 || (eqb k 3 || eqb k 4)) (eqb k 6) (eqb k 7)
  where
    by : (t u v : Bool) → cond t 3 (cond u 4 (cond v 1 0)) ≤ 4
    by true u v = omega arith
    by false true v = omega arith
    by false false true = omega arith
    by false false false = omega arith

-- ---- layers in a run
pub run_most : (most : ℕ) (src : List ℕ) (at : ℕ) → layer_run most src at ≤ most
unfolding layer_run
run_most zero src at = omega arith
run_most (suc most) src at = go (layer_follows src at) (run_most most src (next_place src at))
  where
    go : (b : Bool) → layer_run most src (next_place src at) ≤ most → or_none b (suc (layer_run most src (next_place src at))) ≤ suc most
    go true h = omega arith
    go false h = omega arith

-- ---- the place after a block, by its kind
pub after_kind : (src : List ℕ) (at k : ℕ) → at < count src → k ≡ kind (word src at) → (q : ℕ) → q ≡ place_after at k → q ≡ next_place src at
unfolding next_place raws
after_kind src at k lt e q h = rw (lt-ltb at (count src) lt, ← e) h

-- ---- a layer
module _ (edition most w : ℕ) (t : Bool) (e : t ≡ layer_kind edition (kind w)) where
  pub other_kind : not t ≡ true → false ≡ is_layer edition most w
  other_kind f = simp (sym e ∙ not-true t f)

  pub no_more : not t ≡ false → most ≡ 0 → false ≡ is_layer edition most w
  no_more f r = simp (sym e ∙ not-false t f, r)

  pub one_more : not t ≡ false → (most ≡ 0 → ⊥) → eqb (payload w) 0 ≡ is_layer edition most w
  one_more f r = simp (sym e ∙ not-false t f, lt-ltb 0 most (positive most r))
    where
      positive : (n : ℕ) → (n ≡ 0 → ⊥) → 0 < n
      positive n h = let g : ¬ (n ≡ 0) = h in omega arith

-- ---- what may come
module _ (s : Standing) (w : ℕ) where
  pub open_one : s ≡ S.AtOpen → w ≡ 268435457 → true ≡ may (standing_of s) w
  unfolding may
  open_one q e = simp (q, e)

  pub open_two : s ≡ S.AtOpen → (w ≡ 268435457 → ⊥) → eqb w 268435458 ≡ may (standing_of s) w
  unfolding may
  open_two q n = simp (q, ne_eqb w 268435457 n)

  pub beam : (edition : ℕ) → s ≡ S.AtBeam edition → eqb w 536870912 ≡ may (standing_of s) w
  unfolding may
  beam edition q = simp q

  module _ (edition done most : ℕ) (q : s ≡ S.Among edition done most) where
    pub may_one : is_surface done w ≡ true → true ≡ may (standing_of s) w
    unfolding may
    may_one e = simp (q, e)

    pub may_two : is_surface done w ≡ false → is_layer edition most w ≡ true → true ≡ may (standing_of s) w
    unfolding may
    may_two a e = simp (q, a, e)

    pub may_three : is_surface done w ≡ false → is_layer edition most w ≡ false → is_tuning edition done w ≡ true → true ≡ may (standing_of s) w
    unfolding may
    may_three a b e = simp (q, a, b, e)

    pub may_four : is_surface done w ≡ false → is_layer edition most w ≡ false → is_tuning edition done w ≡ false → is_end done w ≡ may (standing_of s) w
    unfolding may
    may_four a b c = simp (q, a, b, c)

  pub may_onto : (edition done : ℕ) → s ≡ S.AtSurface edition done → is_surface done w ≡ may (standing_of s) w
  unfolding may
  may_onto edition done q = simp q

  pub may_none : s ≡ S.Ended → false ≡ may (standing_of s) w
  unfolding may
  may_none q = simp q

-- ---- where one stands after it
module _ (s : Standing) (w : ℕ) where
  pub after_open : s ≡ S.AtOpen → Read.at_beam (payload w) ≡ after (standing_of s) w
  unfolding after
  after_open q = simp q

  pub after_beam : (edition : ℕ) → s ≡ S.AtBeam edition → among edition 0 0 ≡ after (standing_of s) w
  unfolding after
  after_beam edition q = simp q

  module _ (edition done most : ℕ) (q : s ≡ S.Among edition done most) where
    abbrev Case : Type 0
    Case = Comes edition done most w

    case : may (standing_of s) w ≡ true → Case
    case e = comes edition done most w (subst (λ (z : Standing). may (standing_of z) w ≡ true) q e)

    pub under_64 : may (standing_of s) w ≡ true → kind w ≡ 3 → done < 64
    under_64 e k = by (case e)
      where
        by : Case → done < 64
        by (comes_surface k' d p) = d
        by (comes_layer k' r p) = absurd (omega arith)
        by (comes_cauchy e k' r p) = absurd (omega arith)
        by (comes_tuning e k' d p) = d
        by (comes_end k' p) = absurd (omega arith)

    pub one_may : may (standing_of s) w ≡ true → (kind w ≡ 3 → ⊥) → (kind w ≡ 7 → ⊥) → (kind w ≡ 5 → ⊥) → 1 ≤ most
    one_may e a b c = by (case e)
      where
        by : Case → 1 ≤ most
        by (comes_surface k d p) = absurd (a k)
        by (comes_layer k r p) = r
        by (comes_cauchy e k r p) = r
        by (comes_tuning e k d p) = absurd (b k)
        by (comes_end k p) = absurd (c k)

    pub after_three : (n : ℕ) → n ≡ layers_after (payload w) → kind w ≡ 3 → among edition (done + 1) n ≡ after (standing_of s) w
    after_three n e k = rw (q, after_surface edition done most w k, e, add-one done) refl

    pub after_seven : kind w ≡ 7 → at_surface edition done ≡ after (standing_of s) w
    after_seven k = rw (q, after_tuning edition done most w k) refl

    pub after_five : kind w ≡ 5 → Read.ended ≡ after (standing_of s) w
    after_five k = rw (q, after_end edition done most w k) refl

    pub after_other : (kind w ≡ 3 → ⊥) → (kind w ≡ 7 → ⊥) → (kind w ≡ 5 → ⊥) → among edition done (most - 1) ≡ after (standing_of s) w
    unfolding after
    after_other a b c = simp (q, ne_eqb (kind w) 3 a, ne_eqb (kind w) 7 b, ne_eqb (kind w) 5 c)

  module _ (edition done : ℕ) (q : s ≡ S.AtSurface edition done) where
    pub onto_64 : may (standing_of s) w ≡ true → done < 64
    unfolding may
    onto_64 e = (surface_facts done w (subst (λ (z : Standing). may (standing_of z) w ≡ true) q e)).1.0

    pub after_onto : (n : ℕ) → n ≡ layers_after (payload w) → among edition (done + 1) n ≡ after (standing_of s) w
    unfolding after
    after_onto n e = rw (q, e, add-one done) refl

  pub after_ended : s ≡ S.Ended → Read.ended ≡ after (standing_of s) w
  unfolding after
  after_ended q = simp q
