-- Kind words and raw words: what a block is made of, and the floats that it holds. Which kind words may come in which standing. Assumes nothing.
use mathlib.Core.Path.{◌≡◌, refl, sym, ap, ◌∙◌}
use mathlib.Core.Bool.{Bool, true, false, ◌&&◌, ◌||◌}
use mathlib.Core.Logic.{◌⊎◌, inl, inr, ⊎_elim}
use mathlib.Core.List.{List, [], ◌∷◌}
use Prim.Native.Nat.{ℕ, suc, ◌+◌, ◌-◌, ◌*◌, ◌/◌, ◌%◌, ◌^◌, ◌≤◌, ◌<◌}
use native.Mathlib.Omega.{arith}
use lib.Dec.{eqb, ltb}
use lib.ListN.{length}
use borrow.Author.Tests.{eqb-true, ltb-true, leb-true, lt-ltb, le-leb, eq-eqb, ne_eqb}
use Rattle.sheet.specs.Words.{kind, payload}
use Rattle.sheet.specs.Blocks.{Block, All, Word, GoodBlock}
use Rattle.sheet.specs.Sheet.{Pattern, kind_word, raw_words, block}
use Rattle.sheet.specs.Read.{floats_after, raws, among, at_surface, ended, layers_after, layer_kind, is_surface, is_layer, is_tuning, is_end, may, after, sheet_grammar, numbers}

-- ---- floats and raw words
pub numbers_raw : (fs : List ℕ) → numbers (raw_words fs) ≡ fs
unfolding numbers raw_words
numbers_raw [] = refl
numbers_raw (x ∷ fs) = let e : x / 2 ^ 32 * 2 ^ 32 + x % 2 ^ 32 ≡ x = omega arith in let ih = numbers_raw fs in cc

pub raw_numbers : (n : ℕ) (raw : List ℕ) → All Word raw → length raw ≡ 2 * n → raw_words (numbers raw) ≡ raw
unfolding numbers raw_words
raw_numbers n [] h l = refl
raw_numbers n (a ∷ []) h l = absurd (omega arith)
raw_numbers n (a ∷ b ∷ raw) h l = cc ((halves a b h.1.0).0, (halves a b h.1.0).1, raw_numbers (n - 1) raw h.1.1 (omega arith))
  where
    halves : (a b : ℕ) → b < 2 ^ 32 → ((a * 2 ^ 32 + b) / 2 ^ 32 ≡ a) × ((a * 2 ^ 32 + b) % 2 ^ 32 ≡ b)
    halves a b lt = omega arith

pub raw_length : (fs : List ℕ) → length (raw_words fs) ≡ 2 * length fs
unfolding raw_words
raw_length [] = refl
raw_length (x ∷ fs) = let ih = raw_length fs in omega arith

pub raw_good : (fs : List ℕ) → All Pattern fs → All Word (raw_words fs)
unfolding raw_words
raw_good [] h = tt
raw_good (x ∷ fs) h = (omega (arith, h.0), (omega arith, raw_good fs h.1))

pub numbers_good : (raw : List ℕ) → All Word raw → All Pattern (numbers raw)
unfolding numbers
numbers_good [] h = tt
numbers_good (a ∷ []) h = tt
numbers_good (a ∷ b ∷ raw) h = (omega (arith, h.0, h.1.0), numbers_good raw h.1.1)

-- ---- blocks of a kind
pub kind_of : (k p : ℕ) → p < 2 ^ 28 → kind (kind_word k p) ≡ k
kind_of k p lt = omega arith

pub payload_of : (k p : ℕ) → p < 2 ^ 28 → payload (kind_word k p) ≡ p
payload_of k p lt = omega arith

pub made_good : (k p : ℕ) (fs : List ℕ) → k ≤ 15 → p < 2 ^ 28 → All Pattern fs → length fs ≡ floats_after k → GoodBlock sheet_grammar (block k p fs)
unfolding raws
made_good k p fs hk hp hf l = record { word = omega arith; raw = raw_good fs hf; size = raw_length fs ∙ ap (λ (n : ℕ). 2 * n) (l ∙ ap floats_after (sym (kind_of k p hp))) }

-- a good block of a kind is made of its payload and its floats
pub record Made (k : ℕ) (b : Block) : Type 0 where
  pub floats : List ℕ
  pub many : length floats ≡ floats_after k
  pub patterns : All Pattern floats
  pub is : b ≡ block k (payload b.word) floats

pub made_of : (b : Block) (k : ℕ) → GoodBlock sheet_grammar b → kind b.word ≡ k → Made k b
unfolding raws
made_of b k g e =
    let s : length b.raw ≡ 2 * floats_after k = g.size ∙ ap (λ (n : ℕ). 2 * floats_after n) e in
    let r : raw_words (numbers b.raw) ≡ b.raw = raw_numbers (floats_after k) b.raw g.raw s in
    let w : b.word ≡ kind_word k (payload b.word) = omega arith in
    record {
      floats = numbers b.raw;
      many = omega (arith, raw_length (numbers b.raw), ap length r);
      patterns = numbers_good b.raw g.raw;
      is = λ i. record { word = w i; raw = sym r i };
    }

-- ---- what may come
pub both : (a b : Bool) → (a && b) ≡ true → (a ≡ true) × (b ≡ true)
both true b e = (refl, e)
both false b e = absurd (let z : ◌≡◌ {A = ℕ} 0 1 = cc in omega arith)

pub either : (a b : Bool) → (a || b) ≡ true → (a ≡ true) ⊎ (b ≡ true)
either true b e = inl refl
either false b e = inr e

pub data Comes (edition done most w : ℕ) : Type 0 where
  comes_surface : kind w ≡ 3 → done < 64 → payload w ≤ 15 → Comes edition done most w
  comes_layer : kind w ≡ 4 → 0 < most → payload w ≡ 0 → Comes edition done most w
  comes_cauchy : edition ≡ 2 → kind w ≡ 6 → 0 < most → payload w ≡ 0 → Comes edition done most w
  comes_tuning : edition ≡ 2 → kind w ≡ 7 → done < 64 → payload w ≡ 0 → Comes edition done most w
  comes_end : kind w ≡ 5 → payload w ≡ done → Comes edition done most w

pub surface_facts : (done w : ℕ) → is_surface done w ≡ true → (kind w ≡ 3) × ((done < 64) × (payload w ≤ 15))
surface_facts done w e =
    let a = both (eqb (kind w) 3) _ e in
    let b = both (ltb done 64) _ a.1 in
    (eqb-true (kind w) 3 a.0, (ltb-true done 64 b.0, leb-true (payload w) 15 b.1))

module _ (edition done most w : ℕ) where
  layer_comes : is_layer edition most w ≡ true → Comes edition done most w
  layer_comes e =
      let a = both (layer_kind edition (kind w)) _ e in
      let b = both (ltb 0 most) _ a.1 in
      let r : 0 < most = ltb-true 0 most b.0 in
      let p : payload w ≡ 0 = eqb-true (payload w) 0 b.1 in
      ⊎_elim (λ k. comes_layer (eqb-true (kind w) 4 k) r p)
      (λ k. let c = both (eqb edition 2) _ k in comes_cauchy (eqb-true edition 2 c.0) (eqb-true (kind w) 6 c.1) r p)
      (either (eqb (kind w) 4) _ a.0)

  tuning_comes : is_tuning edition done w ≡ true → Comes edition done most w
  tuning_comes e =
      let a = both (eqb edition 2 && eqb (kind w) 7) _ e in
      let k = both (eqb edition 2) _ a.0 in
      let b = both (ltb done 64) _ a.1 in
      comes_tuning (eqb-true edition 2 k.0) (eqb-true (kind w) 7 k.1) (ltb-true done 64 b.0) (eqb-true (payload w) 0 b.1)

  end_comes : is_end done w ≡ true → Comes edition done most w
  end_comes e = let a = both (eqb (kind w) 5) _ e in comes_end (eqb-true (kind w) 5 a.0) (eqb-true (payload w) done a.1)

  pub comes : may (among edition done most) w ≡ true → Comes edition done most w
  unfolding may
  comes e =
      ⊎_elim (λ a. let f = surface_facts done w a in comes_surface f.0 f.1.0 f.1.1)
      (λ a. ⊎_elim layer_comes (λ b. ⊎_elim tuning_comes end_comes (either (is_tuning edition done w) _ b)) (either (is_layer edition most w) _ a))
      (either (is_surface done w) _ e)

  pub after_surface : kind w ≡ 3 → after (among edition done most) w ≡ among edition (suc done) (layers_after (payload w))
  unfolding after
  after_surface e = rw e

  -- after a layer of either kind
  pub after_layer : (k : ℕ) → kind w ≡ k → ¬ (k ≡ 3) → ¬ (k ≡ 7) → ¬ (k ≡ 5) → after (among edition done most) w ≡ among edition done (most - 1)
  unfolding after
  after_layer k e a b c = rw (e, ne_eqb k 3 a, ne_eqb k 7 b, ne_eqb k 5 c) refl

  pub after_tuning : kind w ≡ 7 → after (among edition done most) w ≡ at_surface edition done
  unfolding after
  after_tuning e = rw e

  pub after_end : kind w ≡ 5 → after (among edition done most) w ≡ ended
  unfolding after
  after_end e = rw e

  -- a SURFACE, from both standings in which one may come
  pub may_surface : kind w ≡ 3 → done < 64 → payload w ≤ 15 → (may (among edition done most) w ≡ true) × (may (at_surface edition done) w ≡ true)
  unfolding may
  may_surface k d p = let e = eq-eqb (kind w) 3 k in let f = lt-ltb done 64 d in let g = le-leb (payload w) 15 p in (rw (e, f, g), rw (e, f, g))

  pub may_end_word : kind w ≡ 5 → payload w ≡ done → may (among edition done most) w ≡ true
  unfolding may
  may_end_word k p = rw (k, eq-eqb (payload w) done p) (last (eqb edition 2))
    where
      last : (t : Bool) → ((t && false) && (ltb 0 most && eqb (payload w) 0) || ((t && false) && (ltb done 64 && eqb (payload w) 0) || true)) ≡ true
      last true = refl
      last false = refl
