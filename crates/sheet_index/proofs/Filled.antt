-- Places of a list that a loop stores one after the other. Assumes nothing.
use mathlib.Core.Path.{◌≡◌, refl, sym, ap, ap₂, ◌∙◌}
use mathlib.Core.Bool.{Bool, true, false, not}
use Prim.Native.Nat.{ℕ, zero, suc, ◌+◌, ◌≤◌, ◌<◌}
use native.Mathlib.Nat.{not-suc-le-zero}
use native.Mathlib.Numerals.{add-one}
use native.Mathlib.Omega.{arith}
use mathlib.Core.List.{List}
use lib.Dec.{T, ltb, ltb→lt, nltb→le}
use lib.ListN.{length, get_or, set, length-set}
use lib.Seq.{get_or-set_same, get_or-set_other}
use lib.Ieee.{Float, nan}
use Rattle.sheet.specs.Internal.{begin}
use Rattle.sheet_index.specs.Index.{filled, layers_of, sine_of, cosine_of}
use Rattle.sheet_index.specs.Internal.{stored, Indexed}

module _ {A : Type 0} (f : ℕ → A) where
  pub filled_none : (l : List A) → l ≡ filled f 0 l
  unfolding filled
  filled_none l = refl

  pub filled_more : (l l₀ : List A) (i : ℕ) (x : A) → l ≡ filled f i l₀ → x ≡ f i → set l i x ≡ filled f (i + 1) l₀
  unfolding filled
  filled_more l l₀ i x is e = ap₂ (λ (m : List A) (y : A). set m i y) is e ∙ ap (λ (k : ℕ). filled f k l₀) (sym (add-one i))

  pub filled_all : (l l₀ : List A) (i n : ℕ) → i ≡ n → l ≡ filled f i l₀ → l ≡ filled f n l₀
  filled_all l l₀ i n e is = is ∙ ap (λ (k : ℕ). filled f k l₀) e

  pub length_filled : (n : ℕ) (l : List A) → length (filled f n l) ≡ length l
  unfolding filled
  length_filled zero l = refl
  length_filled (suc n) l = length-set (filled f n l) n (f n) ∙ length_filled n l

  -- what stands at a place
  pub nth_filled : (n : ℕ) (l : List A) (k : ℕ) (d : A) → k < n → n ≤ length l → get_or (filled f n l) k d ≡ f k
  unfolding filled
  nth_filled zero l k d h g = absurd (not-suc-le-zero h)
  nth_filled (suc n) l k d h g = go (ltb k n) (ltb→lt k n) (nltb→le k n) (λ b. nth_filled n l k d b (omega (arith, g)))
    where
      go : (b : Bool) → (T b → k < n) → (T (not b) → n ≤ k) → (k < n → get_or (filled f n l) k d ≡ f k) → get_or (set (filled f n l) n (f n)) k d ≡ f k
      go true x y before = get_or-set_other (filled f n l) n k (f n) d (λ e. omega (arith, x tt, e)) ∙ before (x tt)
      go false x y before =
          let e : k ≡ n = omega (arith, h, y tt) in
          ap (λ (j : ℕ). get_or (set (filled f n l) n (f n)) j d) e ∙ get_or-set_same (filled f n l) n (f n) d (omega (arith, g, e, length_filled n l)) ∙ ap f (sym e)

  -- from a place on
  pub stored_none : (i : ℕ) (l : List A) → l ≡ stored f i 0 l
  unfolding stored
  stored_none i l = refl

  pub stored_more : (l l₀ : List A) (i k : ℕ) (x : A) → l ≡ stored f i k l₀ → x ≡ f (i + k) → set l (i + k) x ≡ stored f i (k + 1) l₀
  unfolding stored
  stored_more l l₀ i k x is e = ap₂ (λ (m : List A) (y : A). set m (i + k) y) is e ∙ ap (λ (j : ℕ). stored f i j l₀) (sym (add-one k))

  pub stored_all : (l l₀ : List A) (i k n : ℕ) → k ≡ n → l ≡ stored f i k l₀ → l ≡ stored f i n l₀
  stored_all l l₀ i k n e is = is ∙ ap (λ (j : ℕ). stored f i j l₀) e

  -- after those before it
  joined : (i n : ℕ) (l : List A) → stored f i n (filled f i l) ≡ filled f (i + n) l
  unfolding stored filled
  joined i zero l = ap (λ (k : ℕ). filled f k l) (none i)
    where
      none : (i : ℕ) → i ≡ i + 0
      none i = omega arith
  joined i (suc n) l = ap (λ (m : List A). set m (i + n) (f (i + n))) (joined i n l) ∙ ap (λ (k : ℕ). filled f k l) (up i n)
    where
      up : (i n : ℕ) → suc (i + n) ≡ i + suc n
      up i n = omega arith

  pub filled_on : (l m l₀ : List A) (i n : ℕ) → m ≡ stored f i n l → l ≡ filled f i l₀ → m ≡ filled f (i + n) l₀
  filled_on l m l₀ i n e is = e ∙ ap (stored f i n) is ∙ joined i n l₀

pub same_stored : {A : Type 0} (f g : ℕ → A) (i n : ℕ) (l : List A) → ((k : ℕ) → k < n → f (i + k) ≡ g (i + k)) → stored f i n l ≡ stored g i n l
unfolding stored
same_stored f g i zero l h = refl
same_stored {A} f g i (suc n) l h = ap₂ (λ (m : List A) (v : A). set m (i + n) v) (same_stored f g i n l (λ k b. h k (omega (arith, b)))) (h n (omega arith))

pub same_filled : {A : Type 0} (f g : ℕ → A) (n : ℕ) (l : List A) → ((k : ℕ) → k < n → f k ≡ g k) → filled f n l ≡ filled g n l
unfolding filled
same_filled f g zero l h = refl
same_filled {A} f g (suc n) l h = ap₂ (λ (m : List A) (v : A). set m n v) (same_filled f g n l (λ k b. h k (omega (arith, b)))) (h n (omega arith))

-- an index that was filled in is read back
module _ (src : List ℕ) (n : ℕ) (le : n ≤ 64) (b₀ c₀ : List ℕ) (s₀ t₀ : List Float) (lb : length b₀ ≡ 64) (lc : length c₀ ≡ 64) (ls : length s₀ ≡ 64) (lt : length t₀ ≡ 64) where
  back : {A : Type 0} (f : ℕ → A) (l l₀ : List A) (d : A) → l ≡ filled f n l₀ → length l₀ ≡ 64 → (i : ℕ) → i < n → get_or l i d ≡ f i
  back {A} f l l₀ d e q i h = ap (λ (z : List A). get_or z i d) e ∙ nth_filled f n l₀ i d h (omega (arith, q, le))

  pub indexed : (b c : List ℕ) (s t : List Float) → b ≡ filled (begin src) n b₀ → c ≡ filled (layers_of src) n c₀ → s ≡ filled (sine_of src) n s₀ → t ≡ filled (cosine_of src) n t₀ → Indexed src n b c s t
  indexed b c s t eb ec es et =
      record {
        few = le;
        begun = back (begin src) b b₀ 0 eb lb;
        counted = back (layers_of src) c c₀ 0 ec lc;
        sine = back (sine_of src) s s₀ nan es ls;
        cosine = back (cosine_of src) t t₀ nan et lt;
      }
