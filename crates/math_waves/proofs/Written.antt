-- The first places of a list that a loop writes one after the other. Assumes nothing.
use mathlib.Core.Path.{◌≡◌, refl, sym, ap, ap₂, ◌∙◌}
use mathlib.Core.Bool.{Bool, true, false, not}
use Prim.Native.Nat.{ℕ, zero, suc, ◌+◌, ◌≤◌, ◌<◌}
use native.Mathlib.Nat.{not-suc-le-zero, le_of_suc-le-suc, le_trans, le_of_eq}
use native.Mathlib.Numerals.{add-one}
use native.Mathlib.Omega.{arith}
use mathlib.Core.List.{List, [], ◌∷◌}
use lib.Dec.{T, ltb, ltb→lt, nltb→le}
use lib.ListN.{length, get_or, set, length-set}
use lib.Seq.{get_or-set_same, get_or-set_other, set-set, set_comm}
use lib.Ieee.{Float}
use Rattle.math_waves.specs.Waves.{written}

module _ (f : ℕ → Float) where
  pub written_none : (l : List Float) → l ≡ written f 0 l
  unfolding written
  written_none l = refl

  -- one place more
  pub written_more : (l l₀ : List Float) (i : ℕ) (x : Float) → l ≡ written f i l₀ → x ≡ f i → set l i x ≡ written f (i + 1) l₀
  unfolding written
  written_more l l₀ i x is e = ap₂ (λ (m : List Float) (y : Float). set m i y) is e ∙ ap (λ (k : ℕ). written f k l₀) (sym (add-one i))

  pub written_all : (l l₀ : List Float) (i n : ℕ) → i ≡ n → l ≡ written f i l₀ → l ≡ written f n l₀
  written_all l l₀ i n e is = is ∙ ap (λ (k : ℕ). written f k l₀) e

  pub length_written : (n : ℕ) (l : List Float) → length (written f n l) ≡ length l
  unfolding written
  length_written zero l = refl
  length_written (suc n) l = length-set (written f n l) n (f n) ∙ length_written n l

  -- what stands at a place
  pub nth_within : (n : ℕ) (l : List Float) (k : ℕ) (d : Float) → k < n → k < length l → get_or (written f n l) k d ≡ f k
  unfolding written
  nth_within zero l k d h g = absurd (not-suc-le-zero h)
  nth_within (suc n) l k d h g = go (ltb k n) (ltb→lt k n) (nltb→le k n) (λ b. nth_within n l k d b g)
    where
      go : (b : Bool) → (T b → k < n) → (T (not b) → n ≤ k) → (k < n → get_or (written f n l) k d ≡ f k) → get_or (set (written f n l) n (f n)) k d ≡ f k
      go true x y before = get_or-set_other (written f n l) n k (f n) d (λ e. omega (arith, x tt, e)) ∙ before (x tt)
      go false x y before =
          let e : k ≡ n = omega (arith, h, y tt) in
          ap (λ (j : ℕ). get_or (set (written f n l) n (f n)) j d) e ∙ get_or-set_same (written f n l) n (f n) d (omega (arith, g, e, length_written n l)) ∙ ap f (sym e)

  pub nth_written : (n : ℕ) (l : List Float) (k : ℕ) (d : Float) → k < n → n ≤ length l → get_or (written f n l) k d ≡ f k
  nth_written n l k d h g = nth_within n l k d h (omega (arith, h, g))

  -- and past those that are written
  pub nth_unwritten : (n : ℕ) (l : List Float) (k : ℕ) (d : Float) → n ≤ k → get_or (written f n l) k d ≡ get_or l k d
  unfolding written
  nth_unwritten zero l k d h = refl
  nth_unwritten (suc n) l k d h = get_or-set_other (written f n l) n k (f n) d (λ e. omega (arith, h, e)) ∙ nth_unwritten n l k d (omega (arith, h))

  -- a place past those that are written can be written before
  past : (n m : ℕ) (l : List Float) (v : Float) → n ≤ m → written f n (set l m v) ≡ set (written f n l) m v
  unfolding written
  past zero m l v h = refl
  past (suc n) m l v h = ap (λ (k : List Float). set k n (f n)) (past n m l v (omega (arith, h))) ∙ set_comm (written f n l) m n v (f n) (λ e. omega (arith, h, e))

  -- what is written over is not seen
  pub written_over : (g : ℕ → Float) (n : ℕ) (l : List Float) → written f n (written g n l) ≡ written f n l
  unfolding written
  written_over g zero l = refl
  written_over g (suc n) l =
      ap (λ (k : List Float). set k n (f n)) (past n n (written g n l) (g n) (omega arith))
      ∙ set-set (written f n (written g n l)) n (g n) (f n)
      ∙ ap (λ (k : List Float). set k n (f n)) (written_over g n l)

-- a place past the end is none
past_end : (l : List Float) (n : ℕ) (x : Float) → length l ≤ n → set l n x ≡ l
past_end [] n x h = refl
past_end (y ∷ l) zero x h = absurd (not-suc-le-zero h)
past_end (y ∷ l) (suc n) x h = ap (λ (m : List Float). y ∷ m) (past_end l n x (le_of_suc-le-suc h))

-- places that hold the same
pub same_within : (f g : ℕ → Float) (n : ℕ) (l : List Float) → ((k : ℕ) → k < n → k < length l → f k ≡ g k) → written f n l ≡ written g n l
unfolding written
same_within f g zero l h = refl
same_within f g (suc n) l h = go (ltb n (length l)) (ltb→lt n (length l)) (nltb→le n (length l)) (same_within f g n l (λ k b c. h k (omega (arith, b)) c))
  where
    go : (b : Bool) → (T b → n < length l) → (T (not b) → length l ≤ n) → written f n l ≡ written g n l → set (written f n l) n (f n) ≡ set (written g n l) n (g n)
    go true x y e = ap₂ (λ (m : List Float) (v : Float). set m n v) e (h n (omega arith) (x tt))
    go false x y e =
        past_end (written f n l) n (f n) (le_trans (le_of_eq (length_written f n l)) (y tt))
        ∙ e
        ∙ sym (past_end (written g n l) n (g n) (le_trans (le_of_eq (length_written g n l)) (y tt)))

pub same_written : (f g : ℕ → Float) (n : ℕ) (l : List Float) → ((k : ℕ) → k < n → f k ≡ g k) → written f n l ≡ written g n l
same_written f g n l h = same_within f g n l (λ k b c. h k b)
