-- Numbers written one after the other from the front of a list on. Assumes nothing.
use mathlib.Core.Path.{◌≡◌, refl, sym, ap, ◌∙◌}
use mathlib.Core.List.{List, [], ◌++◌}
use Prim.Native.Nat.{ℕ, ◌+◌}
use native.Mathlib.Omega.{arith}
use lib.ListN.{length, take, drop, length-append}
use lib.Seq.{take_at, drop_at, drop-drop}
use lib.Ieee.{Float}

-- so many numbers stand at the front, and what comes after is as it was
pub record Front (before now xs : List Float) (at : ℕ) : Type 0 where
  pub count : length xs ≡ at
  pub is : now ≡ xs ++ drop at before

pub nothing : (before : List Float) → Front before before [] 0
nothing before = record { count = refl; is = refl }

module _ (before now xs : List Float) (at : ℕ) (f : Front before now xs at) (ys : List Float) (n : ℕ) (k : length ys ≡ n) where
  taken : take at now ≡ xs
  taken = ap (take at) f.is ∙ take_at xs (drop at before) at f.count

  left : drop (at + n) now ≡ drop (at + n) before
  left = sym (drop-drop n at now) ∙ ap (λ (z : List Float). drop n (drop at z)) f.is ∙ ap (drop n) (drop_at xs (drop at before) at f.count) ∙ drop-drop n at before

  pub more : (next : List Float) → next ≡ take at now ++ ys ++ drop (at + length ys) now → Front before next (xs ++ ys) (at + n)
  more next e = record {
    count = length-append xs ys ∙ omega (arith, f.count, k);
    is =
        e ∙ ap (λ (z : ℕ). take at now ++ ys ++ drop (at + z) now) k ∙ ap (λ (z : List Float). z ++ ys ++ drop (at + n) now) taken
        ∙ ap (λ (z : List Float). xs ++ ys ++ z) left;
  }
