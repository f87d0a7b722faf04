-- A list that is stored, element by element, in the first places of one that repeats a value. Assumes nothing.
use mathlib.Core.Path.{◌≡◌, sym, ◌∙◌, ap}
use Prim.Native.Nat.{ℕ, ◌+◌, ◌-◌, ◌<◌, ◌≤◌}
use native.Mathlib.Nat.{zero-add, add-sub_of_le}
use native.Mathlib.Numerals.{add-one}
use mathlib.Core.List.{List, ◌++◌}
use lib.ListN.{length, get_or, take, drop, set, replicate, length-replicate, replicate-append-replicate}
use lib.Seq.{paste, paste-suc, take-length, drop_at}

module _ {A : Type 0} where
  -- one more is stored
  pub stored : (d l : List A) (i : ℕ) (z : A) → i < length d → i < length l → set (paste d 0 l i) i (get_or l i z) ≡ paste d 0 l (i + 1)
  stored d l i z h k = ap (λ (m : ℕ). set (paste d 0 l i) m (get_or l i z)) (sym (zero-add i)) ∙ paste-suc d 0 l i z (rw zero-add h) k ∙ ap (paste d 0 l) (sym (add-one i))

  drop_replicate : (n m : ℕ) (a : A) → m ≤ n → drop m (replicate n a) ≡ replicate (n - m) a
  drop_replicate n m a h =
      ap (λ (k : ℕ). drop m (replicate k a)) (sym (add-sub_of_le h)) ∙ ap (drop m) (sym (replicate-append-replicate m (n - m) a)) ∙ drop_at (replicate m a) (replicate (n - m) a) m (length-replicate m a)

  -- all is stored
  pub all_stored : (l : List A) (n i : ℕ) (a : A) → i ≡ length l → i ≤ n → paste (replicate n a) 0 l i ≡ l ++ replicate (n - length l) a
  all_stored l n i a e h =
      ap (λ (k : ℕ). take i l ++ drop k (replicate n a)) (zero-add i) ∙ ap (λ (r : List A). take i l ++ r) (drop_replicate n i a h)
      ∙ ap (λ (k : ℕ). take k l ++ replicate (n - k) a) e ∙ ap (λ (r : List A). r ++ replicate (n - length l) a) (take-length l)
