-- Lists that agree in their first elements, and a list put in front of both; places of kind words. Assumes nothing.
use mathlib.Core.Path.{◌≡◌, refl}
use mathlib.Core.Logic.{⊎_elim}
use mathlib.Core.List.Memᴰ
use mathlib.Core.List.{List, [], ◌∷◌, ◌++◌, Memᴰ}
use Prim.Native.Nat.{ℕ, zero, suc, ◌+◌, ◌≤◌, ◌<◌}
use native.Mathlib.Omega.{arith}
use lib.ListN.{length, get_or, take, drop, replicate}
use Rattle.sheet.specs.Blocks.{Block, All, Word, starts}

abbrev pub Same : List ℕ → List ℕ → ℕ → Type 0
Same xs ys n = (i : ℕ) → i < n → get_or xs i 0 ≡ get_or ys i 0

pub front_same : (raw xs ys : List ℕ) (n : ℕ) → Same xs ys n → Same (raw ++ xs) (raw ++ ys) (length raw + n)
front_same [] xs ys n e i lt = e i (omega arith)
front_same (r ∷ raw) xs ys n e zero lt = refl
front_same (r ∷ raw) xs ys n e (suc i) lt = front_same raw xs ys n e i (omega arith)

pub back_same : (raw raw' xs ys : List ℕ) (n : ℕ) → length raw ≡ length raw' → Same (raw ++ xs) (raw' ++ ys) (length raw' + n) → Same xs ys n
back_same [] [] xs ys n l e i lt = e i (omega arith)
back_same [] (b ∷ raw') xs ys n l e i lt = absurd (omega arith)
back_same (a ∷ raw) [] xs ys n l e i lt = absurd (omega arith)
back_same (a ∷ raw) (b ∷ raw') xs ys n l e i lt = back_same raw raw' xs ys n (omega arith) (λ j le. e (suc j) (omega arith)) i lt

pub all_drop : (n : ℕ) (ws : List ℕ) → All Word ws → All Word (drop n ws)
all_drop zero ws h = h
all_drop (suc n) [] h = tt
all_drop (suc n) (w ∷ ws) h = all_drop n ws h.1

pub all_take : (n : ℕ) (ws : List ℕ) → All Word ws → All Word (take n ws)
all_take zero ws h = tt
all_take (suc n) [] h = tt
all_take (suc n) (w ∷ ws) h = (h.0, all_take n ws h.1)

pub all_append : (xs ys : List ℕ) → All Word xs → All Word ys → All Word (xs ++ ys)
all_append [] ys h k = k
all_append (x ∷ xs) ys h k = (h.0, all_append xs ys h.1 k)

pub zeros : (n : ℕ) → All Word (replicate n 0)
zeros zero = tt
zeros (suc n) = (omega arith, zeros n)

-- ---- the places of kind words
pub starts_from : (at q : ℕ) (bs : List Block) → Memᴰ q (starts at bs) → at ≤ q
unfolding starts
starts_from at q [] m = absurd (Memᴰ.not-nil m)
starts_from at q (b ∷ bs) m = ⊎_elim (λ e. omega arith) (λ t. let h = starts_from (at + suc (length b.raw)) q bs t in omega arith) (Memᴰ.cases_cons m)

pub starts_length : (at : ℕ) (bs : List Block) → length (starts at bs) ≡ length bs
unfolding starts
starts_length at [] = refl
starts_length at (b ∷ bs) = let h = starts_length (at + suc (length b.raw)) bs in omega arith
