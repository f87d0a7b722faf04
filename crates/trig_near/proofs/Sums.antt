-- The series run from its last term to its first is the sum of its terms, over whole numbers with a sign. Assumes nothing.
use mathlib.Core.Path.{◌≡◌, refl, sym, ap, ap₂, ◌∙◌, subst}
use mathlib.Core.List.{List, [], ◌∷◌}
use mathlib.Core.Bool.{Bool, true, false, not}
use Prim.Native.Nat.{ℕ, zero, suc, ◌+◌, ◌-◌, ◌*◌, ◌^◌, ◌≤◌, ◌<◌}
use native.Mathlib.Decide.{dec_le}
use native.Mathlib.Nat.{le_trans, le_of_eq, le_of_lt, lt_of_not-le, mul-one, one-mul, mul_comm, mul_assoc, mul_left_comm, mul-le-mul, pow-zero, pow-succ'}
use native.Mathlib.Omega.{arith}
use lib.IntN.{ℤ, pos, neg_ℤ, neg_ℤ-neg_ℤ, nat_abs, ◌+ℤ◌, ◌-ℤ◌, ◌*ℤ◌, pos-*ℤ-pos}
use lib.Ieee.{unlike}
use Rattle.whole_ring.proofs.Solver.{Ex, var, con, ◌:+◌, ◌:*◌, opp, identity}
use Rattle.whole_f64.specs.Whole.{signed}
use Rattle.whole_f64.proofs.Laws.{signed_mul, signed_sub, size_neg}
use Rattle.near_abs.specs.Off.{Within}
use Rattle.trig_near.specs.Sums.{odd, bottom, top}
use Rattle.trig_near.proofs.Runs.{run_top, run_bottom}

-- the run with a sign
unfoldable pub run : (ℕ → ℕ) → ℕ → ℕ → ℕ → ℤ → ℤ → ℤ
run D Z Y zero a b = a
run D Z Y (suc m) a b = run D Z Y m (pos (Y * D (suc m)) *ℤ b -ℤ pos Z *ℤ a) (pos (Y * D (suc m)) *ℤ b)

-- (-Z) ^ m
abbrev σ : ℕ → ℕ → ℤ
σ Z m = signed (odd m) (Z ^ m)

σ_suc : (Z m : ℕ) → σ Z (suc m) ≡ neg_ℤ (pos Z *ℤ σ Z m)
σ_suc Z m = ap (λ (n : ℕ). signed (not (odd m)) n) (pow-succ' Z m) ∙ flip (odd m) (Z * Z ^ m) ∙ ap neg_ℤ (sym (signed_mul false (odd m) Z (Z ^ m) ∙ like (odd m) (Z * Z ^ m)))
  where
    flip : (s : Bool) (n : ℕ) → signed (not s) n ≡ neg_ℤ (signed s n)
    flip true n = sym (neg_ℤ-neg_ℤ (pos n))
    flip false n = refl

    like : (s : Bool) (n : ℕ) → signed (unlike false s) n ≡ signed s n
    like true n = refl
    like false n = refl

pub run_is : (D : ℕ → ℕ) (Z Y m : ℕ) (a b : ℤ) → run D Z Y m a b ≡ top D Z Y m *ℤ b +ℤ (a -ℤ b) *ℤ σ Z m
unfolding run
run_is D Z Y zero a b = identity (var 0) (con (pos 1) :* var 1 :+ (var 0 :+ opp (var 1)) :* con (pos 1)) tt (a ∷ b ∷ []) ∙ ap (λ (n : ℕ). pos 1 *ℤ b +ℤ (a -ℤ b) *ℤ pos n) (sym (pow-zero Z))
run_is D Z Y (suc m) a b =
    let K = pos (Y * D (suc m)) in
    run_is D Z Y m (K *ℤ b -ℤ pos Z *ℤ a) (K *ℤ b)
    ∙ identity (var 0 :* (var 1 :* var 2) :+ ((var 1 :* var 2 :+ opp (var 3 :* var 4)) :+ opp (var 1 :* var 2)) :* var 5) ((var 0 :* var 1 :+ opp (var 3 :* var 5)) :* var 2 :+ (var 4 :+ opp (var 2)) :* opp (var 3 :* var 5)) tt (top D Z Y m ∷ K ∷ b ∷ pos Z ∷ a ∷ σ Z m ∷ [])
    ∙ ap (λ (s : ℤ). (top D Z Y m *ℤ K +ℤ s) *ℤ b +ℤ (a -ℤ b) *ℤ s) (sym (σ_suc Z m))

pub run_top_is : (D : ℕ → ℕ) (Z Y N : ℕ) → run D Z Y N (pos 1) (pos 1) ≡ top D Z Y N
run_top_is D Z Y N = run_is D Z Y N (pos 1) (pos 1) ∙ identity (var 0 :* con (pos 1) :+ (con (pos 1) :+ opp (con (pos 1))) :* var 1) (var 0) tt (top D Z Y N ∷ σ Z N ∷ [])

pub run_bottom_is : (D : ℕ → ℕ) (Y N B : ℕ) → run_bottom D Y N B ≡ bottom D Y N * B
unfolding run_bottom
run_bottom_is D Y zero B = sym (one-mul B)
run_bottom_is D Y (suc N) B = run_bottom_is D Y N (Y * D (suc N) * B) ∙ sym (mul_assoc (bottom D Y N) (Y * D (suc N)) B)

-- where no step goes below zero the two runs are one
pub run_same : (D : ℕ → ℕ) (Z Y m A B : ℕ) → ((k : ℕ) → Z ≤ Y * D (suc k)) → A ≤ B → run D Z Y m (pos A) (pos B) ≡ pos (run_top D Z Y m A B)
unfolding run run_top
run_same D Z Y zero A B h ab = refl
run_same D Z Y (suc m) A B h ab =
    let K = Y * D (suc m) in
    ap₂ (λ (a b : ℤ). run D Z Y m (b -ℤ a) b) (pos-*ℤ-pos Z A) (pos-*ℤ-pos K B)
    ∙ ap (λ (a : ℤ). run D Z Y m a (pos (K * B))) (signed_sub false (K * B) (Z * A) (mul-le-mul (h m) ab))
    ∙ run_same D Z Y m (K * B - Z * A) (K * B) h (sub-le (K * B) (Z * A))
  where
    sub-le : (a b : ℕ) → a - b ≤ a
    sub-le a b = omega arith

-- the last step by itself
pub run_last : (D : ℕ → ℕ) (Z Y m : ℕ) (a b : ℤ) (B : ℕ) → b ≡ pos B → run D Z Y (suc m) a b ≡ pos (Y * D 1) *ℤ pos (run_bottom (λ (k : ℕ). D (suc k)) Y m B) -ℤ pos Z *ℤ run (λ (k : ℕ). D (suc k)) Z Y m a b
unfolding run run_bottom
run_last D Z Y zero a b B e = ap (λ (x : ℤ). pos (Y * D 1) *ℤ x -ℤ pos Z *ℤ a) e
run_last D Z Y (suc m) a b B e =
    let K = Y * D (suc (suc m)) in
    run_last D Z Y m (pos K *ℤ b -ℤ pos Z *ℤ a) (pos K *ℤ b) (K * B) (ap (λ (x : ℤ). pos K *ℤ x) e ∙ pos-*ℤ-pos K B)

-- ---- sizes of differences
pub apart : (m n b : ℕ) → m ≤ n + b → n ≤ m + b → nat_abs (pos m -ℤ pos n) ≤ b
apart m n b h g = go (dec_le n m)
  where
    less : (m n b : ℕ) → m ≤ n + b → m - n ≤ b
    less m n b h = omega (arith, h)

    go : Dec (n ≤ m) → nat_abs (pos m -ℤ pos n) ≤ b
    go (yes l) = le_trans (le_of_eq (ap nat_abs (signed_sub false m n l))) (less m n b h)
    go (no l) =
        le_trans
        (le_of_eq (ap nat_abs (identity (var 0 :+ opp (var 1)) (opp (var 1 :+ opp (var 0))) tt (pos m ∷ pos n ∷ []) ∙ ap neg_ℤ (signed_sub false n m (le_of_lt (lt_of_not-le l)))) ∙ size_neg (pos (n - m))))
        (less n m b g)

pub bottom_last : (D : ℕ → ℕ) (Y m B : ℕ) → run_bottom D Y (suc m) B ≡ Y * D 1 * run_bottom (λ (k : ℕ). D (suc k)) Y m B
unfolding run_bottom
bottom_last D Y zero B = refl
bottom_last D Y (suc m) B = bottom_last D Y m (Y * D (suc (suc m)) * B)

pub run_most : (D : ℕ → ℕ) (Z Y m A B : ℕ) → A ≤ B → run_top D Z Y m A B ≤ run_bottom D Y m B
unfolding run_top run_bottom
run_most D Z Y zero A B h = h
run_most D Z Y (suc m) A B h = run_most D Z Y m (Y * D (suc m) * B - Z * A) (Y * D (suc m) * B) (sub-le (Y * D (suc m) * B) (Z * A))
  where
    sub-le : (a b : ℕ) → a - b ≤ a
    sub-le a b = omega arith

-- and back: two numbers whose difference is e at most
pub together : (m n e : ℕ) → nat_abs (pos m -ℤ pos n) ≤ e → Within e m n
together m n e h = go (dec_le n m)
  where
    up : (m n e : ℕ) → n ≤ m → m - n ≤ e → Within e m n
    up m n e l g = record { most = omega (arith, l, g); least = omega (arith, l) }

    down : (m n e : ℕ) → m ≤ n → n - m ≤ e → Within e m n
    down m n e l g = record { most = omega (arith, l); least = omega (arith, l, g) }

    go : Dec (n ≤ m) → Within e m n
    go (yes l) = up m n e l (le_trans (le_of_eq (sym (ap nat_abs (signed_sub false m n l)))) h)
    go (no l) =
        let k : m ≤ n = le_of_lt (lt_of_not-le l) in
        down m n e k
        (le_trans (le_of_eq (sym (ap nat_abs (identity (var 0 :+ opp (var 1)) (opp (var 1 :+ opp (var 0))) tt (pos m ∷ pos n ∷ []) ∙ ap neg_ℤ (signed_sub false n m k)) ∙ size_neg (pos (n - m))))) h)
