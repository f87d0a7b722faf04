-- A series run from its last term to its first, over whole numbers: where it starts does not matter much. Assumes nothing.
use mathlib.Core.Path.{◌≡◌, refl, sym, ap, ap₂, ◌∙◌, subst}
use Prim.Native.Nat.{ℕ, zero, suc, ◌+◌, ◌-◌, ◌*◌, ◌^◌, ◌≤◌, ◌<◌}
use native.Mathlib.Nat.{le_refl, le_trans, le_of_eq, lt_of_lt_of_le, mul_comm, mul_assoc, mul_left_comm, mul-le-mul, mul-le-mul_left, mul-le-mul_right, le_of_mul-le-mul_right, mul-pos, add-suc}
use native.Mathlib.Omega.{arith}
use lib.Dec.{lit≤}

-- 1 - (A / B)·(Z / Y) / D is (Y·D·B - Z-as-A) / (Y·D·B); for m down to 1
unfoldable pub run_top : (ℕ → ℕ) → ℕ → ℕ → ℕ → ℕ → ℕ → ℕ
run_top D Z Y zero A B = A
run_top D Z Y (suc m) A B = run_top D Z Y m (Y * D (suc m) * B - Z * A) (Y * D (suc m) * B)

unfoldable pub run_bottom : (ℕ → ℕ) → ℕ → ℕ → ℕ → ℕ
run_bottom D Y zero B = B
run_bottom D Y (suc m) B = run_bottom D Y m (Y * D (suc m) * B)

-- A / B is from 127 / 128 to 1
pub record Good (A B : ℕ) : Type 0 where
  pub above : 0 < B
  pub most : A ≤ B
  pub least : B * 127 ≤ A * 128

pub good_one : Good 1 1
good_one = record { above = lit≤ tt; most = lit≤ tt; least = lit≤ tt }

-- z = Z / Y is 2527 / 1024 at most
pub good_step : (D Z Y A B : ℕ) → 506 ≤ D → 0 < Y → Z * 2 ^ 10 ≤ 2527 * Y → Good A B → Good (Y * D * B - Z * A) (Y * D * B)
good_step D Z Y A B h y z g =
    let P : 0 < Y * D * B = mul-pos (mul-pos y (lt_of_lt_of_le (lit≤ {m = 1} {n = 506} tt) h)) g.above in
    record { above = P; most = sub-le (Y * D * B) (Z * A); least = less (Y * D * B) (Z * A) (share (Y * D * B) (Z * A) (Y * B) (le_trans (mul-le-mul_right (2 ^ 10) (mul-le-mul_left Z g.most)) (le_trans (le_of_eq (one Z B)) (le_trans (mul-le-mul_right B z) (le_of_eq (mul_assoc 2527 Y B))))) (le_trans (mul-le-mul_right (Y * B) h) (le_of_eq (two D Y B)))) }
  where
    sub-le : (a b : ℕ) → a - b ≤ a
    sub-le a b = omega arith

    one : (Z B : ℕ) → Z * B * 2 ^ 10 ≡ Z * 2 ^ 10 * B
    one Z B = omega arith

    two : (D Y B : ℕ) → D * (Y * B) ≡ Y * D * B
    two D Y B = simp (mul_assoc, mul_comm, mul_left_comm)

    share : (K X W : ℕ) → X * 2 ^ 10 ≤ 2527 * W → 506 * W ≤ K → X * 128 ≤ K
    share K X W a b = omega (arith, a, b)

    less : (K X : ℕ) → X * 128 ≤ K → K * 127 ≤ (K - X) * 128
    less K X h = omega (arith, h)

-- any start that is so near may stand for the one at 10 + j
pub from_ten : (D : ℕ → ℕ) (Z Y : ℕ) (P : ℕ → ℕ → Type 0) → ((k : ℕ) → 506 ≤ D (suc (10 + k))) → 0 < Y → Z * 2 ^ 10 ≤ 2527 * Y
    → ((A B : ℕ) → Good A B → P (run_top D Z Y 10 A B) (run_bottom D Y 10 B))
    → (j A B : ℕ) → Good A B → P (run_top D Z Y (10 + j) A B) (run_bottom D Y (10 + j) B)
unfolding run_top run_bottom
from_ten D Z Y P big y z f zero A B g = f A B g
from_ten D Z Y P big y z f (suc j) A B g =
    subst (λ (n : ℕ). P (run_top D Z Y n A B) (run_bottom D Y n B)) (sym (add-suc 10 j))
    (from_ten D Z Y P big y z f j (Y * D (suc (10 + j)) * B - Z * A) (Y * D (suc (10 + j)) * B) (good_step (D (suc (10 + j))) Z Y A B (big j) y z g))
