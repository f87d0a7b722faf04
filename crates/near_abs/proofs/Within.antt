-- Distances of whole numbers: `Within e m n` is |m - n| ≤ e. Assumes nothing.
use mathlib.Core.Path.{◌≡◌, sym}
use Prim.Native.Nat.{ℕ, ◌+◌, ◌-◌, ◌*◌, ◌≤◌, ◌<◌}
use native.Mathlib.Nat.{le_trans, le_of_eq, mul-le-mul_left, mul-le-mul_right, le_of_mul-le-mul_right, add-mul}
use native.Mathlib.Omega.{arith}
use Rattle.near_abs.specs.Off.{Within}
use Rattle.ieee_near.specs.Index.{gap}

pub same : (m : ℕ) → Within 0 m m
same m = omega arith

pub turn : {e m n : ℕ} → Within e m n → Within e n m
turn h = record { most = h.least; least = h.most }

pub chain : {e f m n o : ℕ} → Within e m n → Within f n o → Within (e + f) m o
chain h g = omega (arith, h, g)

pub widen : {e f m n : ℕ} → e ≤ f → Within e m n → Within f m n
widen l h = omega (arith, l, h)

pub plus : {e f m n o p : ℕ} → Within e m n → Within f o p → Within (e + f) (m + o) (n + p)
plus h g = omega (arith, h, g)

-- what is left of the same whole
pub taken : {e m n : ℕ} (K : ℕ) → Within e m n → Within e (K - m) (K - n)
taken K h = omega (arith, h)

pub gaps : {e f m n o p : ℕ} → Within e m n → Within f o p → Within (e + f) (gap m o) (gap n p)
gaps h g = omega (arith, h, g)

-- times k
pub times : {e m n : ℕ} (k : ℕ) → Within e m n → Within (e * k) (m * k) (n * k)
times {e} {m} {n} k h =
    let a : m * k ≤ (n + e) * k = mul-le-mul_right k h.most in
    let b : n * k ≤ (m + e) * k = mul-le-mul_right k h.least in
    record { most = omega (arith, a); least = omega (arith, b) }

pub untimes : (e m n k : ℕ) → 0 < k → Within (e * k) (m * k) (n * k) → Within e m n
untimes e m n k p h =
    record { most = le_of_mul-le-mul_right (le_trans h.most (le_of_eq (sym (add-mul n e k)))) p; least = le_of_mul-le-mul_right (le_trans h.least (le_of_eq (sym (add-mul m e k)))) p }

-- under other names
pub known : {e m n f o p : ℕ} → e ≡ f → m ≡ o → n ≡ p → Within e m n → Within f o p
known a b c h = omega (arith, a, b, c, h)

-- products: |m·o - n·p| ≤ e·o + n·f
pub product : {e f m n o p : ℕ} → Within e m n → Within f o p → Within (e * o + n * f) (m * o) (n * p)
product {e} {f} {m} {n} {o} {p} h g =
    let a : Within (e * o) (m * o) (n * o) = times o h in
    let b : n * o ≤ n * (p + f) = mul-le-mul_left n g.most in
    let c : n * p ≤ n * (o + f) = mul-le-mul_left n g.least in
    record { most = omega (arith, a, b, c); least = omega (arith, a, b, c) }
