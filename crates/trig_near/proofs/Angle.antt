-- An f64 beside the exact angle that it stands for, and its square beside the square. Assumes nothing.
use mathlib.Core.Path.{◌≡◌, refl, sym, ap, ap₂, ◌∙◌, subst}
use Prim.Native.Nat.{ℕ, suc, ◌+◌, ◌-◌, ◌*◌, ◌^◌, ◌≤◌, ◌<◌}
use native.Mathlib.Nat.{le_trans, le_of_eq, lt_of_le_of_lt, lt_of_lt_of_le, mul_comm, mul_assoc, mul_left_comm, mul_right_comm, mul-le-mul, mul-le-mul_left, mul-le-mul_right, le_of_mul-le-mul_right, lt_of_mul-lt-mul_right, mul-lt-mul_of_pos_right, mul-pos}
use native.Mathlib.Omega.{arith}
use lib.Dec.{T, lit≤}
use lib.Pow.{pow_pos}
use lib.Ieee.{Float, binary64, fits}
use Rattle.ieee.specs.Operators.{◌⊗◌}
use Rattle.ieee.specs.Range.{Mag}
use Rattle.ieee.specs.Count.{count}
use Rattle.ieee.proofs.Range.Laws.{sq_in}
use Rattle.near_abs.specs.Off.{Within}
use Rattle.near_abs.proofs.Within.{same, chain, times, untimes, known, widen, product}
use Rattle.near_abs.proofs.Counts.{U, Held, count_most, Result, mul_off}
use Rattle.trig_near.proofs.Series.{Squared}

-- π/2 in units of 2 ^ -52, as an f64
abbrev pub P : ℕ
P = 7074237752028440

-- |r| is within d of the exact angle X / W, and r·r within f of its square; both count 2 ^ -1074
pub record Beside (d f X W : ℕ) (r : Float) : Type 0 where
  pub held : T (fits binary64 r)
  pub mag : Mag P 52 r
  pub base : 0 < W
  pub near : Within (d * W) (count r * W) (X * U)
  pub small : X * 2 ^ 52 ≤ (P + 4) * W
  pub most : X * X * 2 ^ 10 ≤ 2527 * (W * W)
  pub square : Squared f (X * X) (W * W) (r ⊗ r)

-- X / W is (P + 4) / 2 ^ 52 at most
angle_most : (c X W u d : ℕ) → 0 < u → X * u ≤ c * W + d * W → c * 2 ^ 52 ≤ P * u → d * 2 ^ 52 ≤ 4 * u → X * 2 ^ 52 ≤ (P + 4) * W
angle_most c X W u d u0 h a b =
    let x : c * 2 ^ 52 * W ≤ P * u * W = mul-le-mul_right W a in
    let y : d * 2 ^ 52 * W ≤ 4 * u * W = mul-le-mul_right W b in
    let z : X * 2 ^ 52 * u ≤ (P + 4) * W * u = omega (arith, h, x, y) in
    le_of_mul-le-mul_right z u0

square_most : (X W S p K c : ℕ) → 0 < S → X * S ≤ p * W → p * p * K ≤ c * (S * S) → X * X * K ≤ c * (W * W)
square_most n d S p K c S0 h l =
    le_of_mul-le-mul_right
    (le_trans (le_of_eq (one n K S)) (le_trans (mul-le-mul_left K (mul-le-mul h h)) (le_trans (le_of_eq (two K p d)) (le_trans (mul-le-mul_right (d * d) l) (le_of_eq (mul_right_comm c (S * S) (d * d)))))))
    (mul-pos S0 S0)
  where
    one : (n K S : ℕ) → n * n * K * (S * S) ≡ K * (n * S * (n * S))
    one n K S = simp (mul_assoc, mul_comm, mul_left_comm)

    two : (K p d : ℕ) → K * (p * d * (p * d)) ≡ p * p * K * (d * d)
    two K p d = simp (mul_assoc, mul_comm, mul_left_comm)

-- |z·W² - X²·u| from z·u beside c² and c·W beside X·u
square_off : (z c X W u d h f : ℕ) → 0 < u → Within (h * u) (z * u) (c * c) → Within (d * W) (c * W) (X * u) → 7 * c ≤ 11 * u → 7 * (h * u) + d * (22 * u + 7 * d) ≤ 7 * (f * u) → Within (f * (W * W)) (z * (W * W)) (X * X * u)
square_off z c X W u d h f u0 w n c7 enough =
    let a : Within (d * W * (c * W) + X * u * (d * W)) (c * W * (c * W)) (X * u * (X * u)) = product n n in
    let b : Within (h * u * (W * W)) (z * u * (W * W)) (c * c * (W * W)) = times (W * W) w in
    untimes (f * (W * W)) (z * (W * W)) (X * X * u) u u0
    (widen (small (le_of_mul_le_mul_right' (total n.least))) (known refl (mul_right_comm z u (W * W)) (two X u) (chain b (known refl (sym (one c W)) refl a))))
  where
    one : (c W : ℕ) → c * c * (W * W) ≡ c * W * (c * W)
    one c W = simp (mul_assoc, mul_comm, mul_left_comm)

    two : (X u : ℕ) → X * u * (X * u) ≡ X * X * u * u
    two X u = simp (mul_assoc, mul_comm, mul_left_comm)

    le_of_mul_le_mul_right' : {a b : ℕ} → a ≤ b → a ≤ b
    le_of_mul_le_mul_right' h = h

    -- both angles together
    total : X * u ≤ c * W + d * W → 7 * (c * W + X * u) ≤ (22 * u + 7 * d) * W
    total g = let x : 7 * c * W ≤ 11 * u * W = mul-le-mul_right W c7 in omega (arith, g, x)

    small : 7 * (c * W + X * u) ≤ (22 * u + 7 * d) * W → h * u * (W * W) + (d * W * (c * W) + X * u * (d * W)) ≤ f * (W * W) * u
    small g =
        let x : d * W * (7 * (c * W + X * u)) ≤ d * W * ((22 * u + 7 * d) * W) = mul-le-mul_left (d * W) g in
        let y : (7 * (h * u) + d * (22 * u + 7 * d)) * (W * W) ≤ 7 * (f * u) * (W * W) = mul-le-mul_right (W * W) enough in
        le_of_mul-le-mul_right (go (h * u * (W * W)) (d * W * (c * W)) (X * u * (d * W)) (f * (W * W) * u) (d * W * ((22 * u + 7 * d) * W)) (le_trans (le_of_eq (three d W c X u)) x) (le_trans (le_of_eq (four h u d W)) (le_trans y (le_of_eq (five f u W))))) (lit≤ {m = 1} {n = 7} tt)
      where
        go : (a b c g X : ℕ) → 7 * (b + c) ≤ X → 7 * a + X ≤ 7 * g → (a + (b + c)) * 7 ≤ g * 7
        go a b c g X i j = omega (arith, i, j)

        three : (d W c X u : ℕ) → 7 * (d * W * (c * W) + X * u * (d * W)) ≡ d * W * (7 * (c * W + X * u))
        three d W c X u = omega arith

        four : (h u d W : ℕ) → 7 * (h * u * (W * W)) + d * W * ((22 * u + 7 * d) * W) ≡ (7 * (h * u) + d * (22 * u + 7 * d)) * (W * W)
        four h u d W = omega arith

        five : (f u W : ℕ) → 7 * (f * u) * (W * W) ≡ 7 * (f * (W * W) * u)
        five f u W = omega arith

pub beside : (d f X W : ℕ) (r : Float) → T (fits binary64 r) → Mag P 52 r → 0 < W → Within (d * W) (count r * W) (X * U) → d * 2 ^ 52 ≤ 4 * U → 7 * (2 ^ 1022 * U) + d * (22 * U + 7 * d) ≤ 7 * (f * U) → Beside d f X W r
beside d f X W r h m w0 n dm enough =
    let hr : Held r = record { fine = m.fine; held = h } in
    let cm : count r * 2 ^ 52 ≤ P * U = count_most P 52 hr m.most in
    let q : Result (count r * count r) U 1022 (r ⊗ r) = mul_off 1022 (lit≤ tt) hr hr (small (count r) U (2 ^ 52) P (2 ^ (53 + suc 1022)) (pow_pos 1074) cm (lit≤ tt)) in
    record {
      held = h;
      mag = m;
      base = w0;
      near = n;
      small = angle_most (count r) X W U d (pow_pos 1074) n.least cm dm;
      most = square_most X W (2 ^ 52) (P + 4) (2 ^ 10) 2527 (pow_pos 52) (angle_most (count r) X W U d (pow_pos 1074) n.least cm dm) (lit≤ tt);
      square = record {
        ok = q.ok;
        range = sq_in m tt;
        off = square_off (count (r ⊗ r)) (count r) X W U d (2 ^ 1022) f (pow_pos 1074) q.off n (seven (count r) U cm) enough;
      };
    }
  where
    seven : (c u : ℕ) → c * 2 ^ 52 ≤ P * u → 7 * c ≤ 11 * u
    seven c u h = omega (arith, h)

    small : (c u S p L : ℕ) → 0 < u → c * S ≤ p * u → p * p * u < L * (S * S) → c * c < L * u
    small c u S p L u0 h l =
        lt_of_mul-lt-mul_right (S * S)
        (lt_of_le_of_lt (le_of_eq (one c S)) (lt_of_le_of_lt (mul-le-mul h h) (lt_of_le_of_lt (le_of_eq (two p u)) (lt_of_lt_of_le (mul-lt-mul_of_pos_right l u0) (le_of_eq (mul_right_comm L (S * S) u))))))
      where
        one : (c S : ℕ) → c * c * (S * S) ≡ c * S * (c * S)
        one c S = simp (mul_assoc, mul_comm, mul_left_comm)

        two : (p u : ℕ) → p * u * (p * u) ≡ p * p * u * u
        two p u = simp (mul_assoc, mul_comm, mul_left_comm)

-- ---- an f64 that is the angle itself, and one that is within 2.0001·2 ^ -53 of it
pub exactly : (r : Float) → T (fits binary64 r) → Mag P 52 r → Beside 0 (2 ^ 1022) (count r) U r
exactly r h m = beside 0 (2 ^ 1022) (count r) U r h m (pow_pos 1074) (known (none U) refl refl (same (count r * U))) (lit≤ tt) (lit≤ tt)
  where
    none : (u : ℕ) → 0 ≡ 0 * u
    none u = omega arith

-- the error of an angle whose turns are taken off, and that of its square
abbrev pub turned : ℕ
turned = (2 ^ 58 + 5529392) * 2 ^ 964

abbrev pub turned² : ℕ
turned² = 17 * 2 ^ 1020

pub nearly : (X W : ℕ) (r : Float) → T (fits binary64 r) → Mag P 52 r → 0 < W → Within (turned * W) (count r * W) (X * U) → Beside turned turned² X W r
nearly X W r h m w n = beside turned turned² X W r h m w n (lit≤ tt) (lit≤ tt)

-- ---- the same of an angle that is taken from π
abbrev pub crossed : ℕ
crossed = 21 * 2 ^ 1019

abbrev pub crossed² : ℕ
crossed² = 75 * 2 ^ 1019

pub crossing : (X W : ℕ) (r : Float) → T (fits binary64 r) → Mag P 52 r → 0 < W → Within (crossed * W) (count r * W) (X * U) → Beside crossed crossed² X W r
crossing X W r h m w n = beside crossed crossed² X W r h m w n (lit≤ tt) (lit≤ tt)
