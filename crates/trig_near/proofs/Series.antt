-- A step and a whole series of section 2's sin and cos, beside the same of exact fractions. Assumes nothing.
use mathlib.Core.Path.{◌≡◌, refl, sym, ap, ap₂, ◌∙◌, subst}
use Prim.Native.Nat.{ℕ, zero, suc, ◌+◌, ◌-◌, ◌*◌, ◌/◌, ◌^◌, ◌≤◌, ◌<◌}
use native.Mathlib.Nat.{le_refl, le_trans, le_of_eq, le_of_lt, lt_of_le_of_lt, lt_of_lt_of_le, mul-one, one-mul, mul_comm, mul_assoc, mul_left_comm, mul_right_comm, mul-le-mul, mul-le-mul_left, mul-le-mul_right, le_of_mul-le-mul_right, lt_of_mul-lt-mul_right, mul-lt-mul_of_pos_right, mul-pos}
use native.Mathlib.Omega.{arith}
use mathlib.Core.Bool.{Bool, true, false, ◌&&◌}
use lib.Dec.{T, lit≤, leb→le}
use lib.Pow.{pow_pos}
use lib.Ieee.{Float, binary64, fits, of_bits, of_int}
use lib.Ieee.Scale.{finite}
use lib.Ieee.Positive.{num, den, den_pos}
use Rattle.ieee.specs.Operators.{◌⊖◌, ◌⊗◌, ◌⊘◌}
use Rattle.ieee.specs.Functions.{one}
use Rattle.ieee.specs.Range.{In, Mag, plus}
use Rattle.ieee.specs.Count.{count}
use Rattle.ieee.proofs.Count.{count_is}
use Rattle.ieee.proofs.Range.Laws.{plus_finite, in_lit, mul_in, zero_under}
use Rattle.ieee.proofs.Range.Constants.{one_in}
use Rattle.ieee.proofs.Range.Sums.{sub_in}
use Rattle.ieee.proofs.Range.Quotients.{div_in}
use Rattle.near_abs.specs.Off.{Within}
use Rattle.ieee_near.specs.Index.{gap}
use Rattle.near_abs.proofs.Within.{untimes, known}
use Rattle.near_abs.proofs.Counts.{U, Held, count_most, Result, mul_off, div_off, sub_off}
use Rattle.math_trig.specs.Trig.{series}
use Rattle.trig_near.proofs.Step.{grown, quotient, rest}
use Rattle.trig_near.proofs.Runs.{run_top, run_bottom, Good, good_one, from_ten}

-- ---- the numbers of a step: z ≤ 2527 / 1024, and the roundings of z, of p·z, of the quotient and of the difference
abbrev pub zc : ℕ
zc = 2527

abbrev pub zs : ℕ
zs = 2 ^ 10

abbrev pub grow : ℕ → ℕ → ℕ → ℕ
grow f D e = grown zc zs f (2 ^ 1022) (2 ^ 1020) D e + 2 ^ 1021

-- p is within e of A / B, from 0 to 1
pub record At (e A B : ℕ) (p : Float) : Type 0 where
  pub ok : Held p
  pub range : In 0 0 1 0 p
  pub off : Within (e * B) (count p * B) (A * U)

-- z within f of Z / Y
pub record Squared (f Z Y : ℕ) (z : Float) : Type 0 where
  pub ok : Held z
  pub range : In 0 0 2527 10 z
  pub off : Within (f * Y) (count z * Y) (Z * U)

-- an f64 that is the whole number D, 6 at least
pub record Divisor (D : ℕ) (d : Float) : Type 0 where
  pub ok : Held d
  pub range : In 6 0 1000 0 d
  pub is : count d ≡ D * U

pub product_small : (p z L : ℕ) → p * 1 ≤ 1 * U → z * 2 ^ 10 ≤ 2527 * U → 2527 * U < L * 2 ^ 10 → p * z < L * U
product_small p z L h g l = go p z L U (2 ^ 10) 2527 (pow_pos 1074) (le_trans (le_of_eq (sym (mul-one p))) (le_trans h (le_of_eq (one-mul U)))) g l
  where
    go : (p z L u S c : ℕ) → 0 < u → p ≤ u → z * S ≤ c * u → c * u < L * S → p * z < L * u
    go p z L u S c P h g l =
        lt_of_mul-lt-mul_right S
        (lt_of_le_of_lt (le_of_eq (mul_assoc p z S))
        (lt_of_le_of_lt (mul-le-mul h g) (lt_of_le_of_lt (le_of_eq (mul_comm u (c * u))) (lt_of_lt_of_le (mul-lt-mul_of_pos_right l P) (le_of_eq (mul_right_comm L S u))))))

quotient_small : (q D : ℕ) → 6 ≤ D → q * 2 ^ 10 ≤ 2527 * U → q * U < 2 ^ (53 + suc 1020) * (D * U)
quotient_small q D six h = lt_of_lt_of_le (mul-lt-mul_of_pos_right (go q D U (pow_pos 1074) six h) (pow_pos 1074)) (le_of_eq (mul_assoc U D U))
  where
    go : (q D u : ℕ) → 0 < u → 6 ≤ D → q * 2 ^ 10 ≤ 2527 * u → q < u * D
    go q D u P six h = let m : u * 6 ≤ u * D = mul-le-mul_left u six in omega (arith, m, h, P)

gap_small : (t u : ℕ) → 0 < u → t ≤ u → gap u t < 2 * u * 1
gap_small t u P h = omega (arith, P, h)

pub one_count : count one ≡ U
unfolding count of_bits
one_count = refl

pub one_held : Held one
unfolding fits of_bits
one_held = record { fine = tt; held = tt }

less : (t : Float) → Held t → T (plus t) → count t ≤ U → Result (gap U (count t)) 1 1021 (one ⊖ t)
less t h p m =
    subst (λ (k : ℕ). Result (gap k (count t)) 1 1021 (one ⊖ t)) one_count
    (sub_off 1021 (lit≤ tt) one_in.sign p one_held h (subst (λ (k : ℕ). gap k (count t) < 2 ^ (53 + suc 1021) * 1) (sym one_count) (gap_small (count t) U (pow_pos 1074) m)))

pub step : (f D Z Y e A B : ℕ) {z p : Float} (d : Float) → Divisor D d → 6 ≤ D → Squared f Z Y z → At e A B p → A ≤ B → At (grow f D e) (Y * D * B - Z * A) (Y * D * B) (one ⊖ (p ⊗ z) ⊘ d)
step f D Z Y e A B {z} {p} d hd six hz hp ab =
    let zm : count z * 2 ^ 10 ≤ 2527 * U = count_most 2527 10 hz.ok hz.range.most in
    let pm : count p * 2 ^ 0 ≤ 1 * U = count_most 1 0 hp.ok hp.range.most in
    let q : Result (count p * count z) U 1022 (p ⊗ z) = mul_off 1022 (lit≤ tt) hp.ok hz.ok (product_small (count p) (count z) (2 ^ (53 + suc 1022)) pm zm (lit≤ tt)) in
    let qr : In 0 0 2527 10 (p ⊗ z) = mul_in hp.range hz.range tt in
    let qm : count (p ⊗ z) * 2 ^ 10 ≤ 2527 * U = count_most 2527 10 q.ok qr.most in
    let dp : 0 < count d = subst (λ (k : ℕ). 0 < k) (sym hd.is) (mul-pos (lt_of_lt_of_le (lit≤ {m = 1} {n = 6} tt) six) (pow_pos 1074)) in
    let t : Result (count (p ⊗ z) * U) (count d) 1020 ((p ⊗ z) ⊘ d) =
    div_off 1020 (lit≤ tt) q.ok hd.ok dp (subst (λ (k : ℕ). count (p ⊗ z) * U < 2 ^ (53 + suc 1020) * k) (sym hd.is) (quotient_small (count (p ⊗ z)) D six qm)) in
    let tr : In 0 0 1 0 ((p ⊗ z) ⊘ d) = div_in qr hd.range tt in
    let tm : count ((p ⊗ z) ⊘ d) ≤ U = unit (count ((p ⊗ z) ⊘ d)) U (count_most 1 0 t.ok tr.most) in
    let to : Within (2 ^ 1020 * D) (count ((p ⊗ z) ⊘ d) * D) (count (p ⊗ z)) = share D (count ((p ⊗ z) ⊘ d)) (count (p ⊗ z)) (2 ^ 1020) (subst (λ (k : ℕ). Within (2 ^ 1020 * k) (count ((p ⊗ z) ⊘ d) * k) (count (p ⊗ z) * U)) hd.is t.off) in
    let r : Result (gap U (count ((p ⊗ z) ⊘ d))) 1 1021 (one ⊖ (p ⊗ z) ⊘ d) = less ((p ⊗ z) ⊘ d) t.ok tr.sign tm in
    record {
      ok = r.ok;
      range = sub_in one_in tr tt;
      off =
          rest U (Z * A) (Y * D * B) (count ((p ⊗ z) ⊘ d)) (count (one ⊖ (p ⊗ z) ⊘ d)) (grown zc zs f (2 ^ 1022) (2 ^ 1020) D e) (2 ^ 1021) tm
          (quotient U zc zs A B Y Z D (count p) (count z) (count (p ⊗ z)) (count ((p ⊗ z) ⊘ d)) e f (2 ^ 1022) (2 ^ 1020) (pow_pos 1074) (pow_pos 10) (lt_of_lt_of_le (lit≤ {m = 1} {n = 6} tt) six) ab zm hp.off hz.off q.off to)
          r.off;
    }
  where
    unit : (c u : ℕ) → c * 1 ≤ 1 * u → c ≤ u
    unit c u h = omega (arith, h)

    share : (D t q h : ℕ) → Within (h * (D * U)) (t * (D * U)) (q * U) → Within (h * D) (t * D) q
    share D t q h w = untimes (h * D) (t * D) q U (pow_pos 1074) (known (sym (mul_assoc h D U)) (sym (mul_assoc t D U)) refl w)

-- ---- m steps
abbrev pub err : ℕ → (ℕ → ℕ) → ℕ → ℕ → ℕ
err f D zero e = e
err f D (suc m) e = err f D m (grow f (D (suc m)) e)

pub record Steps (D : ℕ → ℕ) (d : ℕ → Float) (k : ℕ) : Type 0 where
  pub is : Divisor (D (suc k)) (d (suc k))
  pub six : 6 ≤ D (suc k)

pub series_at : (f : ℕ) (D : ℕ → ℕ) (d : ℕ → Float) (m Z Y e A B : ℕ) (z p : Float) → ((k : ℕ) → k < m → Steps D d k) → Squared f Z Y z → At e A B p → A ≤ B → At (err f D m e) (run_top D Z Y m A B) (run_bottom D Y m B) (series d m z p)
unfolding series run_top run_bottom
series_at f D d zero Z Y e A B z p g hz hp ab = hp
series_at f D d (suc m) Z Y e A B z p g hz hp ab =
    let s = g m (self m) in
    series_at f D d m Z Y (grow f (D (suc m)) e) (Y * D (suc m) * B - Z * A) (Y * D (suc m) * B) z (one ⊖ (p ⊗ z) ⊘ d (suc m)) (λ k h. g k (up k m h)) hz
    (step f (D (suc m)) Z Y e A B (d (suc m)) s.is s.six hz hp ab)
    (sub-le (Y * D (suc m) * B) (Z * A))
  where
    self : (m : ℕ) → m < suc m
    self m = omega arith

    up : (k m : ℕ) → k < m → k < suc m
    up k m h = omega (arith, h)

    sub-le : (a b : ℕ) → a - b ≤ a
    sub-le a b = omega arith

-- 1 stands for every start that is near it
abbrev pub start : ℕ
start = 2 ^ 1067

pub start_at : (A B : ℕ) → Good A B → At start A B one
start_at A B g = record {
  ok = one_held;
  range = record { sign = one_in.sign; least = zero_under (den one) (num one * 2 ^ 0); most = one_in.most };
  off = subst (λ (k : ℕ). Within (start * B) (k * B) (A * U)) (sym one_count) (go A B U start refl g.most g.least);
}
  where
    go : (A B u s : ℕ) → u ≡ s * 128 → A ≤ B → B * 127 ≤ A * 128 → Within (s * B) (u * B) (A * u)
    go A B u s e a b =
        let i : u * B ≡ s * 128 * B = ap (λ (z : ℕ). z * B) e in
        let j : A * u ≡ A * (s * 128) = ap (λ (z : ℕ). A * z) e in
        let k : s * (B * 127) ≤ s * (A * 128) = mul-le-mul_left s b in
        let l : s * A ≤ s * B = mul-le-mul_left s a in
        record { most = omega (arith, i, j, k, l); least = omega (arith, i, j, k, l) }

-- every partial sum from the tenth on
pub sum_at : (f : ℕ) (D : ℕ → ℕ) (d : ℕ → Float) (Z Y : ℕ) (z : Float) → ((k : ℕ) → k < 10 → Steps D d k) → ((k : ℕ) → 506 ≤ D (suc (10 + k))) → 0 < Y → Z * 2 ^ 10 ≤ 2527 * Y → Squared f Z Y z
    → (j : ℕ) → At (err f D 10 start) (run_top D Z Y (10 + j) 1 1) (run_bottom D Y (10 + j) 1) (series d 10 z one)
sum_at f D d Z Y z g big y l hz j =
    from_ten D Z Y (λ (A B : ℕ). At (err f D 10 start) A B (series d 10 z one)) big y l (λ A B k. series_at f D d 10 Z Y start A B z one g hz (start_at A B k) k.most) j 1 1 good_one
