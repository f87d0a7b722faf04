-- The cosine's law, the gate's test and Fresnel's fractions, together. Assumes nothing.
use mathlib.Core.Path.{◌≡◌, refl, sym, ap, ◌∙◌, subst}
use Prim.Native.Nat.{ℕ, suc, ◌+◌, ◌-◌, ◌*◌, ◌^◌, ◌≤◌, ◌<◌}
use native.Mathlib.Nat.{le_trans, le_of_eq, one-mul, mul_comm, mul_assoc, mul_left_comm, mul_right_comm, mul-le-mul, mul-le-mul_left, mul-le-mul_right, le_of_mul-le-mul_right, mul-pos, mul-sub}
use native.Mathlib.Omega.{arith}
use lib.Dec.{T, lit≤}
use lib.Pow.{pow_pos}
use lib.IntN.{ℤ, pos, nat_abs, ◌+ℤ◌, ◌-ℤ◌, pos-+ℤ-pos, -ℤ-+ℤ_cancel}
use lib.Ieee.{Float, binary64, fits, le, of_bits}
use lib.Ieee.Fits.{and_r}
use lib.Ieee.Positive.{positive}
use lib.Ieee.Scale.{finite}
use Rattle.ieee.specs.Operators.{◌⊗◌}
use Rattle.ieee.specs.Functions.{zero_f, one, quarter, seven_eighths, abs}
use Rattle.ieee.specs.Range.{In}
use Rattle.ieee.specs.Count.{count}
use Rattle.ieee.proofs.Range.Round.{le_cross}
use Rattle.ieee.proofs.Range.Laws.{in_lit, abs_in, plus_finite, plus_sgn, zero_under, mul_in}
use Rattle.ieee.proofs.Range.FromZero.{plus_clear}
use Rattle.ieee.proofs.Range.Falls.{in_zero_to_one, to_tests}
use Rattle.ieee.proofs.Range.Tests.{gate_least}
use Rattle.ieee_near.proofs.Pair.{index_in}
use Rattle.math_trig.specs.Trig.{reduce, sin, cos}
use Rattle.math_trig.proofs.TrigBounds.{sin_mag, cos_mag}
use Rattle.math_trig.proofs.Turns.{limit_mag}
use Rattle.near_abs.specs.Off.{Within}
use Rattle.near_abs.proofs.Within.{widen, untimes, known}
use Rattle.near_abs.proofs.Counts.{U, Held, count_least, Result, mul_off}
use Rattle.near_abs.proofs.Laws.{Near, itself, mul_near}
use Rattle.trig_near.specs.Sums.{top, bottom, sine_steps, cosine_steps, cosine_top, cosine_bottom}
use Rattle.trig_near.specs.Claim.{TwoPi, left, Facing}
use Rattle.trig_near.proofs.Turned.{cos_facing_fine, sin_facing_size, facing, cos_facing_fits, sin_facing_fits, abs_fits, abs_count}
use Rattle.trig_near.proofs.Facing.{faces}
use Rattle.trig_near.proofs.Runs.{run_top, run_bottom}
use Rattle.trig_near.proofs.Link.{link}
use Rattle.trig_near.proofs.Angle.{Beside, turned, turned²}
use Rattle.trig_near.proofs.Cosine as Cos
use Rattle.trig_near.proofs.Sine as Sin
use Rattle.fresnel.specs.Fresnel.{fresnel_dielectric}
use Rattle.fresnel_tilted.specs.Claim.{Refracts, Cosine, Tilted}
use Rattle.fresnel_tilted.proofs.Claim as Tilt
use Rattle.fresnel_tilted.proofs.Claim.{every_tilt}
use Rattle.fresnel_tilted.proofs.Refraction.{u, at_most, index_held, index_least, index_most}
use Rattle.fresnel_tilted.proofs.Powers.{cross}
use Rattle.bare_near.specs.Claim.{Admitted, Optics, EveryAngle}

pub quarter_in : In 1 2 1 2 quarter
unfolding of_bits
quarter_in = in_lit quarter tt

pub quarter_positive : T (positive quarter)
unfolding of_bits
quarter_positive = tt

eighths_in : In 7 3 7 3 seven_eighths
unfolding of_bits
eighths_in = in_lit seven_eighths tt

eighths_held : Held seven_eighths
unfolding fits of_bits
eighths_held = record { fine = tt; held = tt }

eighths_count : count seven_eighths * 8 ≡ 7 * U
unfolding count of_bits
eighths_count = refl

-- what stands for 2π and for the cosine, without the refracted light
pub record Angled (x : Float) : Type 0 where
  pub P : ℕ
  pub Q : ℕ
  pub turn : TwoPi P Q
  pub N : ℕ
  pub terms : 11 ≤ N
  pub C : ℕ
  pub K : ℕ
  pub top : cosine_top (left x P Q) (Q * 2 ^ 1074) N ≡ pos C
  pub bottom : cosine_bottom (Q * 2 ^ 1074) N ≡ K

abbrev angled : {x n1 n2 : Float} → Optics x n1 n2 → Angled x
angled o = record { P = o.P; Q = o.Q; turn = o.turn; N = o.N; terms = o.terms; C = o.C; K = o.K; top = o.top; bottom = o.bottom }

module _ (x n1 n2 : Float) (a : Admitted x n1 n2) (o : Angled x) where
  fine : T (finite x)
  fine = (limit_mag x a.angle.most).fine

  face : Facing x
  face = faces x a.angle a.cosine

  abbrev X : ℕ
  X = nat_abs (left x o.P o.Q)

  abbrev W : ℕ
  W = o.Q * 2 ^ 1074

  abbrev Z : ℕ
  Z = X * X

  abbrev Y : ℕ
  Y = W * W

  b : Beside turned turned² X W (reduce x)
  b = facing x face o.P o.Q o.turn

  y_pos : 0 < Y
  y_pos = mul-pos b.base b.base

  z_most : Z * 2 ≤ 5 * Y
  z_most = go Z Y b.most
    where
      go : (z y : ℕ) → z * 2 ^ 10 ≤ 2527 * y → z * 2 ≤ 5 * y
      go z y h = omega (arith, h)

  -- ---- the cosine
  cos_in : In 1 2 1 0 (cos x)
  cos_in = gate_least quarter (cos x) quarter_in (cos_mag x fine) quarter_positive a.cosine

  cos_most : T (le (cos x) one)
  cos_most = and_r (le zero_f (cos x)) (le (cos x) one) (to_tests (in_zero_to_one (record { sign = cos_in.sign; least = zero_under _ _; most = cos_in.most })))

  cos_held : Held (cos x)
  cos_held = record { fine = plus_finite (cos x) cos_in.sign; held = cos_facing_fits x face o.P o.Q o.turn }

  -- N is one more than n + 2
  abbrev n : ℕ
  n = o.N - 3

  N_is : o.N ≡ suc (2 + n)
  N_is = go o.N o.terms
    where
      go : (N : ℕ) → 11 ≤ N → N ≡ suc (2 + (N - 3))
      go N h = omega (arith, h)

  abbrev R : ℕ
  R = run_top (λ (k : ℕ). cosine_steps (suc k)) Z Y (2 + n) 1 1

  abbrev H : ℕ
  H = run_bottom (λ (k : ℕ). cosine_steps (suc k)) Y (2 + n) 1

  K_is : o.K ≡ Y * 2 * H
  K_is = sym o.bottom ∙ ap (λ (k : ℕ). bottom cosine_steps Y k) N_is ∙ Cos.bottom_is turned turned² X W (reduce x) b (2 + n)

  -- C is what is left
  C_is : o.C + Z * R ≡ Y * 2 * H
  C_is = ap nat_abs (sym (pos-+ℤ-pos o.C (Z * R)) ∙ ap (λ (z : ℤ). z +ℤ pos (Z * R)) (sym o.top ∙ ap (λ (k : ℕ). top cosine_steps Z Y k) N_is ∙ Cos.top_is turned turned² X W (reduce x) b (2 + n)) ∙ back (pos (Y * 2 * H)) (pos (Z * R)))
    where
      back : (a b : ℤ) → a -ℤ b +ℤ b ≡ a
      back a b = -ℤ-+ℤ_cancel a b

  pub K_pos : 0 < o.K
  K_pos = subst (λ (k : ℕ). 0 < k) (sym K_is) (Cos.K_pos turned turned² X W (reduce x) b (2 + n))

  under : o.C ≤ o.K
  under = subst (λ (k : ℕ). o.C ≤ k) (sym K_is) (go o.C (Z * R) (Y * 2 * H) C_is)
    where
      go : (c r k : ℕ) → c + r ≡ k → c ≤ k
      go c r k e = omega (arith, e)

  near : Within (2 ^ 1018 * (25 * (o.K * o.K) + 73 * (o.K * o.K - o.C * o.C))) (count (cos x) * o.K * o.K) (o.C * o.K * U)
  near = cos_facing_fine x face o.P o.Q o.turn (2 + n) o.C o.K (ten o.N o.terms) K_is C_is (plus_sgn (cos x) cos_in.sign)
    where
      ten : (N : ℕ) → 11 ≤ N → 10 ≤ 2 + (N - 3)
      ten N h = omega (arith, h)

  -- C / K is 1/5 at least
  coarse : Within (98 * 2 ^ 1018 * o.K) (count (cos x) * o.K) (o.C * U)
  coarse = untimes (98 * 2 ^ 1018 * o.K) (count (cos x) * o.K) (o.C * U) o.K K_pos (widen (go (2 ^ 1018) (o.K * o.K) (o.C * o.C) (98 * 2 ^ 1018 * o.K * o.K) (mul_assoc (98 * 2 ^ 1018) o.K o.K)) (known refl refl (mul_right_comm o.C o.K U) near))
    where
      go : (w q c t : ℕ) → t ≡ 98 * w * q → w * (25 * q + 73 * (q - c)) ≤ t
      go w q c t e = le_trans (mul-le-mul_left w (less q c)) (le_of_eq (one w q ∙ sym e))
        where
          less : (q c : ℕ) → 25 * q + 73 * (q - c) ≤ 98 * q
          less q c = omega arith

          one : (w q : ℕ) → w * (98 * q) ≡ 98 * w * q
          one w q = omega arith

  pub cosine : Cosine (cos x) o.C o.K
  cosine = record { base = K_pos; under = under; held = cos_held.held; least = a.cosine; most = cos_most; near = near }

  fifth : o.K ≤ 5 * o.C
  fifth = le_of_mul-le-mul_right (go (count (cos x)) o.K o.C U (98 * 2 ^ 1018) coarse.most (quarters (count_least 1 2 cos_held cos_in.least)) (lit≤ tt)) (pow_pos 1074)
    where
      quarters : 1 * U ≤ count (cos x) * 2 ^ 2 → U ≤ count (cos x) * 4
      quarters h = le_trans (le_of_eq (sym (one-mul U))) h

      go : (c K C v e : ℕ) → c * K ≤ C * v + e * K → v ≤ c * 4 → e * 20 ≤ v → K * v ≤ 5 * C * v
      go c K C v e h q s =
          let i : v * K ≤ c * 4 * K = mul-le-mul_right K q in
          let j : e * 20 * K ≤ v * K = mul-le-mul_right K s in
          omega (arith, h, i, j)

  -- ---- the sine
  abbrev A : ℕ
  A = run_top sine_steps Z Y 10 1 1

  abbrev G : ℕ
  G = run_bottom sine_steps Y 10 1

  G_is : bottom sine_steps Y 10 ≡ G
  G_is = sym (Sin.bottom_is turned turned² X W (reduce x) b 10)

  abbrev s : Float
  s = abs (sin x)

  s_in : In 0 0 1 0 s
  s_in = abs_in (sin_mag x fine)

  s_held : Held s
  s_held = record { fine = plus_finite s s_in.sign; held = abs_fits (sin x) (sin_facing_fits x face o.P o.Q o.turn) }

  -- the exact sine
  abbrev D : ℕ
  D = W * G

  abbrev m : ℕ
  m = X * A

  G_pos : 0 < G
  G_pos = subst (λ (k : ℕ). 0 < k) G_is (Sin.bottom_pos turned turned² X W (reduce x) b 10)

  s_near : Near (13 * u) m D s
  s_near = record {
    ok = s_held;
    base = mul-pos b.base G_pos;
    off =
        subst (λ (c : ℕ). Within (13 * u * D) (c * D) (m * U)) (sym (abs_count (sin x) (sin_mag x fine).fine))
        (subst (λ (k : ℕ). Within (13 * u * (W * k)) (count (sin x) * (W * k)) (X * A * U)) G_is (sin_facing_size x face o.P o.Q o.turn));
  }

  -- the two sides of the gate's test
  left_near : Near (56 * u) (count n1 * m) (U * D) (n1 ⊗ s)
  left_near = mul_near 4 1 4 1023 (lit≤ tt) (lit≤ tt) (itself (index_held a.incident)) s_near (index_most a.incident) (index_most a.incident) (at_most 1 s_held s_in)

  right_off : Result (count seven_eighths * count n2) U 1022 (seven_eighths ⊗ n2)
  right_off = mul_off 1022 (lit≤ tt) eighths_held (index_held a.substrate) (small (count seven_eighths) (count n2) U (2 ^ (53 + suc 1022)) (pow_pos 1074) eighths_count (index_most a.substrate) (lit≤ tt))
    where
      small : (c n v L : ℕ) → 0 < v → c * 8 ≡ 7 * v → n ≤ 4 * v → 4 * v ≤ L → c * n < L * v
      small c n v L p e h l =
          let i : c * 8 * n ≤ 7 * v * (4 * v) = le_trans (le_of_eq (ap (λ (z : ℕ). z * n) e)) (mul-le-mul_left (7 * v) h) in
          let j : 4 * v * v ≤ L * v = mul-le-mul_right v l in
          let k : 0 < v * v = mul-pos p p in
          go (c * n) (v * v) (L * v) (le_trans (le_of_eq (one c n)) (le_trans i (le_of_eq (two v)))) (le_trans (le_of_eq (three v)) j) k
        where
          one : (c n : ℕ) → 8 * (c * n) ≡ c * 8 * n
          one c n = omega arith

          two : (v : ℕ) → 7 * v * (4 * v) ≡ 28 * (v * v)
          two v = omega arith

          three : (v : ℕ) → 4 * (v * v) ≡ 4 * v * v
          three v = omega arith

          go : (x y z : ℕ) → 8 * x ≤ 28 * y → 4 * y ≤ z → 0 < y → x < z
          go x y z h i p = omega (arith, h, i, p)

  left_in : In 0 0 4 0 (n1 ⊗ s)
  left_in = mul_in (index_in a.incident) s_in tt

  right_in : In 7 3 7 1 (seven_eighths ⊗ n2)
  right_in = mul_in eighths_in (index_in a.substrate) tt

  tested : count (n1 ⊗ s) ≤ count (seven_eighths ⊗ n2)
  tested = cross left_near.ok right_off.ok (le_cross (n1 ⊗ s) (seven_eighths ⊗ n2) (plus_clear (n1 ⊗ s) left_in.sign) (plus_clear (seven_eighths ⊗ n2) right_in.sign) left_near.ok.fine right_off.ok.fine a.sine)

  -- n1·sin is 7.0007 / 8·n2 at most
  bent : 80000 * (count n1 * m) ≤ 70007 * (count n2 * D)
  bent = le_of_mul-le-mul_right (go (count n1) m D U (count (n1 ⊗ s)) (count (seven_eighths ⊗ n2)) (count seven_eighths) (count n2) (56 * u) (2 ^ 1022) left_near.off.least tested right_off.off.most eighths_count (index_least a.substrate) (lit≤ tt)) (pow_pos 1074)
    where
      go : (n m D v p q c k e f : ℕ) → n * m * v ≤ p * (v * D) + e * (v * D) → p ≤ q → q * v ≤ c * k + f * v → c * 8 ≡ 7 * v → v ≤ k → (e + f) * 80000 ≤ v → 80000 * (n * m) * v ≤ 70007 * (k * D) * v
      go n m D v p q c k e f h i j l r t =
          let a1 : p * (v * D) ≤ q * (v * D) = mul-le-mul_right (v * D) i in
          let a2 : q * v * D ≤ (c * k + f * v) * D = mul-le-mul_right D j in
          let a3 : c * 8 * (k * D) ≡ 7 * v * (k * D) = ap (λ (z : ℕ). z * (k * D)) l in
          let a4 : (e + f) * 80000 * (v * D) ≤ v * (v * D) = mul-le-mul_right (v * D) t in
          let a5 : v * (v * D) ≤ k * (v * D) = mul-le-mul_right (v * D) r in
          omega (arith, h, a1, a2, a3, a4, a5)

  squared : 6400 * (count n1 * count n1) * (m * m) ≤ 4901 * (count n2 * count n2) * (D * D)
  squared = go (count n1 * count n1) (m * m) (count n2 * count n2) (D * D) (le_trans (le_of_eq (one (count n1) m)) (le_trans (mul-le-mul bent bent) (le_of_eq (two (count n2) D))))
    where
      one : (n m : ℕ) → 6400000000 * (n * n * (m * m)) ≡ 80000 * (n * m) * (80000 * (n * m))
      one n m = omega arith

      two : (n d : ℕ) → 70007 * (n * d) * (70007 * (n * d)) ≡ 4900980049 * (n * n * (d * d))
      two n d = omega arith

      go : (p q r s : ℕ) → 6400000000 * (p * q) ≤ 4900980049 * (r * s) → 6400 * p * q ≤ 4901 * r * s
      go p q r s h = omega (arith, h)

  few : count n1 ≤ 4 * count n2
  few = le_trans (index_most a.incident) (mul-le-mul_left 4 (index_least a.substrate))

  -- ---- the gate's test gives the refraction
  linked : 32 * (count n1 * count n1 * (o.K * o.K)) ≤ 25 * (count n2 * count n2 * (o.K * o.K)) + 32 * (count n1 * count n1 * (o.C * o.C))
  linked =
      subst (λ (k : ℕ). 32 * (count n1 * count n1 * (k * k)) ≤ 25 * (count n2 * count n2 * (k * k)) + 32 * (count n1 * count n1 * (o.C * o.C))) (sym K_is)
      (link Z Y y_pos z_most (count n1) (count n2) n o.C 7 few C_is (subst (λ (k : ℕ). k ≤ 5 * o.C) K_is fifth)
      (le_trans (le_of_eq (ap (λ (z : ℕ). 6400 * (count n1 * count n1) * z) (sym (square X A)))) (le_trans squared (le_of_eq (ap (λ (z : ℕ). 4901 * (count n2 * count n2) * z) (square W G))))))
    where
      square : (x a : ℕ) → x * a * (x * a) ≡ x * x * (a * a)
      square x a = simp (mul_assoc, mul_comm, mul_left_comm)

  pub refracts : Refracts n1 n2 o.C o.K
  refracts = go (count n1 * count n1) (count n2 * count n2) (o.K * o.K) (o.C * o.C) (mul-le-mul under under) linked
    where
      go : (p r k c : ℕ) → c ≤ k → 32 * (p * k) ≤ 25 * (r * k) + 32 * (p * c) → p * (k - c) * 32 ≤ 25 * (r * k)
      go p r k c h i = take (p * (k - c)) (p * k) (p * c) (r * k) (mul-sub p k c) (mul-le-mul_left p h) i
        where
          take : (x y z w : ℕ) → x ≡ y - z → z ≤ y → 32 * y ≤ 25 * w + 32 * z → x * 32 ≤ 25 * w
          take x y z w e l h = omega (arith, e, l, h)

module _ (x n1 n2 : Float) (a : Admitted x n1 n2) (o : Optics x n1 n2) where
  pub tilted : Tilted n1 n2 o.C o.K o.t o.L (fresnel_dielectric (cos x) n1 n2)
  tilted = every_tilt (cos x) n1 n2 a.incident a.substrate o.C o.K o.t o.L (cosine x n1 n2 a (angled o)) (refracts x n1 n2 a (angled o)) o.snell

  pub held : (T (fits binary64 (fresnel_dielectric (cos x) n1 n2).rs)) × (T (fits binary64 (fresnel_dielectric (cos x) n1 n2).rp))
  held = Tilt.held (cos x) n1 n2 a.incident a.substrate o.C o.K o.t o.L (cosine x n1 n2 a (angled o)) o.snell (refracts x n1 n2 a (angled o))

pub every_angle : EveryAngle
every_angle x n1 n2 a o = tilted x n1 n2 a o
