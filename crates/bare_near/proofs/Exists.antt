-- At every admitted angle there are fractions for the cosine and for the refracted light's. Assumes nothing.
use mathlib.Core.Path.{◌≡◌, refl, sym, ap, ◌∙◌, subst}
use Prim.Native.Nat.{ℕ, suc, ◌+◌, ◌-◌, ◌*◌, ◌^◌, ◌≤◌, ◌<◌}
use native.Mathlib.Nat.{le_trans, le_of_eq, mul_comm, mul_assoc, mul_left_comm, mul-le-mul, mul-le-mul_left, mul-le-mul_right, mul-pos, mul-one}
use native.Mathlib.Omega.{arith}
use mathlib.Core.Bool.{Bool}
use mathlib.Core.List.{[], ◌∷◌}
use lib.Dec.{lit≤}
use lib.Pow.{pow_pos}
use lib.IntN.{ℤ, pos, negsuc, nat_abs, ◌-ℤ◌, ◌*ℤ◌, pos-+ℤ-pos}
use lib.Ieee.{Float}
use Rattle.ieee.specs.Functions.{quarter}
use Rattle.ieee.specs.Range.{In}
use Rattle.ieee.specs.Count.{count}
use Rattle.ieee.proofs.Range.Laws.{plus_finite, plus_sgn}
use Rattle.ieee.proofs.Range.Tests.{gate_least}
use Rattle.ieee_near.specs.Index.{gap}
use Rattle.math_root.specs.Root.{isqrt}
use Rattle.math_root.proofs.Floor.{isqrt_le, isqrt_lt}
use Rattle.math_root.proofs.Closest.{isqrt_mono, isqrt_square}
use Rattle.math_trig.specs.Trig.{cos}
use Rattle.math_trig.proofs.TrigBounds.{cos_mag}
use Rattle.math_trig.proofs.Turns.{limit_mag}
use Rattle.whole_ring.proofs.Solver.{var, ◌:+◌, ◌:*◌, opp, identity}
use Rattle.whole_f64.specs.Whole.{signed}
use Rattle.near_abs.proofs.Counts.{U, Held, count_least}
use Rattle.trig_near.specs.Sums.{cosine_top, cosine_bottom}
use Rattle.trig_near.specs.Claim.{TwoPi, left, Facing}
use Rattle.trig_near.proofs.Turned.{cos_facing, cos_facing_fits, facing}
use Rattle.trig_near.proofs.Facing.{faces}
use Rattle.trig_near.proofs.Angle.{turned, turned²}
use Rattle.trig_near.proofs.Cosine as Cos
use Rattle.fresnel_tilted.specs.Claim.{sine_top, sine_bottom}
use Rattle.fresnel_tilted.proofs.Refraction.{index_least}
use Rattle.bare_near.specs.Claim.{Admitted, Found, Exists}
use Rattle.bare_near.proofs.Claim.{quarter_in, quarter_positive, Angled, K_pos, refracts}

-- ---- a root: t / L whose square is (S - F) / S up to 1 / E
root : (S F M E : ℕ) → 0 < S → F ≤ S → 2 * E ≤ M → let L = S * M in let t = isqrt ((S - F) * S * (M * M)) in gap (t * t * S + F * (L * L)) (S * (L * L)) * E ≤ S * (L * L)
root S F M E p l m =
    let n = (S - F) * S * (M * M) in
    let t = isqrt n in
    let under : t ≤ S * M = le_trans (isqrt_mono n (S * M * (S * M)) (most (S - F) S (M * M) (less S F) (squared S M))) (le_of_eq (isqrt_square (S * M))) in
    let near : n ≤ t * t + 2 * t = up n t (isqrt_lt n) in
    le_trans (mul-le-mul_right E (apart S F (S - F) M t (back S F l) (isqrt_le n) near)) (small S M E t p m under)
  where
    less : (s v : ℕ) → s - v ≤ s
    less s v = omega arith

    back : (s v : ℕ) → v ≤ s → s ≡ s - v + v
    back s v l = omega (arith, l)

    squared : (s m : ℕ) → s * s * (m * m) ≡ s * m * (s * m)
    squared s m = simp (mul_assoc, mul_left_comm)

    most : (d s q : ℕ) {r : ℕ} → d ≤ s → s * s * q ≡ r → d * s * q ≤ r
    most d s q h e = le_trans (mul-le-mul_right q (mul-le-mul_right s h)) (le_of_eq e)

    up : (n t : ℕ) → n < suc t * suc t → n ≤ t * t + 2 * t
    up n t h = omega (arith, h)

    apart : (S F D M t : ℕ) → S ≡ D + F → t * t ≤ D * S * (M * M) → D * S * (M * M) ≤ t * t + 2 * t → gap (t * t * S + F * (S * M * (S * M))) (S * (S * M * (S * M))) ≤ 2 * t * S
    apart S F D M t e h g =
        let i : t * t * S ≤ D * S * (M * M) * S = mul-le-mul_right S h in
        let j : D * S * (M * M) * S ≤ (t * t + 2 * t) * S = mul-le-mul_right S g in
        let k : S * (S * M * (S * M)) ≡ D * S * (M * M) * S + F * (S * M * (S * M)) = ap (λ (z : ℕ). z * (S * M * (S * M))) e ∙ split D F S M in
        go (t * t * S) (F * (S * M * (S * M))) (S * (S * M * (S * M))) (D * S * (M * M) * S) (2 * t * S) i (le_trans j (le_of_eq (share (t * t) (2 * t) S))) k
      where
        split : (D F S M : ℕ) → (D + F) * (S * M * (S * M)) ≡ D * S * (M * M) * S + F * (S * M * (S * M))
        split D F S M = omega arith

        share : (a b s : ℕ) → (a + b) * s ≡ a * s + b * s
        share a b s = omega arith

        go : (a v w n b : ℕ) → a ≤ n → n ≤ a + b → w ≡ n + v → gap (a + v) w ≤ b
        go a v w n b h i e = omega (arith, h, i, e)

    small : (S M E t : ℕ) → 0 < S → 2 * E ≤ M → t ≤ S * M → 2 * t * S * E ≤ S * (S * M * (S * M))
    small S M E t p m h =
        let i : t * (2 * E * S) ≤ S * M * (M * S) = mul-le-mul h (mul-le-mul_right S m) in
        let j : S * M * (M * S) * 1 ≤ S * M * (M * S) * S = mul-le-mul_left (S * M * (M * S)) p in
        le_trans (le_of_eq (one t S E)) (le_trans i (le_trans (le_of_eq (sym (mul-one (S * M * (M * S))))) (le_trans j (le_of_eq (two S M)))))
      where
        one : (t S E : ℕ) → 2 * t * S * E ≡ t * (2 * E * S)
        one t S E = omega arith

        two : (S M : ℕ) → S * M * (M * S) * S ≡ S * (S * M * (S * M))
        two S M = simp (mul_assoc, mul_comm, mul_left_comm)

-- ---- a fraction near one that is above zero is so too
above : (c B u e : ℕ) (A : ℤ) → nat_abs (pos c *ℤ pos B -ℤ A *ℤ pos u) ≤ e → e < c * B → A ≡ pos (nat_abs A)
above c B u e (pos n) h l = refl
above c B u e (negsuc n) h l = absurd (no (c * B) (suc n * u) e (le_trans (le_of_eq (sym (ap nat_abs (identity (var 0 :* var 1 :+ opp (opp (var 2) :* var 3)) (var 0 :* var 1 :+ var 2 :* var 3) tt (pos c ∷ pos B ∷ pos (suc n) ∷ pos u ∷ []) ∙ pos-+ℤ-pos (c * B) (suc n * u))))) h) l)
  where
    no : (a b e : ℕ) → a + b ≤ e → e < a → ⊥
    no a b e h l = omega (arith, h, l)

module _ (x n1 n2 : Float) (a : Admitted x n1 n2) (P Q : ℕ) (t : TwoPi P Q) (N : ℕ) (m : 11 ≤ N) where
  face : Facing x
  face = faces x a.angle a.cosine

  cos_in : In 1 2 1 0 (cos x)
  cos_in = gate_least quarter (cos x) quarter_in (cos_mag x (limit_mag x a.angle.most).fine) quarter_positive a.cosine

  cos_held : Held (cos x)
  cos_held = record { fine = plus_finite (cos x) cos_in.sign; held = cos_facing_fits x face P Q t }

  abbrev A : ℤ
  A = cosine_top (left x P Q) (Q * 2 ^ 1074) N

  abbrev B : ℕ
  B = cosine_bottom (Q * 2 ^ 1074) N

  B_pos : 0 < B
  B_pos = subst (λ (k : ℕ). 0 < cosine_bottom (Q * 2 ^ 1074) k) (back N m) (subst (λ (k : ℕ). 0 < k) (sym (Cos.bottom_is turned turned² (nat_abs (left x P Q)) (Q * 2 ^ 1074) _ (facing x face P Q t) (N - 1))) (Cos.K_pos turned turned² (nat_abs (left x P Q)) (Q * 2 ^ 1074) _ (facing x face P Q t) (N - 1)))
    where
      back : (N : ℕ) → 11 ≤ N → suc (N - 1) ≡ N
      back N h = omega (arith, h)

  -- the partial sum is near a cosine of a quarter at least
  is : A ≡ pos (nat_abs A)
  is = above (count (cos x)) B U (11 * 2 ^ 1021 * B) A (subst (λ (s : Bool). nat_abs (signed s (count (cos x)) *ℤ pos B -ℤ A *ℤ pos U) ≤ 11 * 2 ^ 1021 * B) (plus_sgn (cos x) cos_in.sign) (cos_facing x face P Q t N m)) (go (count (cos x)) B (11 * 2 ^ 1021) U B_pos (count_least 1 2 cos_held cos_in.least) (lit≤ tt))
    where
      go : (c B e v : ℕ) → 0 < B → 1 * v ≤ c * 2 ^ 2 → e * 4 < v → e * B < c * B
      go c B e v p h l = mul_lt (less c e v h l) p
        where
          less : (c e v : ℕ) → 1 * v ≤ c * 2 ^ 2 → e * 4 < v → e < c
          less c e v h l = omega (arith, h, l)

          mul_lt : {a b k : ℕ} → a < b → 0 < k → a * k < b * k
          mul_lt {a} {b} {k} h p = let i : suc a * k ≤ b * k = mul-le-mul_right k h in omega (arith, i, p)

  angle : Angled x
  angle = record { P = P; Q = Q; turn = t; N = N; terms = m; C = nat_abs A; K = B; top = is; bottom = refl }

  abbrev S : ℕ
  S = sine_bottom n2 B

  abbrev F : ℕ
  F = sine_top n1 (nat_abs A) B

  S_pos : 0 < S
  S_pos = let i : 0 < count n2 = le_trans (pow_pos 1074) (index_least a.substrate) in mul-pos (mul-pos i i) (mul-pos B_pos B_pos)

  F_under : F ≤ S
  unfolding angle
  F_under = go F S (refracts x n1 n2 a angle)
    where
      go : (v s : ℕ) → v * 32 ≤ 25 * s → v ≤ s
      go v s h = omega (arith, h)

  pub found : (E : ℕ) → Found x n1 n2 P Q N E
  found E = record {
    optics = record {
      P = P;
      Q = Q;
      turn = t;
      N = N;
      terms = m;
      C = nat_abs A;
      K = B;
      top = is;
      bottom = refl;
      t = isqrt ((S - F) * S * (2 * (2 ^ 60 + E) * (2 * (2 ^ 60 + E))));
      L = S * (2 * (2 ^ 60 + E));
      snell = record { base = mul-pos S_pos (some (2 ^ 60) E (pow_pos 60)); root = root S F (2 * (2 ^ 60 + E)) (2 ^ 60) S_pos F_under (first (2 ^ 60) E) };
    };
    turn = refl;
    over = refl;
    terms = refl;
    root = root S F (2 * (2 ^ 60 + E)) E S_pos F_under (second (2 ^ 60) E);
  }
    where
      some : (w e : ℕ) → 0 < w → 0 < 2 * (w + e)
      some w e h = omega (arith, h)

      first : (w e : ℕ) → 2 * w ≤ 2 * (w + e)
      first w e = omega arith

      second : (w e : ℕ) → 2 * e ≤ 2 * (w + e)
      second w e = omega arith

pub exists : Exists
exists = record { turn = record { base = lit≤ tt; least = lit≤ tt; most = lit≤ tt }; optics = found }
