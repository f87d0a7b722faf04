-- From a bound on the sine to one on 1 - cos², for the partial sums. Assumes nothing.
use mathlib.Core.Path.{◌≡◌, refl, sym, ap, ap₂, ◌∙◌, subst}
use mathlib.Core.List.{List, [], ◌∷◌}
use Prim.Native.Nat.{ℕ, zero, suc, ◌+◌, ◌-◌, ◌*◌, ◌^◌, ◌≤◌, ◌<◌}
use native.Mathlib.Nat.{le_refl, le_trans, le_of_eq, lt_of_lt_of_le, mul_comm, mul_assoc, mul_left_comm, mul_right_comm, mul-le-mul, mul-le-mul_left, mul-le-mul_right, le_of_mul-le-mul_right, mul-pos, mul-sub}
use native.Mathlib.Omega.{arith}
use lib.Dec.{lit≤}
use lib.IntN.{ℤ, pos}
use Rattle.whole_ring.proofs.Solver.{Ex, var, con, ◌:+◌, ◌:*◌}
use Rattle.whole_ring.proofs.Naturals.{naturals}
use Rattle.trig_near.specs.Sums.{sine_steps, cosine_steps}
use Rattle.trig_near.proofs.Runs.{run_top, run_bottom}
use Rattle.trig_near.proofs.Pythagoras.{from, three, four_terms}

-- a sum s / k with the first four terms: k is d·Y³·B, and s at least those terms times B
pub record Four (d Z Y o e s k : ℕ) : Type 0 where
  pub A : ℕ
  pub B : ℕ
  pub above : 0 < B
  pub under : A ≤ B
  pub base : k ≡ d * Y * Y * Y * B
  pub is : s + (o * Z * Y * Y * B + Z * Z * Z * A) ≡ (d * Y * Y * Y + e * Z * Z * Y) * B

module _ (Z Y : ℕ) (y : 0 < Y) (z : Z * 2 ≤ 5 * Y) where
  -- a difference that is not cut off
  back : (d B A : ℕ) → 3 ≤ d → A ≤ B → Y * d * B - Z * A + Z * A ≡ Y * d * B
  back d B A h l = go (Y * d * B) (Z * A) (le_trans (mul-le-mul (less d h) l) (le_refl (Y * d * B)))
    where
      go : (a b : ℕ) → b ≤ a → a - b + b ≡ a
      go a b h = omega (arith, h)

      less : (d : ℕ) → 3 ≤ d → Z ≤ Y * d
      less d h = let m : Y * 3 ≤ Y * d = mul-le-mul_left Y h in over Z Y d z m
        where
          over : (Z Y d : ℕ) → Z * 2 ≤ 5 * Y → Y * 3 ≤ Y * d → Z ≤ Y * d
          over Z Y d a b = omega (arith, a, b)

  sub-le : (a b : ℕ) → a - b ≤ a
  sub-le a b = omega arith

  sine_four : (N : ℕ) → Four 5040 Z Y 840 42 (run_top sine_steps Z Y (3 + N) 1 1) (run_bottom sine_steps Y (3 + N) 1)
  unfolding run_top run_bottom
  sine_four N = from sine_steps Z Y 3 (Four 5040 Z Y 840 42) (λ k. mul-pos y (steps k)) at N 1 1 (lit≤ tt) (lit≤ tt)
    where
      steps : (k : ℕ) → 0 < sine_steps (suc k)
      steps k = omega arith

      at : (A B : ℕ) → 0 < B → A ≤ B → Four 5040 Z Y 840 42 (run_top sine_steps Z Y 3 A B) (run_bottom sine_steps Y 3 B)
      at A B b l =
          let q = Y * 42 * B - Z * A in
          let r = Y * 20 * (Y * 42 * B) - Z * q in
          let s = Y * 6 * (Y * 20 * (Y * 42 * B)) - Z * r in
          record {
            A = A;
            B = B;
            above = b;
            under = l;
            base = naturals (var 0 :* con (pos 6) :* (var 0 :* con (pos 20) :* (var 0 :* con (pos 42) :* var 1))) (con (pos 5040) :* var 0 :* var 0 :* var 0 :* var 1) tt (Y ∷ B ∷ []);
            is =
                ap (λ (n : ℕ). s + (n + Z * Z * Z * A)) (naturals (con (pos 840) :* var 2 :* var 0 :* var 0 :* var 1) (var 2 :* (var 0 :* con (pos 20) :* (var 0 :* con (pos 42) :* var 1))) tt (Y ∷ B ∷ Z ∷ []))
                ∙ assoc s (Z * (Y * 20 * (Y * 42 * B))) (Z * Z * Z * A)
                ∙ three 6 20 42 Z Y A B q r s (back 42 B A (lit≤ tt) l) (back 20 (Y * 42 * B) q (lit≤ tt) (sub-le (Y * 42 * B) (Z * A))) (back 6 (Y * 20 * (Y * 42 * B)) r (lit≤ tt) (sub-le (Y * 20 * (Y * 42 * B)) (Z * q)))
                ∙ naturals (var 0 :* con (pos 6) :* (var 0 :* con (pos 20) :* (var 0 :* con (pos 42) :* var 1)) :+ var 2 :* var 2 :* (var 0 :* con (pos 42) :* var 1)) ((con (pos 5040) :* var 0 :* var 0 :* var 0 :+ con (pos 42) :* var 2 :* var 2 :* var 0) :* var 1) tt (Y ∷ B ∷ Z ∷ []);
          }
        where
          assoc : (a b c : ℕ) → a + (b + c) ≡ a + b + c
          assoc a b c = omega arith

  abbrev later : ℕ → ℕ
  later k = cosine_steps (suc k)

  -- C is what is left of the last step
  cosine_four : (N C : ℕ) → C + Z * run_top later Z Y (2 + N) 1 1 ≡ Y * 2 * run_bottom later Y (2 + N) 1 → Four 720 Z Y 360 30 C (Y * 2 * run_bottom later Y (2 + N) 1)
  unfolding run_top run_bottom
  cosine_four N C = from later Z Y 2 (λ (a b : ℕ). C + Z * a ≡ Y * 2 * b → Four 720 Z Y 360 30 C (Y * 2 * b)) (λ k. mul-pos y (steps k)) at N 1 1 (lit≤ tt) (lit≤ tt)
    where
      steps : (k : ℕ) → 0 < later (suc k)
      steps k = omega arith

      at : (A B : ℕ) → 0 < B → A ≤ B → C + Z * run_top later Z Y 2 A B ≡ Y * 2 * run_bottom later Y 2 B → Four 720 Z Y 360 30 C (Y * 2 * run_bottom later Y 2 B)
      at A B b l e =
          let q = Y * 30 * B - Z * A in
          let r = Y * 12 * (Y * 30 * B) - Z * q in
          record {
            A = A;
            B = B;
            above = b;
            under = l;
            base = naturals (var 0 :* con (pos 2) :* (var 0 :* con (pos 12) :* (var 0 :* con (pos 30) :* var 1))) (con (pos 720) :* var 0 :* var 0 :* var 0 :* var 1) tt (Y ∷ B ∷ []);
            is =
                ap (λ (n : ℕ). C + (n + Z * Z * Z * A)) (naturals (con (pos 360) :* var 2 :* var 0 :* var 0 :* var 1) (var 2 :* (var 0 :* con (pos 12) :* (var 0 :* con (pos 30) :* var 1))) tt (Y ∷ B ∷ Z ∷ []))
                ∙ assoc C (Z * (Y * 12 * (Y * 30 * B))) (Z * Z * Z * A)
                ∙ three 2 12 30 Z Y A B q r C (back 30 B A (lit≤ tt) l) (back 12 (Y * 30 * B) q (lit≤ tt) (sub-le (Y * 30 * B) (Z * A))) e
                ∙ naturals (var 0 :* con (pos 2) :* (var 0 :* con (pos 12) :* (var 0 :* con (pos 30) :* var 1)) :+ var 2 :* var 2 :* (var 0 :* con (pos 30) :* var 1)) ((con (pos 720) :* var 0 :* var 0 :* var 0 :+ con (pos 30) :* var 2 :* var 2 :* var 0) :* var 1) tt (Y ∷ B ∷ Z ∷ []);
          }
        where
          assoc : (a b c : ℕ) → a + (b + c) ≡ a + b + c
          assoc a b c = omega arith

  -- the four terms as a whole number t, and that s is t·B at least
  pub record Terms (d o e s k : ℕ) : Type 0 where
    pub t : ℕ
    pub B : ℕ
    pub above : 0 < B
    pub base : k ≡ d * Y * Y * Y * B
    pub is : t + (o * Z * Y * Y + Z * Z * Z) ≡ d * Y * Y * Y + e * Z * Z * Y
    pub least : t * B ≤ s

  cubed : Z * Z * Z * 8 ≤ 125 * (Y * Y * Y)
  cubed = le_trans (le_of_eq (naturals (var 0 :* var 0 :* var 0 :* con (pos 8)) (var 0 :* con (pos 2) :* (var 0 :* con (pos 2)) :* (var 0 :* con (pos 2))) tt (Z ∷ []))) (le_trans (mul-le-mul (mul-le-mul z z) z) (le_of_eq (naturals (con (pos 5) :* var 0 :* (con (pos 5) :* var 0) :* (con (pos 5) :* var 0)) (con (pos 125) :* (var 0 :* var 0 :* var 0)) tt (Y ∷ []))))

  terms : (d o e s k : ℕ) → o * Z * Y * Y + Z * Z * Z ≤ d * Y * Y * Y + e * Z * Z * Y → Four d Z Y o e s k → Terms d o e s k
  terms d o e s k h f =
      let t = d * Y * Y * Y + e * Z * Z * Y - (o * Z * Y * Y + Z * Z * Z) in
      let i : t + (o * Z * Y * Y + Z * Z * Z) ≡ d * Y * Y * Y + e * Z * Z * Y = whole (d * Y * Y * Y + e * Z * Z * Y) (o * Z * Y * Y + Z * Z * Z) h in
      record {
        t = t;
        B = f.B;
        above = f.above;
        base = f.base;
        is = i;
        least = go t (o * Z * Y * Y) (Z * Z * Z) (d * Y * Y * Y + e * Z * Z * Y) f.A f.B s f.under i f.is;
      }
    where
      whole : (a b : ℕ) → b ≤ a → a - b + b ≡ a
      whole a b h = omega (arith, h)

      go : (t p q r A B s : ℕ) → A ≤ B → t + (p + q) ≡ r → s + (p * B + q * A) ≡ r * B → t * B ≤ s
      go t p q r A B s l i j =
          let m : q * A ≤ q * B = mul-le-mul_left q l in
          let n : (t + (p + q)) * B ≡ r * B = ap (λ (x : ℕ). x * B) i in
          omega (arith, m, n, j)

  pub sine_terms : (N : ℕ) → Terms 5040 840 42 (run_top sine_steps Z Y (3 + N) 1 1) (run_bottom sine_steps Y (3 + N) 1)
  sine_terms N = terms 5040 840 42 _ _ (low (le_trans (mul-le-mul_right (Y * Y) z) (le_refl (5 * Y * (Y * Y)))) cubed) (sine_four N)
    where
      low : Z * 2 * (Y * Y) ≤ 5 * Y * (Y * Y) → Z * Z * Z * 8 ≤ 125 * (Y * Y * Y) → 840 * Z * Y * Y + Z * Z * Z ≤ 5040 * Y * Y * Y + 42 * Z * Z * Y
      low a b = omega (arith, a, b)

  -- a sum of 1/5 at least
  pub cosine_terms : (N C : ℕ) → C + Z * run_top later Z Y (2 + N) 1 1 ≡ Y * 2 * run_bottom later Y (2 + N) 1 → Y * 2 * run_bottom later Y (2 + N) 1 ≤ 5 * C → Terms 720 360 30 C (Y * 2 * run_bottom later Y (2 + N) 1)
  cosine_terms N C e l =
      let f = cosine_four N C e in
      terms 720 360 30 _ _
      (le_of_mul-le-mul_right
      (low (360 * Z * Y * Y) (Z * Z * Z) (720 * Y * Y * Y + 30 * Z * Z * Y) (Y * Y * Y) f.A f.B C (Y * 2 * run_bottom later Y (2 + N) 1) f.is (f.base ∙ naturals (con (pos 720) :* var 0 :* var 0 :* var 0 :* var 1) (con (pos 720) :* (var 0 :* var 0 :* var 0 :* var 1)) tt (Y ∷ f.B ∷ [])) l cubed)
      f.above)
      f
    where
      low : (p q r g A B C K : ℕ) → C + (p * B + q * A) ≡ r * B → K ≡ 720 * (g * B) → K ≤ 5 * C → q * 8 ≤ 125 * g → (p + q) * B ≤ r * B
      low p q r g A B C K i j k h = let m : q * 8 * B ≤ 125 * g * B = mul-le-mul_right B h in omega (arith, i, j, k, m)

  -- ---- from n1·sin, which is some 7/8·n2 at most, to n1²·(1 - cos²)
  pub link : (n1 n2 N C M : ℕ) → n1 ≤ 4 * n2
      → (e : C + Z * run_top later Z Y (2 + N) 1 1 ≡ Y * 2 * run_bottom later Y (2 + N) 1)
      → Y * 2 * run_bottom later Y (2 + N) 1 ≤ 5 * C
      → 6400 * (n1 * n1) * (Z * (run_top sine_steps Z Y (3 + M) 1 1 * run_top sine_steps Z Y (3 + M) 1 1)) ≤ 4901 * (n2 * n2) * (Y * (run_bottom sine_steps Y (3 + M) 1 * run_bottom sine_steps Y (3 + M) 1))
      → let K = Y * 2 * run_bottom later Y (2 + N) 1 in 32 * (n1 * n1 * (K * K)) ≤ 25 * (n2 * n2 * (K * K)) + 32 * (n1 * n1 * (C * C))
  link n1 n2 N C M few e l g =
      let c = cosine_terms N C e l in
      let s = sine_terms M in
      let K = Y * 2 * run_bottom later Y (2 + N) 1 in
      let S = run_top sine_steps Z Y (3 + M) 1 1 in
      let H = run_bottom sine_steps Y (3 + M) 1 in
      let a = n1 * n1 in
      let b = n2 * n2 in
      let m = Y * Y * Y * Y * Y * Y * Y in
      let p = Z * (s.t * s.t) in
      let q = 49 * Y * (c.t * c.t) in
      let f1 : 6400 * a * p ≤ 4901 * 25401600 * b * m = first a b p m s.B (S * S) (H * H) Z Y s.above s.t (mul-le-mul s.least s.least) (ap₂ ◌*◌ s.base s.base) g in
      let f4 : 25377600 * m ≤ p + q = four_terms Z Y s.t c.t z s.is c.is in
      let f5 : 32 * (25401600 * (a * m)) ≤ 25 * (25401600 * (b * m)) + 32 * (a * q) = third a b p q m f1 (mul-le-mul_left a f4) (mul-le-mul_right m (le_trans (mul-le-mul few few) (le_of_eq (naturals (con (pos 4) :* var 0 :* (con (pos 4) :* var 0)) (con (pos 16) :* (var 0 :* var 0)) tt (n2 ∷ []))))) in
      last a b c.t c.B K C Y m y c.base c.least refl f5
    where
      first : (a b p m B SS HH Z Y : ℕ) → 0 < B → (t : ℕ) → t * B * (t * B) ≤ SS → HH ≡ 5040 * Y * Y * Y * B * (5040 * Y * Y * Y * B) → 6400 * a * (Z * SS) ≤ 4901 * b * (Y * HH) → 6400 * a * (Z * (t * t)) ≤ 4901 * 25401600 * b * (Y * Y * Y * Y * Y * Y * Y)
      first a b p m B SS HH Z Y b0 t h e g =
          le_of_mul-le-mul_right
          (le_trans (le_of_eq (naturals (con (pos 6400) :* var 0 :* (var 1 :* (var 2 :* var 2)) :* (var 3 :* var 3)) (con (pos 6400) :* var 0 :* (var 1 :* (var 2 :* var 3 :* (var 2 :* var 3)))) tt (a ∷ Z ∷ t ∷ B ∷ [])))
          (le_trans (mul-le-mul_left (6400 * a) (mul-le-mul_left Z h))
          (le_trans g
          (le_trans (le_of_eq (ap (λ (n : ℕ). 4901 * b * (Y * n)) e))
          (le_of_eq (naturals (con (pos 4901) :* var 0 :* (var 1 :* (con (pos 5040) :* var 1 :* var 1 :* var 1 :* var 2 :* (con (pos 5040) :* var 1 :* var 1 :* var 1 :* var 2)))) (con (pos 4901) :* con (pos 25401600) :* var 0 :* (var 1 :* var 1 :* var 1 :* var 1 :* var 1 :* var 1 :* var 1) :* (var 2 :* var 2)) tt (b ∷ Y ∷ B ∷ [])))))))
          (mul-pos b0 b0)

      third : (a b p q m : ℕ) → 6400 * a * p ≤ 4901 * 25401600 * b * m → a * (25377600 * m) ≤ a * (p + q) → a * m ≤ 16 * b * m → 32 * (25401600 * (a * m)) ≤ 25 * (25401600 * (b * m)) + 32 * (a * q)
      third a b p q m f g h = go (a * p) (a * q) (a * m) (b * m) (le_trans (le_of_eq (sym (mul_assoc 6400 a p))) (le_trans f (le_of_eq (mul_assoc (4901 * 25401600) b m)))) (le_trans (le_of_eq (one a m)) (le_trans g (le_of_eq (two a p q)))) (le_trans h (le_of_eq (mul_assoc 16 b m)))
        where
          one : (a m : ℕ) → 25377600 * (a * m) ≡ a * (25377600 * m)
          one a m = omega arith

          two : (a p q : ℕ) → a * (p + q) ≡ a * p + a * q
          two a p q = omega arith

          go : (ap aq am bm : ℕ) → 6400 * ap ≤ 4901 * 25401600 * bm → 25377600 * am ≤ ap + aq → am ≤ 16 * bm → 32 * (25401600 * am) ≤ 25 * (25401600 * bm) + 32 * aq
          go ap aq am bm f g h = omega (arith, f, g, h)

      last : (a b t B K C Y m : ℕ) → 0 < Y → K ≡ 720 * Y * Y * Y * B → t * B ≤ C → m ≡ Y * Y * Y * Y * Y * Y * Y → 32 * (25401600 * (a * m)) ≤ 25 * (25401600 * (b * m)) + 32 * (a * (49 * Y * (t * t))) → 32 * (a * (K * K)) ≤ 25 * (b * (K * K)) + 32 * (a * (C * C))
      last a b t B K C Y m y0 k h em f =
          let g : (32 * (25401600 * (a * m))) * (B * B) ≤ (25 * (25401600 * (b * m)) + 32 * (a * (49 * Y * (t * t)))) * (B * B) = mul-le-mul_right (B * B) f in
          let i : 32 * a * (49 * Y) * (t * B * (t * B)) ≤ 32 * a * (49 * Y) * (C * C) = mul-le-mul_left (32 * a * (49 * Y)) (mul-le-mul h h) in
          le_of_mul-le-mul_right
          (go (32 * (a * (K * K)) * (49 * Y)) ((32 * (25401600 * (a * m))) * (B * B)) ((25 * (25401600 * (b * m)) + 32 * (a * (49 * Y * (t * t)))) * (B * B)) (32 * a * (49 * Y) * (t * B * (t * B))) (32 * a * (49 * Y) * (C * C)) (25 * (b * (K * K)) * (49 * Y)) _
          (ap (λ (n : ℕ). 32 * (a * (n * n)) * (49 * Y)) k ∙ naturals (con (pos 32) :* (var 0 :* (con (pos 720) :* var 1 :* var 1 :* var 1 :* var 2 :* (con (pos 720) :* var 1 :* var 1 :* var 1 :* var 2))) :* (con (pos 49) :* var 1)) (con (pos 32) :* (con (pos 25401600) :* (var 0 :* (var 1 :* var 1 :* var 1 :* var 1 :* var 1 :* var 1 :* var 1))) :* (var 2 :* var 2)) tt (a ∷ Y ∷ B ∷ []) ∙ ap (λ (n : ℕ). 32 * (25401600 * (a * n)) * (B * B)) (sym em))
          g
          (split b m a Y t B ∙ ap (λ (n : ℕ). n + 32 * a * (49 * Y) * (t * B * (t * B)))
          (ap (λ (n : ℕ). 25 * (25401600 * (b * n)) * (B * B)) em ∙ naturals (con (pos 25) :* (con (pos 25401600) :* (var 0 :* (var 1 :* var 1 :* var 1 :* var 1 :* var 1 :* var 1 :* var 1))) :* (var 2 :* var 2)) (con (pos 25) :* (var 0 :* (con (pos 720) :* var 1 :* var 1 :* var 1 :* var 2 :* (con (pos 720) :* var 1 :* var 1 :* var 1 :* var 2))) :* (con (pos 49) :* var 1)) tt (b ∷ Y ∷ B ∷ []) ∙ ap (λ (n : ℕ). 25 * (b * (n * n)) * (49 * Y)) (sym k)))
          i
          (naturals ((con (pos 25) :* (var 0 :* (var 1 :* var 1)) :+ con (pos 32) :* (var 2 :* (var 3 :* var 3))) :* (con (pos 49) :* var 4)) (con (pos 25) :* (var 0 :* (var 1 :* var 1)) :* (con (pos 49) :* var 4) :+ con (pos 32) :* var 2 :* (con (pos 49) :* var 4) :* (var 3 :* var 3)) tt (b ∷ K ∷ a ∷ C ∷ Y ∷ [])))
          (mul-pos (lit≤ {m = 1} {n = 49} tt) y0)
        where
          split : (b m a Y t B : ℕ) → (25 * (25401600 * (b * m)) + 32 * (a * (49 * Y * (t * t)))) * (B * B) ≡ 25 * (25401600 * (b * m)) * (B * B) + 32 * a * (49 * Y) * (t * B * (t * B))
          split b m a Y t B = naturals ((con (pos 25) :* (con (pos 25401600) :* (var 0 :* var 1)) :+ con (pos 32) :* (var 2 :* (con (pos 49) :* var 3 :* (var 4 :* var 4)))) :* (var 5 :* var 5)) (con (pos 25) :* (con (pos 25401600) :* (var 0 :* var 1)) :* (var 5 :* var 5) :+ con (pos 32) :* var 2 :* (con (pos 49) :* var 3) :* (var 4 :* var 5 :* (var 4 :* var 5))) tt (b ∷ m ∷ a ∷ Y ∷ t ∷ B ∷ [])

          go : (x g1 g2 i1 i2 k r : ℕ) → x ≡ g1 → g1 ≤ g2 → g2 ≡ k + i1 → i1 ≤ i2 → r ≡ k + i2 → x ≤ r
          go x g1 g2 i1 i2 k r a b c d e = omega (arith, a, b, c, d, e)
