-- R_s and R_p of every bare surface within 2 ^ -45 of the exact fractions. Assumes nothing.
use mathlib.Core.Path.{◌≡◌, refl, sym, ap, ◌∙◌, subst}
use Prim.Native.Nat.{ℕ, ◌+◌, ◌-◌, ◌*◌, ◌^◌, ◌≤◌, ◌<◌}
use native.Mathlib.Nat.{le_trans, le_of_eq, le_of_lt, lt_of_not-le, le_of_mul-le-mul_right, mul_assoc, mul_right_comm, mul-le-mul, mul-le-mul_left, mul-le-mul_right}
use native.Mathlib.Decide.{dec_le}
use native.Mathlib.Omega.{arith}
use mathlib.Core.Bool.{Bool, true, false, not, ◌&&◌, cond}
use lib.Dec.{T, lit≤}
use lib.Pow.{pow_pos}
use lib.Ieee.{Float, binary64, fits, lt, le, of_bits}
use lib.Ieee.Fits.{mul-fits}
use lib.Ieee.Bits.{cond_no}
use lib.Ieee.Positive.{num, den, den_pos, positive}
use Rattle.ieee.specs.Operators.{◌⊕◌, ◌⊖◌, ◌⊗◌, ◌⊘◌}
use Rattle.ieee.specs.Functions.{zero_f, one, quarter, max}
use Rattle.ieee.specs.Range.{In}
use Rattle.ieee.specs.Count.{count}
use Rattle.ieee.proofs.Range.Laws.{plus_finite, in_mag, in_lit, zero_under}
use Rattle.ieee.proofs.Range.Round.{le_cross}
use Rattle.ieee.proofs.Range.Constants.{one_in, zero_in}
use Rattle.ieee.proofs.Range.Sums.{sub_in}
use Rattle.ieee.proofs.Range.FromZero.{plus_clear}
use Rattle.ieee.proofs.Range.Tests.{gate_in, never_under, never_above, clamp_same, surely_below}
use Rattle.ieee_near.specs.Index.{Index, gap}
use Rattle.math_root.specs.Root.{sqrt}
use Rattle.near_abs.specs.Off.{Within}
use Rattle.near_abs.proofs.Within.{widen, untimes, known}
use Rattle.near_abs.proofs.Counts.{U, count_least}
use Rattle.near_abs.proofs.Laws.{Near}
use Rattle.fresnel.specs.declared.Reflectances.{Reflectances}
use Rattle.fresnel.specs.Fresnel.{sin2_t, cos_t, power, refracted, fresnel_dielectric}
use Rattle.fresnel_tilted.specs.Claim.{Snell, Refracts, Cosine, whole, reflected, transmitted, bound, Both, Tilted, EveryTilt}
use Rattle.fresnel_tilted.proofs.Refraction.{u, w, less_near, sine_in, left_in, t_in, root_near, root_least}
use Rattle.fresnel_tilted.proofs.Powers.{power_is, square_in, square_near}

-- the cosine's range
quarter_in : In 1 2 1 2 quarter
unfolding of_bits
quarter_in = in_lit quarter tt

quarter_positive : T (positive quarter && positive one)
unfolding of_bits
quarter_positive = tt

cosine_in : {C K : ℕ} {c : Float} → Cosine c C K → In 1 2 1 0 c
cosine_in {c = c} h = gate_in quarter one c quarter_in one_in quarter_positive h.least h.most

not_T : (b : Bool) → (T b → ⊥) → T (not b)
not_T true f = f tt
not_T false f = tt

below_one : (s : Float) → In 0 0 102 7 s → T (not (le one s))
unfolding of_bits
below_one s h = not_T (le one s) (λ t. no (num s) (den s) (den_pos s) (le_cross one s tt (plus_clear s h.sign) tt (plus_finite s h.sign) t) h.most)
  where
    no : (n d : ℕ) → 0 < d → 1 * d ≤ n * 1 → n * 2 ^ 7 ≤ 102 * d → ⊥
    no n d p a b = omega (arith, p, a, b)

cond_yes : (b : Bool) (x y : Float) → T b → cond b x y ≡ x
cond_yes true x y t = refl
cond_yes false x y t = absurd t

max_same : (x : Float) → In 26 7 1 0 x → max x zero_f ≡ x
unfolding max
max_same x h = cond_yes (lt zero_f x) x zero_f (surely_below h zero_in tt)

-- what is not reflected goes on
pub rest_is : (a b : ℕ) → whole a b - reflected a b ≡ transmitted a b
rest_is a b = go (dec_le b a)
  where
    more : (b d : ℕ) → (b + d + b) * (b + d + b) - d * d ≡ 4 * ((b + d) * b)
    more b d = less ((b + d + b) * (b + d + b)) (d * d) (4 * ((b + d) * b)) (omega arith)
      where
        less : (x y z : ℕ) → x ≡ z + y → x - y ≡ z
        less x y z e = omega (arith, e)

    more' : (a d : ℕ) → (a + (a + d)) * (a + (a + d)) - d * d ≡ 4 * (a * (a + d))
    more' a d = less ((a + (a + d)) * (a + (a + d))) (d * d) (4 * (a * (a + d))) (omega arith)
      where
        less : (x y z : ℕ) → x ≡ z + y → x - y ≡ z
        less x y z e = omega (arith, e)

    back : (a b : ℕ) → b ≤ a → a ≡ b + (a - b)
    back a b h = omega (arith, h)

    gap_l : (a b : ℕ) → b ≤ a → gap a b ≡ a - b
    gap_l a b h = omega (arith, h)

    gap_r : (a b : ℕ) → a ≤ b → gap a b ≡ b - a
    gap_r a b h = omega (arith, h)

    go : Dec (b ≤ a) → whole a b - reflected a b ≡ transmitted a b
    go (yes h) = ap (λ (g : ℕ). whole a b - g * g) (gap_l a b h) ∙ subst (λ (x : ℕ). (x + b) * (x + b) - (a - b) * (a - b) ≡ 4 * (x * b)) (sym (back a b h)) (more b (a - b))
    go (no h) =
        let l : a ≤ b = le_of_lt (lt_of_not-le h) in
        ap (λ (g : ℕ). whole a b - g * g) (gap_r a b l) ∙ subst (λ (x : ℕ). (a + x) * (a + x) - (b - a) * (b - a) ≡ 4 * (a * x)) (sym (back b a l)) (more' a (b - a))

module _ (c n1 n2 : Float) (i1 : Index n1) (i2 : Index n2) (C K T' L : ℕ) (ch : Cosine c C K) (sn : Snell n1 n2 C K T' L) (rf : Refracts n1 n2 C K) where
  least_in : In 1 2 1 0 c
  least_in = cosine_in ch

  ci : In 0 0 1 0 c
  ci = record { sign = least_in.sign; least = zero_under _ _; most = least_in.most }

  cn : Near (98 * w) C K c
  cn = record {
    ok = record { fine = plus_finite c ci.sign; held = ch.held };
    base = ch.base;
    off = untimes (98 * w * K) (count c * K) (C * U) K ch.base (widen (go w (K * K) (C * C) (98 * w * K * K) (mul_assoc (98 * w) K K)) (known refl refl (mul_right_comm C K U) ch.near));
  }
    where
      go : (w q c t : ℕ) → t ≡ 98 * w * q → w * (25 * q + 73 * (q - c)) ≤ t
      go w q c t e = le_trans (mul-le-mul_left w (less q c)) (le_of_eq (one w q ∙ sym e))
        where
          less : (q c : ℕ) → 25 * q + 73 * (q - c) ≤ 98 * q
          less q c = omega arith

          one : (w q : ℕ) → w * (98 * q) ≡ 98 * w * q
          one w q = omega arith

  -- C / K is 100 / 401 at least
  cl : 100 * K ≤ 401 * C
  cl = le_of_mul-le-mul_right (go (count c) K C U (98 * w) cn.off.most (count_least 1 2 cn.ok least_in.least) (lit≤ tt)) (pow_pos 1074)
    where
      go : (c K C v e : ℕ) → c * K ≤ C * v + e * K → 1 * v ≤ c * 2 ^ 2 → e * 160400 ≤ v → 100 * K * v ≤ 401 * C * v
      go c K C v e h q s =
          let i : 1 * v * K ≤ c * 2 ^ 2 * K = mul-le-mul_right K q in
          let j : e * 160400 * K ≤ v * K = mul-le-mul_right K s in
          omega (arith, h, i, j)

  abbrev s : Float
  s = sin2_t c n1 n2

  abbrev t : Float
  t = sqrt (one ⊖ s)

  tn : Near (176 * u) T' L t
  tn = root_near c n1 n2 i1 i2 C K T' L ci cn ch.under ch.near sn rf

  ti : In 115 8 1 0 t
  ti = t_in c n1 n2 i1 i2 C K T' L ci cn ch.under ch.near sn rf

  tl : 4 * L ≤ 9 * T'
  tl = root_least c n1 n2 i1 i2 C K T' L ci cn ch.under ch.near sn rf

  reflects : (n m : Float) → Index n → Index m → Both (count n * C * L) (count m * T' * K) (power (n ⊗ c ⊖ m ⊗ t) (n ⊗ c ⊕ m ⊗ t))
  reflects n m i j =
      let a = count n * C * L in
      let b = count m * T' * K in
      let q = (n ⊗ c ⊖ m ⊗ t) ⊘ (n ⊗ c ⊕ m ⊗ t) in
      let r = square_near c t n m i j C K T' L ci cn cl ti tn tl in
      let ri = square_in c t n m i j C K T' L ci cn cl ti tn tl in
      let oi : In 0 0 1 0 (one ⊖ q ⊗ q) = sub_in one_in ri tt in
      let o = less_near ri r (mul-le-mul (apart a b) (apart a b)) in
      subst (λ (x : Float). Both a b x) (sym (power_is c t n m i j C K T' L ci cn cl ti tn tl))
      (record {
        reflects = record { base = r.base; sign = ri.sign; near = widen (mul-le-mul_right (whole a b) (lit≤ {m = 231 * u} {n = bound} tt)) r.off };
        transmits = record {
          base = r.base;
          sign = oi.sign;
          near =
              widen (mul-le-mul_right (whole a b) (lit≤ {m = 232 * u} {n = bound} tt))
              (subst (λ (z : ℕ). Within (232 * u * whole a b) (count (one ⊖ q ⊗ q) * whole a b) (z * U)) (rest_is a b) o.off);
        };
      })
    where
      apart : (a b : ℕ) → gap a b ≤ a + b
      apart a b = omega arith

  power_fits : (n m : Float) → Index n → Index m → T (fits binary64 (power (n ⊗ c ⊖ m ⊗ t) (n ⊗ c ⊕ m ⊗ t)))
  power_fits n m i j = subst (λ (x : Float). T (fits binary64 x)) (sym (power_is c t n m i j C K T' L ci cn cl ti tn tl)) (mul-fits binary64 _ _)

  dielectric_is : fresnel_dielectric c n1 n2 ≡ refracted c t n1 n2
  unfolding fresnel_dielectric cos_t
  dielectric_is =
      ap (λ (x : Float). cond (le one (sin2_t x n1 n2)) (record { rs = one; rp = one }) (refracted x (cos_t (sin2_t x n1 n2)) n1 n2)) (clamp_same c zero_f one (never_under ci zero_in tt) (never_above one_in (in_mag ci) tt))
      ∙ cond_no (le one s) (record { rs = one; rp = one }) (refracted c (cos_t s) n1 n2) (below_one s (sine_in c n1 n2 i1 i2 C K T' L ci cn ch.under ch.near sn rf))
      ∙ ap (λ (w : Float). refracted c (sqrt w) n1 n2) (max_same (one ⊖ s) (left_in c n1 n2 i1 i2 C K T' L ci cn ch.under ch.near sn rf))

  -- and it is an f64
  pub held : (T (fits binary64 (fresnel_dielectric c n1 n2).rs)) × (T (fits binary64 (fresnel_dielectric c n1 n2).rp))
  unfolding refracted
  held = subst (λ (r : Reflectances). (T (fits binary64 r.rs)) × (T (fits binary64 r.rp))) (sym dielectric_is) (power_fits n1 n2 i1 i2, power_fits n2 n1 i2 i1)

  pub tilted : Tilted n1 n2 C K T' L (fresnel_dielectric c n1 n2)
  unfolding refracted
  tilted = subst (λ (r : Reflectances). Tilted n1 n2 C K T' L r) (sym dielectric_is) (record { s = reflects n1 n2 i1 i2; p = reflects n2 n1 i2 i1 })

pub every_tilt : EveryTilt
every_tilt c n1 n2 i1 i2 C K T' L ch rf sn = tilted c n1 n2 i1 i2 C K T' L ch sn rf
