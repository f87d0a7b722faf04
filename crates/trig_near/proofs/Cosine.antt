-- cos of section 2 beside the partial sums of the cosine's series. Assumes nothing.
use mathlib.Core.Path.{◌≡◌, refl, sym, ap, ap₂, ◌∙◌, subst}
use mathlib.Core.List.{List, [], ◌∷◌}
use Prim.Native.Nat.{ℕ, zero, suc, ◌+◌, ◌-◌, ◌*◌, ◌^◌, ◌≤◌, ◌<◌}
use native.Mathlib.Nat.{le_refl, le_trans, le_of_eq, le_of_lt, lt_of_le_of_lt, lt_of_lt_of_le, mul-one, one-mul, mul_comm, mul_assoc, mul_left_comm, mul_right_comm, mul-le-mul, mul-le-mul_left, mul-le-mul_right, le_of_mul-le-mul_right, lt_of_mul-lt-mul_right, mul-lt-mul_of_pos_right, mul-pos, add-mul, lt_of_not-le}
use native.Mathlib.Decide.{dec_le}
use native.Mathlib.Omega.{arith}
use mathlib.Core.Bool.{Bool, true, false, not, ◌&&◌, cond, true≢false}
use lib.Dec.{T, lit≤, leb, leb→le, eqb, eqb→eq}
use lib.Pow.{pow_pos}
use lib.IntN.{ℤ, pos, neg_ℤ, nat_abs, ◌+ℤ◌, ◌-ℤ◌, ◌*ℤ◌, pos-*ℤ-pos, pos-+ℤ-pos}
use lib.Ieee.{Float, binary64, fits, of_bits, of_int}
use lib.Ieee.Fits.{and_l, and_r, sub-fits}
use lib.Ieee.Scale.{finite}
use lib.Ieee.Positive.{num, den, den_pos}
use Rattle.ieee.specs.Operators.{◌⊖◌, ◌⊗◌, ◌⊘◌}
use Rattle.ieee.specs.Functions.{one}
use Rattle.ieee.specs.Range.{sgn, In, Mag, plus, inb}
use Rattle.ieee.specs.Count.{count}
use Rattle.ieee.proofs.Count.{count_is}
use Rattle.ieee.proofs.Range.Laws.{plus_finite, in_lit, mul_in, sq_in, in_mag}
use Rattle.ieee.proofs.Range.Constants.{one_in}
use Rattle.ieee.proofs.Range.Sums.{sub_gap}
use Rattle.ieee.proofs.Range.Quotients.{div_in}
use Rattle.whole_ring.proofs.Solver.{Ex, var, con, ◌:+◌, ◌:*◌, opp, identity}
use Rattle.whole_f64.specs.Whole.{signed}
use Rattle.near_abs.specs.Off.{Within}
use Rattle.ieee_near.specs.Index.{gap}
use Rattle.near_abs.proofs.Within.{turn, chain, times, untimes, known, widen}
use Rattle.near_abs.proofs.Counts.{U, Held, count_most, count_least, Result, mul_off, div_off, sub_off, sub_clear, sub_turned}
use Rattle.math_trig.specs.Trig.{series, cos_div}
use Rattle.trig_near.specs.Sums.{bottom, top, cosine_steps}
use Rattle.math_phase.specs.Claim.{value}
use Rattle.trig_near.specs.Claim.{OffBy}
use Rattle.trig_near.proofs.Step.{grown, quotient}
use Rattle.trig_near.proofs.Runs.{run_top, run_bottom}
use Rattle.trig_near.proofs.Sums.{run, run_top_is, run_bottom_is, run_same, run_last, bottom_last, run_most, apart}
use Rattle.trig_near.proofs.Angle.{Beside}
use Rattle.trig_near.proofs.Series.{At, Squared, Divisor, Steps, zc, zs, product_small, one_count, one_held, err, start, sum_at}

-- ---- the divisors, by computation
abbrev pub stepb : (ℕ → ℕ) → (ℕ → Float) → ℕ → Bool
stepb D d k = inb 6 0 1000 0 (d (suc k)) && (fits binary64 (d (suc k)) && (eqb (count (d (suc k))) (D (suc k) * U) && leb 6 (D (suc k))))

abbrev pub stepsb : (ℕ → ℕ) → (ℕ → Float) → ℕ → Bool
stepsb D d zero = true
stepsb D d (suc m) = stepb D d m && stepsb D d m

steps_at : (D : ℕ → ℕ) (d : ℕ → Float) (k : ℕ) → T (stepb D d k) → Steps D d k
steps_at D d k t =
    let x = d (suc k) in
    let a = inb 6 0 1000 0 x in
    let b = fits binary64 x in
    let c = eqb (count x) (D (suc k) * U) in
    let e = leb 6 (D (suc k)) in
    let r : In 6 0 1000 0 x = in_lit x (and_l a (b && (c && e)) t) in
    let u = and_r a (b && (c && e)) t in
    let v = and_r b (c && e) u in
    record {
      is = record { ok = record { fine = plus_finite x r.sign; held = and_l b (c && e) u }; range = r; is = eqb→eq (count x) (D (suc k) * U) (and_l c e v) };
      six = leb→le 6 (D (suc k)) (and_r c e v);
    }

pub steps_of : (D : ℕ → ℕ) (d : ℕ → Float) (m : ℕ) → T (stepsb D d m) → (k : ℕ) → k < m → Steps D d k
steps_of D d zero t k h = absurd (none k h)
  where
    none : (k : ℕ) → k < 0 → ⊥
    none k h = omega (arith, h)
steps_of D d (suc m) t k h = go (dec_le m k) (steps_of D d m (and_r (stepb D d m) (stepsb D d m) t) k)
  where
    same : (k m : ℕ) → k < suc m → m ≤ k → k ≡ m
    same k m h l = omega (arith, h, l)

    go : Dec (m ≤ k) → (k < m → Steps D d k) → Steps D d k
    go (yes l) f = subst (λ (i : ℕ). Steps D d i) (sym (same k m h l)) (steps_at D d m (and_l (stepb D d m) (stepsb D d m) t))
    go (no l) f = f (lt_of_not-le l)

abbrev pub later : ℕ → ℕ
later k = cosine_steps (suc k)

abbrev pub later_f : ℕ → Float
later_f k = cos_div (suc k)

later_steps : T (stepsb later later_f 10)
unfolding of_int count fits
later_steps = tt

later_big : (k : ℕ) → 506 ≤ later (suc (10 + k))
later_big k = omega arith

-- ---- all steps but the last, for every partial sum from the eleventh term on
all_but_last : (d : ℕ → Float) (m : ℕ) (z p : Float) → series d (suc m) z p ≡ series d 1 z (series (λ k. d (suc k)) m z p)
unfolding series
all_but_last d zero z p = refl
all_but_last d (suc m) z p = all_but_last d m z (one ⊖ (p ⊗ z) ⊘ d (suc (suc m)))

-- ---- the last step: 1 - t, for a t up to 2
two_in : In 2 0 2 0 (cos_div 1)
unfolding of_int
two_in = in_lit (cos_div 1) tt

pub two_held : Held (cos_div 1)
unfolding of_int fits
two_held = record { fine = tt; held = tt }

pub two_count : count (cos_div 1) ≡ 2 * U
unfolding of_int count
two_count = refl

-- the error before and after it
abbrev pub before : ℕ → ℕ
before f = err f later 10 start

abbrev last_grown : ℕ → ℕ
last_grown f = grown zc zs f (2 ^ 1022) (2 ^ 1021) 2 (before f)

abbrev pub after : ℕ → ℕ
after f = last_grown f + 2 ^ 1021

-- t, in counts, is within last-grown of Z-as-A / (Y·2·B)
pub record Halved (f A B Z Y : ℕ) (t : Float) : Type 0 where
  pub ok : Held t
  pub range : In 0 0 2527 11 t
  pub off : Within (last_grown f * (Y * 2 * B)) (count t * (Y * 2 * B)) (Z * A * U)

halved : (f A B Z Y : ℕ) (z p : Float) → Squared f Z Y z → At (before f) A B p → A ≤ B → Halved f A B Z Y ((p ⊗ z) ⊘ cos_div 1)
halved f A B Z Y z p hz hp ab =
    let zm : count z * 2 ^ 10 ≤ 2527 * U = count_most 2527 10 hz.ok hz.range.most in
    let pm : count p * 2 ^ 0 ≤ 1 * U = count_most 1 0 hp.ok hp.range.most in
    let q : Result (count p * count z) U 1022 (p ⊗ z) = mul_off 1022 (lit≤ tt) hp.ok hz.ok (product_small (count p) (count z) (2 ^ (53 + suc 1022)) pm zm (lit≤ tt)) in
    let qr : In 0 0 2527 10 (p ⊗ z) = mul_in hp.range hz.range tt in
    let qm : count (p ⊗ z) * 2 ^ 10 ≤ 2527 * U = count_most 2527 10 q.ok qr.most in
    let dp : 0 < count (cos_div 1) = subst (λ (k : ℕ). 0 < k) (sym two_count) (mul-pos (lit≤ {m = 1} {n = 2} tt) (pow_pos 1074)) in
    let t : Result (count (p ⊗ z) * U) (count (cos_div 1)) 1021 ((p ⊗ z) ⊘ cos_div 1) =
    div_off 1021 (lit≤ tt) q.ok two_held dp (subst (λ (k : ℕ). count (p ⊗ z) * U < 2 ^ (53 + suc 1021) * k) (sym two_count) (small (count (p ⊗ z)) U (2 ^ (53 + suc 1021)) (pow_pos 1074) qm (lit≤ tt))) in
    record {
      ok = t.ok;
      range = div_in qr two_in tt;
      off =
          quotient U zc zs A B Y Z 2 (count p) (count z) (count (p ⊗ z)) (count ((p ⊗ z) ⊘ cos_div 1)) (before f) f (2 ^ 1022) (2 ^ 1021) (pow_pos 1074) (pow_pos 10) (lit≤ tt) ab zm hp.off hz.off q.off
          (share (count ((p ⊗ z) ⊘ cos_div 1)) (count (p ⊗ z)) (2 ^ 1021) (subst (λ (k : ℕ). Within (2 ^ 1021 * k) (count ((p ⊗ z) ⊘ cos_div 1) * k) (count (p ⊗ z) * U)) two_count t.off));
    }
  where
    small : (q u L : ℕ) → 0 < u → q * 2 ^ 10 ≤ 2527 * u → 2 * u ≤ L → q * u < L * (2 * u)
    small q u L P h l =
        let a : q < 4 * u = first q u P h in
        lt_of_lt_of_le (mul-lt-mul_of_pos_right a P) (le_trans (le_of_eq (four u)) (mul-le-mul_right (2 * u) l))
      where
        first : (q u : ℕ) → 0 < u → q * 2 ^ 10 ≤ 2527 * u → q < 4 * u
        first q u P h = omega (arith, P, h)

        four : (u : ℕ) → 4 * u * u ≡ 2 * u * (2 * u)
        four u = omega arith

    share : (t q h : ℕ) → Within (h * (2 * U)) (t * (2 * U)) (q * U) → Within (h * 2) (t * 2) q
    share t q h w = untimes (h * 2) (t * 2) q U (pow_pos 1074) (known (sym (mul_assoc h 2 U)) (sym (mul_assoc t 2 U)) refl w)

-- the two sides of 1, subtraction-free
up_side : (U t n K X g h : ℕ) → t ≤ U → Within (h * 1) (n * 1) (gap U t) → Within (g * K) (t * K) (X * U) → Within ((g + h) * K) (n * K + X * U) (K * U)
up_side U t n K X g h l w x =
    let a : Within (h * K) (n * K) ((U - t) * K) = times K (known (mul-one h) (mul-one n) (clear U t l) w) in
    let b : (U - t) * K + t * K ≡ U * K = whole U t K l in
    go (n * K) ((U - t) * K) (t * K) (X * U) (U * K) (K * U) (g * K) (h * K) ((g + h) * K) a x b (mul_comm U K) (sum g h K)
  where
    clear : (U t : ℕ) → t ≤ U → gap U t ≡ U - t
    clear U t l = omega (arith, l)

    whole : (U t K : ℕ) → t ≤ U → (U - t) * K + t * K ≡ U * K
    whole U t K l = sym (add-mul (U - t) t K) ∙ ap (λ (z : ℕ). z * K) (back U t l)
      where
        back : (U t : ℕ) → t ≤ U → U - t + t ≡ U
        back U t l = omega (arith, l)

    sum : (g h K : ℕ) → g * K + h * K ≡ (g + h) * K
    sum g h K = omega arith

    go : (n r t x u v g h s : ℕ) → Within h n r → Within g t x → r + t ≡ u → u ≡ v → g + h ≡ s → Within s (n + x) v
    go n r t x u v g h s a b c d e = omega (arith, a, b, c, d, e)

down_side : (U t n K X g h : ℕ) → U ≤ t → Within (h * 1) (n * 1) (gap U t) → Within (g * K) (t * K) (X * U) → Within ((g + h) * K) (n * K + K * U) (X * U)
down_side U t n K X g h l w x =
    let a : Within (h * K) (n * K) ((t - U) * K) = times K (known (mul-one h) (mul-one n) (clear U t l) w) in
    let b : (t - U) * K + U * K ≡ t * K = whole t U K l in
    go (n * K) ((t - U) * K) (t * K) (X * U) (U * K) (K * U) (g * K) (h * K) ((g + h) * K) a x b (mul_comm U K) (sum g h K)
  where
    clear : (U t : ℕ) → U ≤ t → gap U t ≡ t - U
    clear U t l = omega (arith, l)

    whole : (U t K : ℕ) → t ≤ U → (U - t) * K + t * K ≡ U * K
    whole U t K l = sym (add-mul (U - t) t K) ∙ ap (λ (z : ℕ). z * K) (back U t l)
      where
        back : (U t : ℕ) → t ≤ U → U - t + t ≡ U
        back U t l = omega (arith, l)

    sum : (g h K : ℕ) → g * K + h * K ≡ (g + h) * K
    sum g h K = omega arith

    go : (n r t x u v g h s : ℕ) → Within h n r → Within g t x → r + u ≡ t → u ≡ v → g + h ≡ s → Within s (n + v) x
    go n r t x u v g h s a b c d e = omega (arith, a, b, c, d, e)

-- |value - (K - X) / K| in counts
signed_off : (s : Bool) (n K X e : ℕ) → (s ≡ false → Within e (n * K + X * U) (K * U)) → (s ≡ true → Within e (n * K + K * U) (X * U))
    → nat_abs (signed s n *ℤ pos K -ℤ (pos K -ℤ pos X) *ℤ pos U) ≤ e
signed_off false n K X e f g =
    let w = f refl in
    le_trans (le_of_eq (ap nat_abs
    (identity (var 0 :* var 1 :+ opp ((var 1 :+ opp (var 2)) :* var 3)) (var 0 :* var 1 :+ var 2 :* var 3 :+ opp (var 1 :* var 3)) tt (pos n ∷ pos K ∷ pos X ∷ pos U ∷ [])
    ∙ ap₂ ◌-ℤ◌ (ap₂ ◌+ℤ◌ (pos-*ℤ-pos n K) (pos-*ℤ-pos X U) ∙ pos-+ℤ-pos (n * K) (X * U)) (pos-*ℤ-pos K U))))
    (apart (n * K + X * U) (K * U) e w.most w.least)
signed_off true n K X e f g =
    let w = g refl in
    le_trans (le_of_eq (ap nat_abs
    (identity (opp (var 0) :* var 1 :+ opp ((var 1 :+ opp (var 2)) :* var 3)) (var 2 :* var 3 :+ opp (var 0 :* var 1 :+ var 1 :* var 3)) tt (pos n ∷ pos K ∷ pos X ∷ pos U ∷ [])
    ∙ ap₂ ◌-ℤ◌ (pos-*ℤ-pos X U) (ap₂ ◌+ℤ◌ (pos-*ℤ-pos n K) (pos-*ℤ-pos K U) ∙ pos-+ℤ-pos (n * K) (K * U)))))
    (apart (X * U) (n * K + K * U) e w.least w.most)

-- 1 - t
module _ {f A B Z Y : ℕ} (t : Float) (h : Halved f A B Z Y t) where
  pub less : Result (gap U (count t)) 1 1021 (one ⊖ t)
  less =
      subst (λ (k : ℕ). Result (gap k (count t)) 1 1021 (one ⊖ t)) one_count
      (sub_off 1021 (lit≤ tt) one_in.sign h.range.sign one_held h.ok (subst (λ (k : ℕ). gap k (count t) < 2 ^ (53 + suc 1021) * 1) (sym one_count) (small (count t) U (pow_pos 1074) (count_most 2527 11 h.ok h.range.most))))
    where
      small : (t u : ℕ) → 0 < u → t * 2 ^ 11 ≤ 2527 * u → gap u t < 2 * u * 1
      small t u P h = omega (arith, P, h)

  pub clear_when : sgn (one ⊖ t) ≡ false → count t ≤ U
  clear_when e = go (dec_le (count t) U)
    where
      go : Dec (count t ≤ U) → count t ≤ U
      go (yes l) = l
      go (no l) = absurd (true≢false (sym (sub_turned one_in.sign h.range.sign one_held h.ok (subst (λ (k : ℕ). k < count t) (sym one_count) (lt_of_not-le l))) ∙ e))

  turned_when : sgn (one ⊖ t) ≡ true → U ≤ count t
  turned_when e = go (dec_le U (count t))
    where
      go : Dec (U ≤ count t) → U ≤ count t
      go (yes l) = l
      go (no l) = absurd (true≢false (sym e ∙ sub_clear one_in.sign h.range.sign one_held h.ok (subst (λ (k : ℕ). count t ≤ k) (sym one_count) (le_of_lt (lt_of_not-le l)))))

less_off : (f A B Z Y : ℕ) (t : Float) → Halved f A B Z Y t → nat_abs (value (one ⊖ t) *ℤ pos (Y * 2 * B) -ℤ (pos (Y * 2 * B) -ℤ pos (Z * A)) *ℤ pos U) ≤ after f * (Y * 2 * B)
less_off f A B Z Y t h =
    let K = Y * 2 * B in
    signed_off (sgn (one ⊖ t)) (count (one ⊖ t)) K (Z * A) (after f * K)
    (λ e. up_side U (count t) (count (one ⊖ t)) K (Z * A) (last_grown f) (2 ^ 1021) (clear_when t h e) (less t h).off h.off)
    (λ e. down_side U (count t) (count (one ⊖ t)) K (Z * A) (last_grown f) (2 ^ 1021) (turned_when t h e) (less t h).off h.off)

-- ---- the series, beside the sum of the first N = 11 + j terms after the 1
module _ (d f X W : ℕ) (r : Float) (b : Beside d f X W r) where
  abbrev Z : ℕ
  Z = X * X

  abbrev Y : ℕ
  Y = W * W

  y_pos : 0 < Y
  y_pos = mul-pos b.base b.base

  later_more : (k : ℕ) → Z ≤ Y * later (suc k)
  later_more k = go (Z) (Y) (later (suc k)) b.most (twelve k)
    where
      twelve : (k : ℕ) → 12 ≤ later (suc k)
      twelve k = omega arith

      go : (z y d : ℕ) → z * 2 ^ 10 ≤ 2527 * y → 12 ≤ d → z ≤ y * d
      go z y d a b = let c : y * 12 ≤ y * d = mul-le-mul_left y b in omega (arith, a, c)

  -- all but the last step
  pub inner : (j : ℕ) → At (before f) (run_top later (Z) (Y) (10 + j) 1 1) (run_bottom later (Y) (10 + j) 1) (series later_f 10 (r ⊗ r) one)
  inner j = sum_at f later later_f (Z) (Y) (r ⊗ r) (steps_of later later_f 10 later_steps) later_big y_pos b.most b.square j

  pub top_is : (N : ℕ) → top cosine_steps (Z) (Y) (suc N) ≡ pos (Y * 2 * run_bottom later (Y) N 1) -ℤ pos (Z * run_top later (Z) (Y) N 1 1)
  top_is N =
      sym (run_top_is cosine_steps (Z) (Y) (suc N)) ∙ run_last cosine_steps (Z) (Y) N (pos 1) (pos 1) 1 refl
      ∙ ap (λ (x : ℤ). pos (Y * 2) *ℤ pos (run_bottom later (Y) N 1) -ℤ pos (Z) *ℤ x) (run_same later (Z) (Y) N 1 1 later_more (lit≤ tt))
      ∙ ap₂ ◌-ℤ◌ (pos-*ℤ-pos (Y * 2) (run_bottom later (Y) N 1)) (pos-*ℤ-pos (Z) (run_top later (Z) (Y) N 1 1))

  pub bottom_is : (N : ℕ) → bottom cosine_steps (Y) (suc N) ≡ Y * 2 * run_bottom later (Y) N 1
  bottom_is N = sym (mul-one (bottom cosine_steps (Y) (suc N))) ∙ sym (run_bottom_is cosine_steps (Y) (suc N) 1) ∙ bottom_last cosine_steps (Y) N 1

  pub K_pos : (N : ℕ) → 0 < Y * 2 * run_bottom later Y N 1
  K_pos N = mul-pos (mul-pos y_pos (lit≤ {m = 1} {n = 2} tt)) (subst (λ (k : ℕ). 0 < k) (sym (run_bottom_is later Y N 1)) (mul-pos (go N) (lit≤ {m = 1} {n = 1} tt)))
    where
      some : (k : ℕ) → 0 < later (suc k)
      some k = omega arith

      go : (N : ℕ) → 0 < bottom later Y N
      go zero = lit≤ {m = 1} {n = 1} tt
      go (suc N) = mul-pos (go N) (mul-pos y_pos (some N))

  top_most : (N : ℕ) → run_top later (Z) (Y) N 1 1 ≤ run_bottom later (Y) N 1
  top_most N = run_most later (Z) (Y) N 1 1 (lit≤ tt)

  -- the rounded series, before it is clamped
  unfoldable pub raw : Float
  raw = series cos_div 11 (r ⊗ r) one

  pub last_of : raw ≡ one ⊖ (series later_f 10 (r ⊗ r) one ⊗ (r ⊗ r)) ⊘ cos_div 1
  unfolding series raw
  last_of = all_but_last cos_div 10 (r ⊗ r) one

  pub half_of : (j : ℕ) → Halved f (run_top later (Z) (Y) (10 + j) 1 1) (run_bottom later (Y) (10 + j) 1) (Z) (Y) ((series later_f 10 (r ⊗ r) one ⊗ (r ⊗ r)) ⊘ cos_div 1)
  half_of j = halved f (run_top later (Z) (Y) (10 + j) 1 1) (run_bottom later (Y) (10 + j) 1) (Z) (Y) (r ⊗ r) (series later_f 10 (r ⊗ r) one) b.square (inner j) (top_most (10 + j))

  pub raw_mag : Mag 1 0 raw
  raw_mag = subst (λ (x : Float). Mag 1 0 x) (sym last_of) (sub_gap one_in (half_of 0).range tt)

  pub raw_fits : T (fits binary64 raw)
  raw_fits = subst (λ (x : Float). T (fits binary64 x)) (sym last_of) (sub-fits binary64 one ((series later_f 10 (r ⊗ r) one ⊗ (r ⊗ r)) ⊘ cos_div 1))

  -- below zero it is less than 1/4 in size: t is 2527 / 2048 at most
  pub raw_small : sgn raw ≡ true → 1 * den raw ≤ num raw * 2 ^ 2 → ⊥
  raw_small s l =
      let t = (series later_f 10 (r ⊗ r) one ⊗ (r ⊗ r)) ⊘ cos_div 1 in
      let h = half_of 0 in
      let hr : Held raw = record { fine = raw_mag.fine; held = raw_fits } in
      no t h (sym (ap sgn last_of) ∙ s) (subst (λ (x : Float). 1 * U ≤ count x * 2 ^ 2) last_of (count_least 1 2 hr l))
    where
      clash : (c t u e : ℕ) → 0 < u → c * 1 ≤ gap u t + e * 1 → u ≤ t → t * 2 ^ 11 ≤ 2527 * u → 1 * u ≤ c * 2 ^ 2 → e * 2 ^ 10 ≤ u → ⊥
      clash c t u e p a b d f g = omega (arith, p, a, b, d, f, g)

      no : (t : Float) → Halved f (run_top later Z Y 10 1 1) (run_bottom later Y 10 1) Z Y t → sgn (one ⊖ t) ≡ true → 1 * U ≤ count (one ⊖ t) * 2 ^ 2 → ⊥
      no t h s l =
          let o : Result (gap U (count t)) 1 1021 (one ⊖ t) = less t h in
          clash (count (one ⊖ t)) (count t) U (2 ^ 1021) (pow_pos 1074) o.off.most (turned_when t h s) (count_most 2527 11 h.ok h.range.most) l (lit≤ tt)

  pub raw_off : (parts : ℕ) → after f ≤ parts * 2 ^ 1021 → (j : ℕ) → OffBy parts (top cosine_steps Z Y (suc (10 + j))) (bottom cosine_steps Y (suc (10 + j))) raw
  raw_off parts small j =
      let A = run_top later Z Y (10 + j) 1 1 in
      let B = run_bottom later Y (10 + j) 1 in
      let t = (series later_f 10 (r ⊗ r) one ⊗ (r ⊗ r)) ⊘ cos_div 1 in
      subst (λ (x : Float). OffBy parts (top cosine_steps Z Y (suc (10 + j))) (bottom cosine_steps Y (suc (10 + j))) x) (sym last_of)
      (subst (λ (b : ℕ). OffBy parts (top cosine_steps Z Y (suc (10 + j))) b (one ⊖ t)) (sym (bottom_is (10 + j)))
      (subst (λ (x : ℤ). OffBy parts x (Y * 2 * B) (one ⊖ t)) (sym (top_is (10 + j)))
      (le_trans (less_off f A B Z Y t (half_of j)) (mul-le-mul_right (Y * 2 * B) small))))
