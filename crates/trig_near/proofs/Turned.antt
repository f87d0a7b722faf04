-- sin and cos beside the partial sums of their series: of every f64 from -π/2 to π/2, and of an angle with turns. Assumes nothing.
use mathlib.Core.Path.{◌≡◌, refl, sym, ap, ap₂, ◌∙◌, subst}
use Prim.Native.Nat.{ℕ, suc, ◌+◌, ◌-◌, ◌*◌, ◌/◌, ◌^◌, ◌≤◌}
use native.Mathlib.Nat.{le_refl, le_trans, le_of_eq, mul_assoc, mul-pos, mul-le-mul_left, mul-le-mul_right}
use native.Mathlib.Omega.{arith}
use mathlib.Core.Logic.{◌⊎◌, inl, inr}
use mathlib.Core.Bool.{Bool, true, false, cond}
use lib.Dec.{T, lit≤}
use lib.Pow.{pow_pos}
use lib.IntN.{ℤ, pos, nat_abs, ◌-ℤ◌, ◌*ℤ◌}
use lib.Ieee.Fits.{sub-fits}
use lib.Ieee.{Float, nan, inf, fin, binary64, unlike, fits, lt, eq, le, up, down, of_bits}
use lib.Ieee.Bits.{cond_no}
use lib.Ieee.Positive.{num, den}
use lib.Ieee.Scale.{finite}
use Rattle.ieee.specs.Functions.{one, abs}
use Rattle.ieee.specs.Range.{sgn, In, Mag}
use Rattle.ieee.specs.Count.{count}
use Rattle.ieee.proofs.Range.Laws.{in_lit}
use Rattle.ieee.proofs.Range.Round.{lt_or_eq}
use Rattle.ieee.proofs.Range.Constants.{one_in}
use Rattle.ieee.proofs.Range.Falls.{le_up}
use Rattle.ieee.proofs.Range.AbsProduct.{abs_parts}
use Rattle.ieee.proofs.Range.Tests.{never_above, never_below, clamp_same}
use Rattle.math_trig.specs.Angles.{pi, half_pi, turns_limit}
use Rattle.math_trig.specs.Trig.{wrap, less_turns, reduce, first_line, fold, second_fold, cos_at, cos_of, cos, sin_at, sin}
use Rattle.math_trig.proofs.TrigBounds.{pi_in}
use Rattle.math_trig.proofs.Constants.{minus_one_is, minus_pi_is, minus_half_pi_is}
use Rattle.math_trig.proofs.Turned.{less_zero_same}
use Rattle.math_trig.proofs.Shifted.{up_to_pi}
use Rattle.whole_f64.specs.Whole.{signed}
use Rattle.whole_f64.proofs.Laws.{size_of, signed_mul}
use Rattle.math_phase.specs.Claim.{Thick, turns, value, two_pi}
use Rattle.math_phase.proofs.Claim.{phase}
use Rattle.near_abs.specs.Off.{Within}
use Rattle.near_abs.proofs.Within.{widen, known, times}
use Rattle.near_abs.proofs.Counts.{U}
use Rattle.trig_near.specs.Sums.{bottom, top, sine_steps, cosine_steps, sine_top, sine_bottom}
use Rattle.trig_near.specs.Claim.{OffBy, CosineAt, SineAt, TwoPi, left, Facing}
use Rattle.trig_near.proofs.Runs.{run_top, run_bottom}
use Rattle.trig_near.proofs.Sizes.{minus, whole, mul_size, sizes, between, alike, unlike_sizes, signs}
use Rattle.trig_near.proofs.Angle.{P, Beside, exactly, turned, turned², nearly}
use Rattle.trig_near.proofs.Sine.{top_is, sine_err, sin_at_fits, sin_sgn, sin_off, sin_small, sum_most}
use Rattle.trig_near.proofs.Cosine.{later, raw, raw_fits, raw_mag, after, raw_off}
use Rattle.trig_near.proofs.Fine.{fine}

pub half_pi_in : In P 52 P 52 half_pi
unfolding of_bits
half_pi_in = in_lit half_pi tt

pub half_pi_mag : (x : Float) → T (le (abs x) half_pi) → Mag P 52 x
unfolding le lt eq abs of_bits
half_pi_mag nan t = absurd t
half_pi_mag (inf s) t = absurd t
half_pi_mag (fin s m e) t = record { fine = tt; most = at (m * up e) (down e) (lt_or_eq (m * up e * 2 ^ 49) (884279719003555 * down e) true t) }
  where
    at : (n d : ℕ) → n * 2 ^ 49 ≤ 884279719003555 * d → n * 2 ^ 52 ≤ P * d
    at n d h = omega arith

pub abs_fits : (x : Float) → T (fits binary64 x) → T (fits binary64 (abs x))
unfolding fits abs
abs_fits nan h = h
abs_fits (inf s) h = h
abs_fits (fin s m e) h = h

pub cond_yes : (b : Bool) (x y : Float) → T b → cond b x y ≡ x
cond_yes true x y t = refl
cond_yes false x y t = absurd t

-- ---- what the series gives
module _ (y a : Float) (is : y ≡ cos_at a) (d g X W : ℕ) (b : Beside d g X W a) where
  pub raw_is : y ≡ raw d g X W a b
  unfolding cos_at raw
  raw_is = is ∙ clamp_same (raw d g X W a b) _ one (never_below minus_one_is one_in (raw_mag d g X W a b) tt) (never_above one_in (raw_mag d g X W a b) tt)

  pub cosine_at : (parts : ℕ) → after g ≤ parts * 2 ^ 1021 → (Z : ℤ) → nat_abs Z ≡ X → CosineAt parts Z W y
  cosine_at parts small Z e N n =
      subst (λ (n : ℕ). OffBy parts (top cosine_steps (n * n) (W * W) N) (bottom cosine_steps (W * W) N) y) (sym e)
      (subst (λ (k : ℕ). OffBy parts (top cosine_steps (X * X) (W * W) k) (bottom cosine_steps (W * W) k) y) (back N n)
      (subst (λ (z : Float). OffBy parts (top cosine_steps (X * X) (W * W) (suc (10 + (N - 11)))) (bottom cosine_steps (W * W) (suc (10 + (N - 11)))) z) (sym raw_is)
      (raw_off d g X W a b parts small (N - 11))))
    where
      back : (N : ℕ) → 11 ≤ N → suc (10 + (N - 11)) ≡ N
      back N n = omega (arith, n)

  pub cos_fits : T (fits binary64 y)
  cos_fits = subst (λ (z : Float). T (fits binary64 z)) (sym raw_is) (raw_fits d g X W a b)

module _ (x r : Float) (sin_is : sin x ≡ sin_at r) (d g X W : ℕ) (b : Beside d g X W r) where
  pub sin_fits : T (fits binary64 (sin x))
  sin_fits = subst (λ (y : Float). T (fits binary64 y)) (sym sin_is) (sin_at_fits d g X W r b)

  -- the sizes, for later
  pub sine_size : (parts : ℕ) → sine_err d g ≤ parts * 2 ^ 1021 → U ≤ sine_err d g * 2 ^ 53 → (j : ℕ)
      → let B = W * bottom sine_steps (W * W) (10 + j) in Within (parts * 2 ^ 1021 * B) (count (sin x) * B) (X * run_top sine_steps (X * X) (W * W) (10 + j) 1 1 * U)
  sine_size parts small enough j =
      let B = W * bottom sine_steps (W * W) (10 + j) in
      subst (λ (c : ℕ). Within (parts * 2 ^ 1021 * B) (c * B) (X * run_top sine_steps (X * X) (W * W) (10 + j) 1 1 * U)) (sym (ap count sin_is)) (widen (mul-le-mul_right B small) (sin_off d g X W r b j enough))

  -- and with the signs: those of r and of the angle are alike, or both are small
  pub sine_at : (parts : ℕ) → sine_err d g ≤ parts * 2 ^ 1021 → U ≤ sine_err d g * 2 ^ 53 → d + 2 ^ 1022 ≤ parts * 2 ^ 1021 → (s : Bool) → (sgn r ≡ s) ⊎ (count r * W + X * U ≤ d * W) → (Z : ℤ) → Z ≡ signed s X → SineAt parts Z W (sin x)
  sine_at parts small enough room s signs Z e N n =
      subst (λ (z : ℤ). OffBy parts (sine_top z W N) (sine_bottom W N) (sin x)) (sym e)
      (subst (λ (k : ℕ). OffBy parts (sine_top (signed s X) W k) (sine_bottom W k) (sin x)) (back N n)
      (subst (λ (y : ℕ). nat_abs (value (sin x) *ℤ pos B -ℤ signed s X *ℤ top sine_steps (y * y) (W * W) (10 + j) *ℤ pos (2 ^ 1074)) ≤ parts * 2 ^ 1021 * B) (sym (size_of s X))
      (subst (λ (z : ℤ). nat_abs (value (sin x) *ℤ pos B -ℤ signed s X *ℤ z *ℤ pos (2 ^ 1074)) ≤ parts * 2 ^ 1021 * B) (sym (top_is d g X W r b (10 + j)))
      (with_signs (sgn (sin x)) (either signs)))))
    where
      j : ℕ
      j = N - 10

      B : ℕ
      B = W * bottom sine_steps (W * W) (10 + (N - 10))

      A : ℕ
      A = run_top sine_steps (X * X) (W * W) (10 + (N - 10)) 1 1

      back : (N : ℕ) → 10 ≤ N → 10 + (N - 10) ≡ N
      back N n = omega (arith, n)

      sine_sgn : sgn (sin x) ≡ sgn r
      sine_sgn = ap sgn sin_is ∙ sin_sgn d g X W r b

      either : (sgn r ≡ s) ⊎ (count r * W + X * U ≤ d * W) → (sgn (sin x) ≡ s) ⊎ (count (sin x) * B + X * A * U ≤ parts * 2 ^ 1021 * B)
      either (inl h) = inl (sine_sgn ∙ h)
      either (inr h) = inr (go (count (sin x)) (count r) W X A (bottom sine_steps (W * W) (10 + (N - 10))) U d (2 ^ 1022) (parts * 2 ^ 1021) (le_trans (le_of_eq (ap count sin_is)) (sin_small d g X W r b)) (sum_most d g X W r b (10 + (N - 10))) h room)
        where
          go : (c r W X A G v d h p : ℕ) → c ≤ r + h → A ≤ G → r * W + X * v ≤ d * W → d + h ≤ p → c * (W * G) + X * A * v ≤ p * (W * G)
          go c r W X A G v d h p a l k m =
              let i : c * (W * G) ≤ (r + h) * (W * G) = mul-le-mul_right (W * G) a in
              let j : X * v * A ≤ X * v * G = mul-le-mul_left (X * v) l in
              let o : (r * W + X * v) * G ≤ d * W * G = mul-le-mul_right G k in
              let q : (d + h) * (W * G) ≤ p * (W * G) = mul-le-mul_right (W * G) m in
              omega (arith, i, j, o, q)

      with_signs : (t : Bool) → (t ≡ s) ⊎ (count (sin x) * B + X * A * U ≤ parts * 2 ^ 1021 * B) → nat_abs (signed t (count (sin x)) *ℤ pos B -ℤ signed s X *ℤ pos A *ℤ pos U) ≤ parts * 2 ^ 1021 * B
      with_signs t (inl h) = subst (λ (q : Bool). nat_abs (signed q (count (sin x)) *ℤ pos B -ℤ signed s X *ℤ pos A *ℤ pos U) ≤ parts * 2 ^ 1021 * B) (sym h) (alike s (count (sin x)) B X A U (parts * 2 ^ 1021 * B) (sine_size parts small enough (N - 10)))
      with_signs t (inr h) = unlike_sizes t s (count (sin x)) B X A U (parts * 2 ^ 1021 * B) h

-- ---- an f64 that is not folded
module _ (x r : Float) (f : fold x ≡ r) (l : T (le (abs r) half_pi)) where
  mag : Mag P 52 r
  mag = half_pi_mag r l

  pub abs_mag : Mag P 52 (abs r)
  abs_mag = let p = abs_parts r mag.fine in record { fine = p.0; most = subst (λ (n : ℕ). n * 2 ^ 52 ≤ P * den (abs r)) (sym p.2) (subst (λ (d : ℕ). num r * 2 ^ 52 ≤ P * d) (sym p.3) mag.most) }

  pub sin_is : sin x ≡ sin_at r
  unfolding sin second_fold
  sin_is =
      ap (λ (r : Float). sin_at (second_fold r)) f
      ∙ ap sin_at (cond_no (lt half_pi r) _ _ (never_above half_pi_in mag tt) ∙ cond_no (lt r _) _ _ (never_below minus_half_pi_is half_pi_in mag tt))

  pub cos_is : cos x ≡ cos_at (abs r)
  unfolding cos cos_of
  cos_is = ap (λ (r : Float). cos_of (abs r)) f ∙ cond_no (lt half_pi (abs r)) _ _ (never_above half_pi_in abs_mag tt)

-- ---- up to π/2 nothing is taken off
fold_same : (x : Float) → T (fits binary64 x) → T (le (abs x) half_pi) → fold x ≡ x
unfolding fold wrap
fold_same x h l =
    ap wrap (sym (up_to_pi x (le_up (abs x) half_pi_in pi_in tt l)) ∙ less_zero_same x h (half_pi_mag x l).fine)
    ∙ cond_no (lt pi x) _ _ (never_above pi_in (half_pi_mag x l) tt) ∙ cond_no (lt x _) _ _ (never_below minus_pi_is pi_in (half_pi_mag x l) tt)

pub abs_count : (x : Float) → T (finite x) → count (abs x) ≡ count x
unfolding count
abs_count x f = let p = abs_parts x f in ap₂ (λ (n d : ℕ). n * 2 ^ 1074 / d) p.2 p.3

pub cos_near : (x : Float) → T (fits binary64 x) → T (le (abs x) half_pi) → CosineAt 7 (value x) (2 ^ 1074) (cos x)
cos_near x h l =
    cosine_at (cos x) (abs x) (cos_is x x (fold_same x h l) l) 0 (2 ^ 1022) (count (abs x)) U (exactly (abs x) (abs_fits x h) (abs_mag x x (fold_same x h l) l)) 7 (lit≤ tt) (value x)
    (size_of (sgn x) (count x) ∙ sym (abs_count x (half_pi_mag x l).fine))

pub sin_near : (x : Float) → T (fits binary64 x) → T (le (abs x) half_pi) → SineAt 8 (value x) (2 ^ 1074) (sin x)
sin_near x h l = sine_at x x (sin_is x x (fold_same x h l) l) 0 (2 ^ 1022) (count x) U (exactly x h (half_pi_mag x l)) 8 (lit≤ tt) (lit≤ tt) (lit≤ tt) (sgn x) (inl refl) (value x) refl

-- ---- with turns
fold_facing : (x : Float) → Facing x → fold x ≡ reduce x
unfolding fold wrap first_line
fold_facing x h =
    let m = half_pi_mag (reduce x) h.rest in
    ap wrap (cond_yes (le (abs x) turns_limit) (reduce x) _ h.thick.most)
    ∙ cond_no (lt pi (reduce x)) _ _ (never_above pi_in m tt) ∙ cond_no (lt (reduce x) _) _ _ (never_below minus_pi_is pi_in m tt)

pub reduce_fits : (x : Float) → T (fits binary64 (reduce x))
unfolding reduce less_turns
reduce_fits x = sub-fits binary64 _ _

-- r beside x - turns·P / Q
pub turned_off : (x : Float) → Thick x → (P Q : ℕ) → TwoPi P Q → nat_abs (value (reduce x) *ℤ pos Q -ℤ left x P Q) ≤ turned * Q
turned_off x h P Q t =
    let z = value (reduce x) in
    let a = phase.near x h two_pi (le_refl two_pi) (up two_pi) in
    let b = phase.near x h (two_pi + 1) (up two_pi) (le_refl (two_pi + 1)) in
    subst (λ (g : ℕ). nat_abs (z *ℤ pos Q -ℤ (value x *ℤ pos Q -ℤ turns x *ℤ pos g)) ≤ turned * Q) (mul_assoc P (2 ^ 110) (2 ^ 964)) (between z (value x) (turns x) (P * 2 ^ 110) Q (2 ^ 964) turned two_pi t.least t.most a b)
  where
    up : (n : ℕ) → n ≤ n + 1
    up n = omega arith

turned_near : (x : Float) → Thick x → (P Q : ℕ) → TwoPi P Q → Within (turned * (Q * 2 ^ 1074)) (count (reduce x) * (Q * 2 ^ 1074)) (nat_abs (left x P Q) * U)
turned_near x h P Q t =
    let z = value (reduce x) in
    scaled turned (count (reduce x)) (nat_abs (left x P Q)) Q U
    (known refl (mul_size z (pos Q) ∙ ap (λ (c : ℕ). c * Q) (size_of (sgn (reduce x)) (count (reduce x)))) refl (sizes (turned * Q) (z *ℤ pos Q) (left x P Q) (turned_off x h P Q t)))
  where
    scaled : (e c n Q u : ℕ) → Within (e * Q) (c * Q) n → Within (e * (Q * u)) (c * (Q * u)) (n * u)
    scaled e c n Q u w = known (mul_assoc e Q u) (mul_assoc c Q u) refl (times u w)

-- their signs are alike, or both are small
turned_signs : (x : Float) → Thick x → (P Q : ℕ) → TwoPi P Q → (sgn (reduce x) ≡ minus (left x P Q)) ⊎ (count (reduce x) * (Q * 2 ^ 1074) + nat_abs (left x P Q) * U ≤ turned * (Q * 2 ^ 1074))
turned_signs x h P Q t = go (signs (sgn (reduce x)) (count (reduce x) * Q) (left x P Q) (turned * Q) (subst (λ (z : ℤ). nat_abs (z -ℤ left x P Q) ≤ turned * Q) (signed_mul (sgn (reduce x)) false (count (reduce x)) Q ∙ ap (λ (b : Bool). signed b (count (reduce x) * Q)) (like (sgn (reduce x)))) (turned_off x h P Q t)))
  where
    like : (s : Bool) → unlike s false ≡ s
    like true = refl
    like false = refl

    wide : (c Q n e v : ℕ) → c * Q + n ≤ e * Q → c * (Q * v) + n * v ≤ e * (Q * v)
    wide c Q n e v h = let i : (c * Q + n) * v ≤ e * Q * v = mul-le-mul_right v h in omega (arith, i)

    go : (sgn (reduce x) ≡ minus (left x P Q)) ⊎ (count (reduce x) * Q + nat_abs (left x P Q) ≤ turned * Q) → (sgn (reduce x) ≡ minus (left x P Q)) ⊎ (count (reduce x) * (Q * 2 ^ 1074) + nat_abs (left x P Q) * U ≤ turned * (Q * 2 ^ 1074))
    go (inl e) = inl e
    go (inr l) = inr (wide (count (reduce x)) Q (nat_abs (left x P Q)) turned U l)

pub facing : (x : Float) → Facing x → (P Q : ℕ) → TwoPi P Q → Beside turned turned² (nat_abs (left x P Q)) (Q * 2 ^ 1074) (reduce x)
facing x h P Q t = nearly (nat_abs (left x P Q)) (Q * 2 ^ 1074) (reduce x) (reduce_fits x) (half_pi_mag (reduce x) h.rest) (mul-pos t.base (pow_pos 1074)) (turned_near x h.thick P Q t)

pub facing_abs : (x : Float) → Facing x → (P Q : ℕ) → TwoPi P Q → Beside turned turned² (nat_abs (left x P Q)) (Q * 2 ^ 1074) (abs (reduce x))
facing_abs x h P Q t =
    nearly (nat_abs (left x P Q)) (Q * 2 ^ 1074) (abs (reduce x)) (abs_fits (reduce x) (reduce_fits x)) (abs_mag x (reduce x) (fold_facing x h) h.rest) (mul-pos t.base (pow_pos 1074))
    (subst (λ (c : ℕ). Within (turned * (Q * 2 ^ 1074)) (c * (Q * 2 ^ 1074)) (nat_abs (left x P Q) * U)) (sym (abs_count (reduce x) (half_pi_mag (reduce x) h.rest).fine)) (turned_near x h.thick P Q t))

pub cos_facing : (x : Float) → Facing x → (P Q : ℕ) → TwoPi P Q → CosineAt 11 (left x P Q) (Q * 2 ^ 1074) (cos x)
cos_facing x h P Q t = cosine_at (cos x) (abs (reduce x)) (cos_is x (reduce x) (fold_facing x h) h.rest) turned turned² (nat_abs (left x P Q)) (Q * 2 ^ 1074) (facing_abs x h P Q t) 11 (lit≤ tt) (left x P Q) refl

pub sin_facing : (x : Float) → Facing x → (P Q : ℕ) → TwoPi P Q → SineAt 13 (left x P Q) (Q * 2 ^ 1074) (sin x)
sin_facing x h P Q t = sine_at x (reduce x) (sin_is x (reduce x) (fold_facing x h) h.rest) turned turned² (nat_abs (left x P Q)) (Q * 2 ^ 1074) (facing x h P Q t) 13 (lit≤ tt) (lit≤ tt) (lit≤ tt) (minus (left x P Q)) (turned_signs x h.thick P Q t) (left x P Q) (sym (whole (left x P Q)))

pub cos_facing_fits : (x : Float) → Facing x → (P Q : ℕ) → TwoPi P Q → T (fits binary64 (cos x))
cos_facing_fits x h P Q t = cos_fits (cos x) (abs (reduce x)) (cos_is x (reduce x) (fold_facing x h) h.rest) turned turned² (nat_abs (left x P Q)) (Q * 2 ^ 1074) (facing_abs x h P Q t)

-- the sizes
pub sin_facing_size : (x : Float) (h : Facing x) (P Q : ℕ) (t : TwoPi P Q) → let X = nat_abs (left x P Q) in let W = Q * 2 ^ 1074 in let B = W * bottom sine_steps (W * W) 10 in
    Within (13 * 2 ^ 1021 * B) (count (sin x) * B) (X * run_top sine_steps (X * X) (W * W) 10 1 1 * U)
sin_facing_size x h P Q t = sine_size x (reduce x) (sin_is x (reduce x) (fold_facing x h) h.rest) turned turned² (nat_abs (left x P Q)) (Q * 2 ^ 1074) (facing x h P Q t) 13 (lit≤ tt) (lit≤ tt) 0

pub sin_facing_fits : (x : Float) → Facing x → (P Q : ℕ) → TwoPi P Q → T (fits binary64 (sin x))
sin_facing_fits x h P Q t = sin_fits x (reduce x) (sin_is x (reduce x) (fold_facing x h) h.rest) turned turned² (nat_abs (left x P Q)) (Q * 2 ^ 1074) (facing x h P Q t)

-- in proportion to the sine's square
pub cos_facing_fine : (x : Float) (h : Facing x) (P Q : ℕ) (t : TwoPi P Q) → let X = nat_abs (left x P Q) in let W = Q * 2 ^ 1074 in
    (i C K : ℕ) → 10 ≤ i → K ≡ W * W * 2 * run_bottom later (W * W) i 1 → C + X * X * run_top later (X * X) (W * W) i 1 1 ≡ W * W * 2 * run_bottom later (W * W) i 1 → sgn (cos x) ≡ false
    → Within (2 ^ 1018 * (25 * (K * K) + 73 * (K * K - C * C))) (count (cos x) * K * K) (C * K * U)
cos_facing_fine x h P Q t i C K l k e s =
    let X = nat_abs (left x P Q) in
    let W = Q * 2 ^ 1074 in
    let b = facing_abs x h P Q t in
    let q : cos x ≡ raw turned turned² X W (abs (reduce x)) b = raw_is (cos x) (abs (reduce x)) (cos_is x (reduce x) (fold_facing x h) h.rest) turned turned² X W b in
    subst (λ (y : Float). Within (2 ^ 1018 * (25 * (K * K) + 73 * (K * K - C * C))) (count y * K * K) (C * K * U)) (sym q) (fine X W (abs (reduce x)) b i C K l k e (sym (ap sgn q) ∙ s))
