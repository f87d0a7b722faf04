-- How many turns are taken off: for a finite x up to 2 ^ 20 in size k is at most 166,886, and |x - k·T| is at most T/2 + 2 ^ -33. Assumes nothing.
use mathlib.Core.Path.{◌≡◌, refl, sym, ap, ◌∙◌, subst}
use Prim.Native.Nat.{ℕ, zero, suc, ◌+◌, ◌*◌, ◌^◌, ◌≤◌, ◌<◌}
use native.Mathlib.Nat.{le_trans, le_of_eq, mul-one, mul_comm, mul_assoc, mul_right_comm, mul-le-mul_right, le_of_mul-le-mul_right, mul-pos}
use native.Mathlib.Omega.{arith}
use mathlib.Core.Bool.{Bool, true, false, not, cond}
use lib.Dec.{T, leb, ltb, leb→le, nleb→lt, lit≤}
use lib.Pow.{pow_pos}
use lib.Ieee.{Float, nan, inf, fin, binary64, unlike, up, down, odd, units, round, le, lt, eq, of_bits}
use lib.Ieee.Scale.{finite}
use lib.Ieee.Fits.{round_is}
use lib.Ieee.Order.{drop, kept}
use lib.Ieee.Positive.{num, den, den_pos}
use Rattle.ieee.specs.Operators.{◌⊘◌}
use Rattle.ieee.specs.Functions.{abs}
use Rattle.ieee.specs.Range.{sgn, Mag, In}
use Rattle.ieee.specs.Rounding.{OnePart}
use Rattle.ieee.proofs.Rounding.{rounding}
use Rattle.ieee.proofs.Range.Laws.{div_is, in_lit}
use Rattle.ieee.proofs.Range.Round.{lt_or_eq}
use Rattle.ieee.proofs.Range.Quotients.{div_mag}
use Rattle.whole_nearest.specs.Nearest.{Nearest, nearest_size}
use Rattle.whole_nearest.proofs.Laws.{nearest_is, nearest_one}
use Rattle.math_trig.specs.Angles.{tau, pi, turns_limit}

-- ---- T is M / 2 ^ 47
abbrev pub M : ℕ
M = 884279719003555

pub tau_num : num tau ≡ M
unfolding of_bits
tau_num = refl

pub tau_den : den tau ≡ 2 ^ 47
unfolding of_bits
tau_den = refl

pub tau_finite : T (finite tau)
unfolding of_bits
tau_finite = tt

pub tau_sgn : sgn tau ≡ false
unfolding of_bits
tau_sgn = refl

pub tau_in : In M 47 M 47 tau
unfolding of_bits
tau_in = in_lit tau tt

-- ---- the test of the code
pub limit_mag : (x : Float) → T (le (abs x) turns_limit) → Mag (2 ^ 20) 0 x
unfolding le lt eq abs of_bits
limit_mag nan t = absurd t
limit_mag (inf s) t = absurd t
limit_mag (fin s m e) t = record { fine = tt; most = at (m * up e) (down e) (lt_or_eq (m * up e * 1) (1 * 2 ^ 20 * down e) true t) }
  where
    at : (n d : ℕ) → n * 1 ≤ 1 * 2 ^ 20 * d → n * 1 ≤ 2 ^ 20 * d
    at n d h = omega arith

pub pi_mag : (x : Float) → T (le (abs x) pi) → Mag 7074237752028440 51 x
unfolding le lt eq abs of_bits
pi_mag nan t = absurd t
pi_mag (inf s) t = absurd t
pi_mag (fin s m e) t = record { fine = tt; most = at (m * up e) (down e) (lt_or_eq (m * up e * 2 ^ 48) (884279719003555 * down e) true t) }
  where
    at : (n d : ℕ) → n * 2 ^ 48 ≤ 884279719003555 * d → n * 2 ^ 51 ≤ 7074237752028440 * d
    at n d h = omega arith

-- ---- the rounded quotient
quotient_is : (x : Float) → T (finite x) → x ⊘ tau ≡ round binary64 (sgn x) (num x * 2 ^ 47) (M * den x)
quotient_is x f =
    div_is x tau f tau_finite (subst (λ (n : ℕ). 0 < n) (sym tau_num) (lit≤ {m = 1} {n = M} tt))
    ∙ ap (λ (s : Bool). round binary64 (unlike (sgn x) s) (num x * den tau) (num tau * den x)) tau_sgn
    ∙ ap (λ (s : Bool). round binary64 s (num x * den tau) (num tau * den x)) (same (sgn x))
    ∙ ap (λ (n : ℕ). round binary64 (sgn x) (num x * n) (num tau * den x)) tau_den
    ∙ ap (λ (n : ℕ). round binary64 (sgn x) (num x * 2 ^ 47) (n * den x)) tau_num
  where
    same : (s : Bool) → unlike s false ≡ s
    same true = refl
    same false = refl

-- a rounded fraction has the sign that it is given
pub units_sgn : (s : Bool) (q k : ℕ) → sgn (units binary64 s q k) ≡ s
unfolding units odd
units_sgn s q k = go (ltb (q * 2 ^ k) (2 ^ (1074 + 1024))) q
  where
    go : (b : Bool) (q : ℕ) → sgn (cond b (odd 54 s q k 1074) (inf s)) ≡ s
    go true zero = refl
    go true (suc q) = refl
    go false q = refl

pub round_sgn : (s : Bool) (a c : ℕ) → sgn (round binary64 s a c) ≡ s
round_sgn s a c = ap sgn (round_is binary64 s a c) ∙ units_sgn s (kept 53 (a * 2 ^ 1074) c) (drop 53 (a * 2 ^ 1074) c)

pub quotient_mag : (x : Float) → Mag (2 ^ 20) 0 x → Mag (2 ^ 19) 0 (x ⊘ tau)
quotient_mag x h = div_mag h tau_in tt

-- its sign is x's
pub quotient_sgn : (x : Float) → Mag (2 ^ 20) 0 x → sgn (x ⊘ tau) ≡ sgn x
quotient_sgn x h = ap sgn (quotient_is x h.fine) ∙ round_sgn (sgn x) (num x * 2 ^ 47) (M * den x)

-- ---- a quotient up to 1/2 has no turn
pub no_turn : (q : Float) → num q * 2 ≤ den q → nearest_size q ≡ 0
no_turn q h = nearest_one (num q) (den q) (nearest_size q) 0 (den_pos q) (nearest_is (num q) (den q) (den_pos q)) (none (num q) (den q) h)
  where
    none : (n d : ℕ) → n * 2 ≤ d → Nearest n d 0
    none n d h = record { under = omega arith; over = omega arith; even_above = λ t. refl; even_below = λ t. refl }

pub no_turn_below : (x : Float) → Mag 7074237752028440 51 x → nearest_size (x ⊘ tau) ≡ 0
no_turn_below x h = no_turn (x ⊘ tau) (at (num (x ⊘ tau)) (den (x ⊘ tau)) q.most)
  where
    q : Mag 1 1 (x ⊘ tau)
    q = div_mag h tau_in tt

    at : (n d : ℕ) → n * 2 ^ 1 ≤ 1 * d → n * 2 ≤ d
    at n d h = omega arith

-- ---- |K·T - X / dx| ≤ T/2 + 2 ^ -33, in units of 2 ^ -48
pub record Turns (K X dx : ℕ) : Type 0 where
  pub most : K ≤ 166886
  pub under : 2 * M * (K * dx) ≤ 2 ^ 48 * X + (M + 2 ^ 15) * dx
  pub over : 2 ^ 48 * X ≤ 2 * M * (K * dx) + (M + 2 ^ 15) * dx

-- from the quotient N / D, which is X / dx / T up to one part in 2 ^ 53, and K, which is nearest to it
module _ (X dx N D K : ℕ) (dx0 : 0 < dx) (D0 : 0 < D) (near : Nearest N D K)
    (lo : N * (M * dx) * 2 ^ 53 ≤ X * 2 ^ 47 * D * 2 ^ 53 + X * 2 ^ 47 * D)
    (hi : X * 2 ^ 47 * D * 2 ^ 53 ≤ N * (M * dx) * 2 ^ 53 + X * 2 ^ 47 * D)
    (small : X ≤ 2 ^ 20 * dx) where
  -- with the facts multiplied by dx or by D, all is linear in X-as-D, N·dx, K·D·dx and D·dx
  upper : (XD Ndx KDdx Ddx : ℕ) → 2 * KDdx ≤ 2 * Ndx + Ddx → Ndx * M ≤ XD * 2 ^ 47 + 2 ^ 14 * Ddx → 2 * M * KDdx ≤ 2 ^ 48 * XD + (M + 2 ^ 15) * Ddx
  upper XD Ndx KDdx Ddx a b = omega arith

  lower : (XD Ndx KDdx Ddx : ℕ) → 2 * Ndx ≤ 2 * KDdx + Ddx → XD * 2 ^ 47 ≤ Ndx * M + 2 ^ 14 * Ddx → 2 ^ 48 * XD ≤ 2 * M * KDdx + (M + 2 ^ 15) * Ddx
  lower XD Ndx KDdx Ddx a b = omega arith

  a1 : 2 * (K * dx * D) ≤ 2 * (N * dx) + dx * D
  a1 = shape K N dx D (mul-le-mul_right dx near.under)
    where
      shape : (K N dx D : ℕ) → 2 * (K * D) * dx ≤ (2 * N + D) * dx → 2 * (K * dx * D) ≤ 2 * (N * dx) + dx * D
      shape K N dx D h = omega arith

  a2 : 2 * (N * dx) ≤ 2 * (K * dx * D) + dx * D
  a2 = shape K N dx D (mul-le-mul_right dx near.over)
    where
      shape : (K N dx D : ℕ) → 2 * N * dx ≤ (2 * (K * D) + D) * dx → 2 * (N * dx) ≤ 2 * (K * dx * D) + dx * D
      shape K N dx D h = omega arith

  b1 : N * dx * M * 2 ^ 53 ≤ X * D * 2 ^ 47 * 2 ^ 53 + X * D * 2 ^ 47
  b1 = shape N X dx D lo
    where
      shape : (N X dx D : ℕ) → N * (M * dx) * 2 ^ 53 ≤ X * 2 ^ 47 * D * 2 ^ 53 + X * 2 ^ 47 * D → N * dx * M * 2 ^ 53 ≤ X * D * 2 ^ 47 * 2 ^ 53 + X * D * 2 ^ 47
      shape N X dx D h = omega arith

  b2 : X * D * 2 ^ 47 * 2 ^ 53 ≤ N * dx * M * 2 ^ 53 + X * D * 2 ^ 47
  b2 = shape N X dx D hi
    where
      shape : (N X dx D : ℕ) → X * 2 ^ 47 * D * 2 ^ 53 ≤ N * (M * dx) * 2 ^ 53 + X * 2 ^ 47 * D → X * D * 2 ^ 47 * 2 ^ 53 ≤ N * dx * M * 2 ^ 53 + X * D * 2 ^ 47
      shape N X dx D h = omega arith

  c1 : X * D ≤ 2 ^ 20 * (dx * D)
  c1 = le_trans (mul-le-mul_right D small) (le_of_eq (mul_assoc (2 ^ 20) dx D))

  d1 : N * dx * M ≤ X * D * 2 ^ 47 + 2 ^ 14 * (dx * D)
  d1 = le_of_mul-le-mul_right (fewer (X * D) (N * dx * M) (dx * D) b1 c1) (pow_pos 53)
    where
      fewer : (x n d : ℕ) → n * 2 ^ 53 ≤ x * 2 ^ 47 * 2 ^ 53 + x * 2 ^ 47 → x ≤ 2 ^ 20 * d → n * 2 ^ 53 ≤ (x * 2 ^ 47 + 2 ^ 14 * d) * 2 ^ 53
      fewer x n d a b = omega arith

  d2 : X * D * 2 ^ 47 ≤ N * dx * M + 2 ^ 14 * (dx * D)
  d2 = le_of_mul-le-mul_right (fewer (X * D) (N * dx * M) (dx * D) b2 c1) (pow_pos 53)
    where
      fewer : (x n d : ℕ) → x * 2 ^ 47 * 2 ^ 53 ≤ n * 2 ^ 53 + x * 2 ^ 47 → x ≤ 2 ^ 20 * d → x * 2 ^ 47 * 2 ^ 53 ≤ (n + 2 ^ 14 * d) * 2 ^ 53
      fewer x n d a b = omega arith

  up_to : 2 * M * (K * dx) ≤ 2 ^ 48 * X + (M + 2 ^ 15) * dx
  up_to = le_of_mul-le-mul_right (shape (K * dx) X dx D (upper (X * D) (N * dx) (K * dx * D) (dx * D) a1 d1)) D0
    where
      shape : (k X dx D : ℕ) → 2 * M * (k * D) ≤ 2 ^ 48 * (X * D) + (M + 2 ^ 15) * (dx * D) → 2 * M * k * D ≤ (2 ^ 48 * X + (M + 2 ^ 15) * dx) * D
      shape k X dx D h = omega arith

  down_to : 2 ^ 48 * X ≤ 2 * M * (K * dx) + (M + 2 ^ 15) * dx
  down_to = le_of_mul-le-mul_right (shape (K * dx) X dx D (lower (X * D) (N * dx) (K * dx * D) (dx * D) a2 d2)) D0
    where
      shape : (k X dx D : ℕ) → 2 ^ 48 * (X * D) ≤ 2 * M * (k * D) + (M + 2 ^ 15) * (dx * D) → 2 ^ 48 * X * D ≤ (2 * M * k + (M + 2 ^ 15) * dx) * D
      shape k X dx D h = omega arith

  few : K ≤ 166886
  few = not_more (λ (g : 166887 ≤ K). no X (K * dx) dx dx0 up_to small (mul-le-mul_right dx g))
    where
      not_more : {a b : ℕ} → (suc a ≤ b → ⊥) → b ≤ a
      not_more {a} {b} f = omega (arith, f)

      no : (X k dx : ℕ) → 0 < dx → 2 * M * k ≤ 2 ^ 48 * X + (M + 2 ^ 15) * dx → X ≤ 2 ^ 20 * dx → 166887 * dx ≤ k → ⊥
      no X k dx d a b c = omega arith

  turns_at : Turns K X dx
  turns_at = record { most = few; under = up_to; over = down_to }

-- ---- below 2 there is no turn, and from 2 on the quotient is in the normal range
pub none_below_two : (x : Float) → T (finite x) → num x ≤ 2 * den x → nearest_size (x ⊘ tau) ≡ 0
none_below_two x f h = no_turn (x ⊘ tau) (at (num (x ⊘ tau)) (den (x ⊘ tau)) q.most)
  where
    m : Mag 2 0 x
    m = record { fine = f; most = le_trans (le_of_eq (mul-one (num x))) h }

    q : Mag 1 1 (x ⊘ tau)
    q = div_mag m tau_in tt

    at : (n d : ℕ) → n * 2 ^ 1 ≤ 1 * d → n * 2 ≤ d
    at n d h = omega arith

pub turns_of : (x : Float) → Mag (2 ^ 20) 0 x → Turns (nearest_size (x ⊘ tau)) (num x) (den x)
turns_of x h = go (leb (num x) (2 * den x)) (leb→le (num x) (2 * den x)) (nleb→lt (num x) (2 * den x))
  where
    small : (n d : ℕ) → n ≤ 2 * d → Turns 0 n d
    small n d h = record { most = omega arith; under = omega arith; over = omega arith }

    limit : (n d : ℕ) → n * 1 ≤ 2 ^ 20 * d → n ≤ 2 ^ 20 * d
    limit n d h = omega arith

    normal : (n d : ℕ) → 2 * d < n → 1 * (M * d) ≤ n * 2 ^ 47 * 2 ^ 2
    normal n d h = omega arith

    -- in the normal range: 2 ^ 52 units are far below 1 / 4
    deep : (a c l : ℕ) → 2 ^ 52 * 2 ^ 2 ≤ l → 1 * c ≤ a * 2 ^ 2 → 2 ^ 52 * c ≤ a * l
    deep a c l u h = le_of_mul-le-mul_right (le_trans (le_of_eq (one c)) (le_trans (mul-le-mul_right (2 ^ 52 * 2 ^ 2) h) (le_trans (le_of_eq (two a)) (mul_le a l u)))) (pow_pos 2)
      where
        one : (c : ℕ) → 2 ^ 52 * c * 2 ^ 2 ≡ 1 * c * (2 ^ 52 * 2 ^ 2)
        one c = omega arith

        two : (a : ℕ) → a * 2 ^ 2 * (2 ^ 52 * 2 ^ 2) ≡ 2 ^ 52 * 2 ^ 2 * (a * 2 ^ 2)
        two a = omega arith

        mul_le : (a l : ℕ) → 2 ^ 52 * 2 ^ 2 ≤ l → 2 ^ 52 * 2 ^ 2 * (a * 2 ^ 2) ≤ a * l * 2 ^ 2
        mul_le a l u = le_trans (mul-le-mul_right (a * 2 ^ 2) u) (le_of_eq (mul_comm l (a * 2 ^ 2) ∙ mul_right_comm a (2 ^ 2) l))

    go : (b : Bool) → (T b → num x ≤ 2 * den x) → (T (not b) → 2 * den x < num x) → Turns (nearest_size (x ⊘ tau)) (num x) (den x)
    go true a b = subst (λ (K : ℕ). Turns K (num x) (den x)) (sym (none_below_two x h.fine (a tt))) (small (num x) (den x) (a tt))
    go false a b =
        let q = round binary64 (sgn x) (num x * 2 ^ 47) (M * den x) in
        let e : x ⊘ tau ≡ q = quotient_is x h.fine in
        let c = mul-pos (lit≤ {m = 1} {n = M} tt) (den_pos x) in
        let r : OnePart binary64 (num x * 2 ^ 47) (M * den x) q =
        (rounding binary64).normal (sgn x) (num x * 2 ^ 47) (M * den x) c
        (deep (num x * 2 ^ 47) (M * den x) (2 ^ 1074) (lit≤ {m = 2 ^ 52 * 2 ^ 2} {n = 2 ^ 1074} tt) (normal (num x) (den x) (b tt)))
        (subst (λ (z : Float). T (finite z)) e (quotient_mag x h).fine) in
        subst (λ (z : Float). Turns (nearest_size z) (num x) (den x)) (sym e)
        (turns_at (num x) (den x) (num q) (den q) (nearest_size q) (den_pos x) (den_pos q) (nearest_is (num q) (den q) (den_pos q)) r.0 r.1 (limit (num x) (den x) h.most))
