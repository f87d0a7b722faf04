-- R and T of a surface without layers, for real admittances a and b from 1 to 4: up to 11 roundings (a - b)² / (a + b)² and 4 a b / (a + b)². Assumes nothing.
use mathlib.Core.Path.{◌≡◌, sym, ap₂, subst}
use Prim.Native.Nat.{ℕ, suc, ◌+◌, ◌-◌, ◌*◌, ◌≤◌, ◌<◌}
use native.Mathlib.Nat.{le_trans, le_of_eq, le-add_left, mul-one, mul_comm, mul_assoc, mul_left_comm, mul-le-mul, mul-pos}
use native.Mathlib.Omega.{arith}
use lib.Dec.{T, lit≤}
use lib.Ieee.{Float, binary64}
use lib.Ieee.Fits.{mul-fits}
use lib.Ieee.Positive.{num, den, den_pos}
use Rattle.ieee.specs.Operators.{◌⊕◌, ◌⊖◌, ◌⊗◌, ◌⊘◌}
use Rattle.ieee.specs.Functions.{two}
use Rattle.ieee.specs.Range.{plus, Mag, In}
use Rattle.ieee.proofs.Range.Laws.{in_mag, plus_finite}
use Rattle.ieee.proofs.Range.Plus.{sq_plus, add_plus, mul_plus}
use Rattle.ieee.proofs.Range.Sums.{sub_mag}
use Rattle.ieee.proofs.Range.Quotients.{div_mag, div_in}
use Rattle.ieee.proofs.Range.Zero.{zero_mul_mag, mul_zero_mag}
use Rattle.ieee_near.specs.Index.{Index, gap}
use Rattle.ieee_near.specs.Near.{some, Near}
use Rattle.ieee_near.proofs.Close.{close_self, close_div}
use Rattle.ieee_near.proofs.Laws.{near_self, near_mul, near_div, near_frac, near_from}
use Rattle.ieee_near.proofs.Zeros.{near_add_zero, near_clamp, clamp_plus}
use Rattle.ieee_near.proofs.Exact.{near_twice}
use Rattle.ieee_near.proofs.Pair.{index_in, near_index, index_pos, gap_under, D_pos, S_pos, near_total, near_difference, total_in}
use Rattle.thin_film_complex.specs.declared.Complex.{Complex}
use Rattle.thin_film_complex.specs.Complex.{norm_sq, quotient, div}
use Rattle.thin_film_bounds.specs.Range.{Real}
use Rattle.thin_film_bounds.proofs.Complex.{norm_same, norm_in, div_is}
use Rattle.thin_film_solver.specs.Solve.{reflectance, transmittance}
use Rattle.thin_film_conserved.proofs.Sum.{squares}

near_mag : {k l A B : ℕ} {x : Float} → Near k l 3 A B x → Mag 8 0 x
near_mag {x = x} h = record { fine = h.fine; most = le_trans (le_of_eq (mul-one (num x))) h.high }

module _ (a b : Float) (ia : Index a) (ib : Index b) where
  abbrev S : ℕ
  S = num a * den b + num b * den a

  abbrev G : ℕ
  G = gap (num a * den b) (num b * den a)

  abbrev D : ℕ
  D = den a * den b

  abbrev c : Float
  c = a ⊕ b

  -- ---- |z / w|² for w = a + b and a real z: as z is multiplied by the rounded a + b and divided by its square, its rounding counts once
  module _ {k l A B : ℕ} (z w : Complex) (hz : Near k l 3 A B z.re) (B0 : 0 < B) (iz : Mag 0 0 z.im) (ew : w.re ≡ c) (iw : Mag 0 0 w.im) (bl : l ≤ 200) where
    w_in : In 2 0 8 0 w.re
    w_in = subst (λ (x : Float). In 2 0 8 0 x) (sym ew) (total_in a b ia ib)

    w_real : Real 2 0 8 0 w
    w_real = record { re = w_in; im = iw }

    near_w : Near 0 0 3 (num c) (den c) w.re
    near_w = subst (λ (x : Float). Near 0 0 3 (num c) (den c) x) (sym ew) (let h = total_in a b ia ib in near_self c (plus_finite c h.sign) (some (low (num c) (den c) h.least)) (high (num c) (den c) h.most))
      where
        low : (n d : ℕ) → 2 * d ≤ n * 1 → d ≤ n * 1
        low n d h = omega arith

        high : (n d : ℕ) → n * 1 ≤ 8 * d → n ≤ 8 * d
        high n d h = omega arith

    c_pos : 0 < num c
    c_pos = above (num c) (den c) (den_pos c) (total_in a b ia ib).least
      where
        above : (n d : ℕ) → 0 < d → 2 * d ≤ n * 1 → 0 < n
        above n d h g = omega arith

    q_in : In 4 0 64 0 (norm_sq w)
    q_in = norm_in w_real tt

    near_q : Near 1 0 6 (num c * num c) (den c * den c) (norm_sq w)
    near_q = subst (λ (x : Float). Near 1 0 6 (num c * num c) (den c * den c) x) (sym (norm_same 64 0 w_real tt)) (near_mul near_w near_w (lit≤ tt) (lit≤ tt))

    q_pos : 0 < num (norm_sq w)
    q_pos = above (num (norm_sq w)) (den (norm_sq w)) (den_pos (norm_sq w)) q_in.least
      where
        above : (n d : ℕ) → 0 < d → 4 * d ≤ n * 1 → 0 < n
        above n d h g = omega arith

    small : (l i : ℕ) → l ≤ 200 → i ≤ 206 → l + i ≤ 1022
    small l i g h = omega arith

    abbrev K : ℕ
    K = suc (suc (k + 0) + 1)

    near_re : Near (K + 1) (l + 0 + 6) 6 (A * D) (B * S) (quotient z w (norm_sq w)).re
    unfolding quotient
    near_re =
        near_from (A * D) (B * S) (mul-pos B0 c_pos) (close_div (close_self A B) (near_total a b ia ib).close)
        (near_frac (A * num c * (den c * den c)) (B * den c * (num c * num c)) (A * den c) (B * num c) (mul-pos (mul-pos B0 (den_pos c)) (mul-pos c_pos c_pos)) (same A B (num c) (den c))
        (near_div (near_add_zero (near_mul hz near_w (small l 0 bl (lit≤ tt)) (lit≤ tt)) (mul-fits binary64 z.re w.re) (zero_mul_mag iz iw)) near_q q_pos (down l bl) (lit≤ tt)))
      where
        down : (l : ℕ) → l ≤ 200 → l + 0 + 6 ≤ 1022
        down l h = omega arith

        same : (A B n d : ℕ) → A * n * (d * d) * (B * n) ≡ A * d * (B * d * (n * n))
        same A B n d = simp (mul_assoc, mul_comm, mul_left_comm)

    zero_im : Mag 0 0 (quotient z w (norm_sq w)).im
    unfolding quotient
    zero_im =
        let n : Mag 0 0 (z.im ⊗ w.re ⊖ z.re ⊗ w.im) = sub_mag (zero_mul_mag iz (in_mag w_in)) (mul_zero_mag (near_mag hz) iw) tt in
        div_mag n q_in tt

    low_enough : l + 0 + 6 + (l + 0 + 6) ≤ 1022
    low_enough = omega arith

    v : Complex
    v = quotient z w (norm_sq w)

    abbrev Squared : Float → Type 0
    Squared x = Near (suc (K + 1 + (K + 1))) (l + 0 + 6 + (l + 0 + 6)) 12 (A * D * (A * D)) (B * S * (B * S)) x

    near_square : Squared (v.re ⊗ v.re)
    unfolding v
    near_square = near_mul near_re near_re low_enough (lit≤ tt)

    near_v : Squared (norm_sq v)
    unfolding v norm_sq
    near_v = near_add_zero near_square (mul-fits binary64 (quotient z w (norm_sq w)).re (quotient z w (norm_sq w)).re) (zero_mul_mag zero_im zero_im)

    v_plus : T (plus (norm_sq v))
    unfolding v norm_sq
    v_plus =
        add_plus (v.re ⊗ v.re) (v.im ⊗ v.im) (sq_plus v.re near_re.fine near_square.fine)
        (sq_plus v.im zero_im.fine (zero_mul_mag zero_im zero_im).fine) near_v.fine

    near_norm : Squared (norm_sq (div z w)) × T (plus (norm_sq (div z w)))
    near_norm =
        let e : v ≡ div z w = unfold v in sym (div_is z w q_in tt) in
        (subst (λ (u : Complex). Squared (norm_sq u)) e near_v, subst (λ (u : Complex). T (plus (norm_sq u))) e v_plus)

  -- ---- R
  pub near_R : (z w : Complex) → z.re ≡ a ⊖ b → Mag 0 0 z.im → w.re ≡ c → Mag 0 0 w.im → Near 11 224 12 (G * G) (S * S) (reflectance (div z w)) × T (plus (reflectance (div z w)))
  unfolding reflectance
  near_R z w ez iz ew iw =
      let n = near_norm z w (subst (λ (x : Float). Near 1 106 3 G D x) (sym ez) (near_difference a b ia ib)) (D_pos a b ia ib) iz ew iw (lit≤ tt) in
      let DS = mul-pos (D_pos a b ia ib) (S_pos a b ia ib) in
      let f = near_frac (G * D * (G * D)) (D * S * (D * S)) (G * G) (S * S) (mul-pos DS DS) (same G S D) n.0 in
      (near_clamp f n.1 (mul-le-mul (gap_under (num a * den b) (num b * den a)) (gap_under (num a * den b) (num b * den a))), clamp_plus f n.1)
    where
      same : (G S D : ℕ) → G * D * (G * D) * (S * S) ≡ G * G * (D * S * (D * S))
      same G S D = simp (mul_assoc, mul_comm, mul_left_comm)

  -- ---- T
  abbrev P : ℕ
  P = 4 * (num a * den b * (num b * den a))

  near_ratio : Near 1 2 2 (num b * den a) (den b * num a) (b ⊘ a)
  near_ratio = near_div (near_index ib) (near_index ia) (index_pos ia) (lit≤ tt) (lit≤ tt)

  ratio_plus : T (plus (b ⊘ a))
  ratio_plus = let r : In 1 2 4 0 (b ⊘ a) = div_in (index_in ib) (index_in ia) tt in r.sign

  pub near_T : (z w eta0 eta : Complex) → z.re ≡ a ⊗ two → Mag 0 0 z.im → w.re ≡ c → Mag 0 0 w.im → eta0.re ≡ a → eta.re ≡ b → Near 11 14 14 P (S * S) (transmittance eta0 eta (div z w)) × T (plus (transmittance eta0 eta (div z w)))
  unfolding transmittance
  near_T z w eta0 eta ez iz ew iw e0 e1 =
      let d0 : 0 < den a * 1 = mul-pos (den_pos a) (lit≤ tt) in
      let n = near_norm z w (subst (λ (x : Float). Near 0 0 3 (num a * 2) (den a * 1) x) (sym ez) (near_twice a ia.held (near_index ia) (lit≤ tt))) d0 iz ew iw (lit≤ tt) in
      let A = num a * 2 * D in
      let B = den a * 1 * S in
      let B0 : 0 < B = mul-pos d0 (S_pos a b ia ib) in
      let r : Near 1 2 2 (num b * den a) (den b * num a) (eta.re ⊘ eta0.re) = subst (λ (x : Float). Near 1 2 2 (num b * den a) (den b * num a) x) (sym (ap₂ ◌⊘◌ e1 e0)) near_ratio in
      let m = near_mul r n.0 (lit≤ tt) (lit≤ tt) in
      let f = near_frac (num b * den a * (A * A)) (den b * num a * (B * B)) P (S * S) (mul-pos (mul-pos (den_pos b) (index_pos ia)) (mul-pos B0 B0)) (same (num a) (den a) (num b) (den b) S) m in
      let u = mul_plus (eta.re ⊘ eta0.re) (norm_sq (div z w)) (subst (λ (x : Float). T (plus x)) (sym (ap₂ ◌⊘◌ e1 e0)) ratio_plus) n.1 m.fine in
      (near_clamp f u (le_trans (le-add_left P (G * G)) (le_of_eq (squares (num a * den b) (num b * den a)))), clamp_plus f u)
    where
      same : (N d M e S : ℕ) → M * d * (N * 2 * (d * e) * (N * 2 * (d * e))) * (S * S) ≡ 4 * (N * e * (M * d)) * (e * N * (d * 1 * S * (d * 1 * S)))
      same N d M e S = rw (mul-one d) (alike N d M e S 2)
        where
          alike : (N d M e S t : ℕ) → M * d * (N * t * (d * e) * (N * t * (d * e))) * (S * S) ≡ t * t * (N * e * (M * d)) * (e * N * (d * S * (d * S)))
          alike N d M e S t = simp (mul_assoc, mul_comm, mul_left_comm)
