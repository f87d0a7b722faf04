-- Within the limits p and q are such that the long division can be done: p is finite and at most 400,000, q exact and at least 25. Assumes nothing.
use mathlib.Core.Path.{◌≡◌, refl, sym, ap, ◌∙◌, subst}
use Prim.Native.Nat.{ℕ, ◌*◌, ◌/◌, ◌^◌, ◌≤◌, ◌<◌}
use native.Mathlib.Nat.{le_trans, lt_of_lt_of_le, lt_of_le_of_lt, le_of_eq, mul_comm, mul-one, mul_right_comm, mul-le-mul_right, le_of_mul-le-mul_right, zero-mul, div-le_of_le-mul}
use native.Mathlib.Omega.{arith}
use mathlib.Core.Bool.{Bool, true, false, ◌&&◌, ◌||◌}
use lib.Dec.{T, eqb, eqb→eq, lit≤, lit<}
use lib.IntN.{pos}
use lib.Ieee.{Float, nan, inf, fin, binary64, up, down, unlike, round, le, fits}
use lib.Ieee.Fits.{and_l, and_r, mul-fits, round-fits}
use lib.Ieee.Scale.{finite}
use lib.Ieee.Positive.{num, den, den_pos}
use Rattle.ieee.specs.Functions.{zero_f, one, four, abs}
use Rattle.ieee.specs.Range.{sgn, clear, plus, Mag, In}
use Rattle.ieee.specs.Count.{count}
use Rattle.ieee.proofs.Count.{count_of, count_is}
use Rattle.ieee.proofs.Signs.{zero_is}
use Rattle.ieee.proofs.Range.Round.{round_clear, round_plus}
use Rattle.ieee.proofs.Range.Laws.{plus_finite, plus_sgn, in_mag, mul_is, mul_mag}
use Rattle.ieee.proofs.Range.Quotients.{div_in}
use Rattle.ieee.proofs.Range.Zero.{zero_num, mul_zero_mag}
use Rattle.ieee.proofs.Range.AbsProduct.{abs_parts, abs_round}
use Rattle.gate_limits.specs.Limits.{hundred_thousand, within, wavelength_passes}
use Rattle.gate_limits.proofs.Ranges.{index_in, thickness_in, wavelength_in}
use Rattle.quarter_waves.specs.Waves.{path, quarter_wave, divided, admitted}
use Rattle.quarter_waves.specs.Claim.{Lengths}
use Rattle.quarter_waves.specs.Internal.{Divides}
use Rattle.quarter_waves.proofs.Counts.{Counted, four_in, quarter}
use Rattle.quarter_waves.proofs.Steps.{by_counts}

-- ---- ranges as counts
most_count : (n d c l m : ℕ) → c * d ≡ n * l → 0 < d → n * 1 ≤ m * d → c ≤ m * l
most_count n d c l m e D h =
    le_of_mul-le-mul_right
    (le_trans (le_of_eq e) (le_trans (mul-le-mul_right l (subst (λ (z : ℕ). z ≤ m * d) (mul-one n) h)) (le_of_eq (mul_right_comm m d l))))
    D

least_count : (n d c l m : ℕ) → c * d ≡ n * l → 0 < d → m * d ≤ n * 1 → m * l ≤ c
least_count n d c l m e D h =
    le_of_mul-le-mul_right
    (le_trans (le_of_eq (mul_right_comm m l d)) (le_trans (mul-le-mul_right l (subst (λ (z : ℕ). m * d ≤ z) (mul-one n) h)) (le_of_eq (sym e))))
    D

mag_count : {m : ℕ} (x : Float) → T (fits binary64 x) → Mag m 0 x → count x ≤ m * 2 ^ 1074
mag_count {m} x h g = most_count (num x) (den x) (count x) (2 ^ 1074) m (count_is x h g.fine) (den_pos x) g.most

in_count : {a p j : ℕ} (x : Float) → T (fits binary64 x) → In a 0 p j x → a * 2 ^ 1074 ≤ count x
in_count {a} x h g = least_count (num x) (den x) (count x) (2 ^ 1074) a (count_is x h (plus_finite x g.sign)) (den_pos x) g.least

-- ---- a number that is at least 0 and whose sign is set is a zero
set_zero : (x : Float) → T (finite x) → T (le zero_f x) → T (sgn x) → Mag 0 0 x
set_zero x f t s = go x f (subst (λ (z : Float). T (le z x)) zero_is t) s
  where
    nought : (n d : ℕ) → 0 * d ≡ n * 1 → n * 1 ≤ 0 * d
    nought n d e = omega arith

    go : (x : Float) → T (finite x) → T (le (fin false 0 (pos 0)) x) → T (sgn x) → Mag 0 0 x
    go nan f t s = absurd f
    go (inf b) f t s = absurd f
    go (fin false m e) f t s = absurd s
    go (fin true m e) f t s = record { fine = tt; most = nought (m * up e) (down e) (eqb→eq (0 * down e) (m * up e * 1) (and_l (eqb (0 * down e) (m * up e * 1)) (false || eqb (0 * down e) 0) (unfold le in t))) }

none_set : (x : Float) → T (clear x) → T (sgn x) → ⊥
none_set nan c s = absurd c
none_set (inf true) c s = absurd c
none_set (inf false) c s = absurd s
none_set (fin true m e) c s = absurd c
none_set (fin false m e) c s = absurd s

module _ (n thickness wavelength : Float) (held : T (fits binary64 wavelength)) (t : T (admitted n thickness wavelength)) where
  abbrev A : Bool
  A = within one four n

  abbrev B : Bool
  B = within zero_f hundred_thousand thickness

  abbrev C : Bool
  C = wavelength_passes wavelength

  abbrev p : Float
  p = path n thickness

  abbrev q : Float
  q = quarter_wave wavelength

  all : T (A && (B && C))
  unfolding admitted
  all = t

  index : In 1 0 4 0 n
  index = index_in n (and_l A (B && C) all)

  thick : Mag 100000 0 thickness
  thick = thickness_in thickness (and_l B C (and_r A (B && C) all))

  wave : In 100 0 10000 0 wavelength
  wave = wavelength_in wavelength (and_r B C (and_r A (B && C) all))

  path_mag : Mag 400000 0 p
  path_mag = mul_mag (in_mag index) thick tt

  path_held : T (fits binary64 p)
  path_held = mul-fits binary64 n thickness

  -- ---- the sign of p
  path_is : p ≡ round binary64 (sgn thickness) (num n * num thickness) (den n * den thickness)
  path_is = mul_is n thickness (plus_finite n index.sign) thick.fine ∙ ap (λ (s : Bool). round binary64 s (num n * num thickness) (den n * den thickness)) (unlike_clear (sgn n) (sgn thickness) (plus_sgn n index.sign))
    where
      unlike_clear : (s t : Bool) → s ≡ false → unlike s t ≡ t
      unlike_clear s true e = rw e
      unlike_clear s false e = rw e

  path_sign : T (sgn p) → count p ≡ 0
  path_sign s = go (sgn thickness) refl
    where
      at_least : T (le zero_f thickness)
      at_least = and_l (le zero_f thickness) (le thickness hundred_thousand) (unfold within in (and_l B C (and_r A (B && C) all)))

      go : (b : Bool) → sgn thickness ≡ b → count p ≡ 0
      go true e =
          let z : num p ≡ 0 = zero_num {z = p} (mul_zero_mag (in_mag index) (set_zero thickness thick.fine at_least (subst T (sym e) tt))) in
          count_of p 0 (ap (λ (m : ℕ). m * 2 ^ 1074) z ∙ zero-mul (2 ^ 1074) ∙ sym (zero-mul (den p)))
      go false e =
          let r = round binary64 false (num n * num thickness) (den n * den thickness) in
          absurd (none_set r (round_clear binary64 (num n * num thickness) (den n * den thickness)) (subst (λ (x : Float). T (sgn x)) (path_is ∙ ap (λ (s : Bool). round binary64 s (num n * num thickness) (den n * den thickness)) e) s))

  -- ---- q
  wave_counted : Counted wavelength (count wavelength)
  wave_counted = record { held = held; sign = wave.sign; is = refl }

  large : 2 ^ 55 ≤ count wavelength
  large = le_trans (lit≤ {m = 2 ^ 55} {n = 100 * 2 ^ 1074} tt) (in_count wavelength held wave)

  pub quarter_counted : Counted q (count q)
  quarter_counted = let w = quarter wave_counted large in record { held = w.1.1.held; sign = w.1.1.sign; is = refl }

  quarter_exact : 4 * count q ≡ count wavelength
  quarter_exact = let w = quarter wave_counted large in ap (λ (m : ℕ). 4 * m) w.1.1.is ∙ w.1.0

  pub lengths : Lengths wavelength p q
  lengths = record { path_finite = path_mag.fine; path_sign = path_sign; quarter_sign = quarter_counted.sign; quarter_exact = quarter_exact }

  -- ---- sizes: p is at most 16,000 q
  quarter_least : 25 * 2 ^ 1074 ≤ count q
  quarter_least = in_count {a = 25} q quarter_counted.held (div_in {p = 10000} {j = 0} {r = 2500} {n = 0} wave four_in tt)

  path_most : count p ≤ 16000 * count q
  path_most = go (count p) (count q) (2 ^ 1074) (mag_count p path_held path_mag) quarter_least
    where
      go : (a b l : ℕ) → a ≤ 400000 * l → 25 * l ≤ b → a ≤ 16000 * b
      go a b l h k = omega arith

  pub few : count p / count q ≤ 16000
  few = div-le_of_le-mul (count q) (subst (λ (m : ℕ). count p ≤ m) (mul_comm 16000 (count q)) path_most)

  pub some : 0 < count q
  some = lt_of_lt_of_le (lit< {m = 0} {n = 25 * 2 ^ 1074} tt) quarter_least

  -- ---- |p|, of which -0 is +0
  abs_is : abs p ≡ round binary64 false (num n * num thickness) (den n * den thickness)
  abs_is = ap abs path_is ∙ abs_round binary64 (sgn thickness) (num n * num thickness) (den n * den thickness)

  pub abs_counted : Counted (abs p) (count p)
  unfolding count
  abs_counted =
      let a = abs_parts p path_mag.fine in
      record {
        held = subst (λ (x : Float). T (fits binary64 x)) (sym abs_is) (round-fits binary64 false (num n * num thickness) (den n * den thickness));
        sign = subst (λ (x : Float). T (plus x)) (sym abs_is) (round_plus binary64 (num n * num thickness) (den n * den thickness) (subst (λ (x : Float). T (finite x)) abs_is a.0));
        is = ap (λ (m : ℕ). m * 2 ^ 1074 / den (abs p)) a.2 ∙ ap (λ (m : ℕ). num p * 2 ^ 1074 / m) a.3;
      }

  -- -0 and +0 have the same count
  pub abs_divided : divided (abs p) q ≡ divided p q
  abs_divided = by_counts (abs p) q (count p) (count q) abs_counted.is refl ∙ sym (by_counts p q (count p) (count q) refl refl)

  pub divides : Divides (abs p) q
  divides = record {
    dividend = abs_counted.sign;
    divisor = quarter_counted.sign;
    some = some;
    times = subst (λ (m : ℕ). m < 2 ^ 31 * count q) (sym abs_counted.is) (wider (count p) (count q) some path_most);
    under = subst (λ (m : ℕ). m < 2 ^ 2000) (sym abs_counted.is) (lt_of_le_of_lt (mag_count p path_held path_mag) (lit< {m = 400000 * 2 ^ 1074} {n = 2 ^ 2000} tt));
  }
    where
      wider : (a b : ℕ) → 0 < b → a ≤ 16000 * b → a < 2 ^ 31 * b
      wider a b h k = omega arith
