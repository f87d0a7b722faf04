-- Each step of the long division on f64 is exact. Assumes nothing.
use mathlib.Core.Path.{◌≡◌, refl, sym, ap, ◌∙◌, subst}
use Prim.Native.Nat.{ℕ, ◌+◌, ◌-◌, ◌*◌, ◌/◌, ◌%◌, ◌^◌, ◌≤◌, ◌<◌}
use native.Mathlib.Nat.{mod-lt, mod-eq_of_lt, div-eq_of_lt, div-lt_iff_lt-mul}
use native.Mathlib.Omega.{arith}
use mathlib.Core.Bool.{Bool, true, false, not}
use lib.Dec.{T, lit≤}
use lib.Ieee.{Float, binary64, lt, fits}
use Rattle.ieee.specs.Operators.{◌⊕◌, ◌⊖◌}
use Rattle.ieee.specs.Count.{count}
use Rattle.quarter_waves.specs.declared.QuarterWaves.{QuarterWaves}
use Rattle.quarter_waves.specs.Waves.{divided}
use Rattle.quarter_waves.specs.Internal.{Divides}
use Rattle.quarter_waves.proofs.Counts.{of, Counted, of_count, lt_counts, not_lt_counts, sub_counts, mod_counts, twice}
use Rattle.quarter_waves.proofs.Halves as halves

abbrev pub waves : ℕ → Float → QuarterWaves
waves n over = record { count = n; remainder_nm = over }

-- p and q by their counts
pub by_counts : (p q : Float) (a b : ℕ) → count p ≡ a → count q ≡ b → divided p q ≡ waves (a / b) (of (a % b))
unfolding divided
by_counts p q a b e f = ap (λ (n : ℕ). waves (n / count q) (of (n % count q))) e ∙ ap (λ (n : ℕ). waves (a / n) (of (a % n))) f

pub both : (m n : ℕ) (x y : Float) → m ≡ n → x ≡ y → waves m x ≡ waves n y
both m n x y e f = cc

module _ (p q : Float) (p_held : T (fits binary64 p)) (q_held : T (fits binary64 q)) (d : Divides p q) where
  abbrev P : ℕ
  P = count p

  abbrev Q : ℕ
  Q = count q

  dividend : Counted p P
  dividend = record { held = p_held; sign = d.dividend; is = refl }

  divisor : Counted q Q
  divisor = record { held = q_held; sign = d.divisor; is = refl }

  pub none : lt p q ≡ true → waves 0 p ≡ divided p q
  none e =
      let l : P < Q = lt_counts dividend divisor (subst T (sym e) tt) in
      both 0 (P / Q) p (of (P % Q)) (sym (div-eq_of_lt l)) (sym (of_count dividend) ∙ ap of (sym (mod-eq_of_lt l))) ∙ sym (by_counts p q P Q refl refl)

  module _ (e : lt p q ≡ false) where
    some : Q ≤ P
    some = not_lt_counts dividend divisor (subst (λ (b : Bool). T (not b)) (sym e) tt)

    pair : Counted (q ⊕ q) (2 * Q)
    pair = twice divisor (room P Q (2 ^ 2000) (2 ^ 2098) some d.under (lit≤ tt))
      where
        room : (p q u v : ℕ) → q ≤ p → p < u → 2 * u ≤ v → 2 * q < v
        room p q u v h k l = omega arith

    pub again : Divides p (q ⊕ q)
    again = record {
      dividend = d.dividend;
      divisor = pair.sign;
      some = subst (λ (n : ℕ). 0 < n) (sym pair.is) (two Q d.some);
      times = subst (λ (n : ℕ). P < 2 ^ 31 * n) (sym pair.is) (wider P Q d.times);
      under = d.under;
    }
      where
        two : (q : ℕ) → 0 < q → 0 < 2 * q
        two q h = omega arith

        wider : (p q : ℕ) → p < 2 ^ 31 * q → p < 2 ^ 31 * (2 * q)
        wider p q h = omega arith

    pub falls : P / count (q ⊕ q) < P / Q
    falls = subst (λ (n : ℕ). P / n < P / Q) (sym pair.is) (halves.falls P Q d.some some)

    -- what the pairs leave
    module _ (pairs : QuarterWaves) (h : pairs ≡ divided p (q ⊕ q)) where
      is : pairs ≡ waves (P / (2 * Q)) (of (P % (2 * Q)))
      is = h ∙ by_counts p (q ⊕ q) P (2 * Q) refl pair.is

      count_is : pairs.count ≡ P / (2 * Q)
      count_is = ap (λ (w : QuarterWaves). w.count) is

      over_is : pairs.remainder_nm ≡ of (P % (2 * Q))
      over_is = ap (λ (w : QuarterWaves). w.remainder_nm) is

      pub few : pairs.count < 2 ^ 31
      few = subst (λ (n : ℕ). n < 2 ^ 31) (sym count_is) ((div-lt_iff_lt-mul (subst (λ (n : ℕ). 0 < n) pair.is again.some)).1 (subst (λ (n : ℕ). P < 2 ^ 31 * n) pair.is again.times))

      over : Counted pairs.remainder_nm (P % (2 * Q))
      over = subst (λ (x : Float). Counted x (P % (2 * Q))) (sym over_is) (mod_counts dividend pair (subst (λ (n : ℕ). 0 < n) pair.is again.some))

      pub even : lt pairs.remainder_nm q ≡ true → waves (2 * pairs.count) pairs.remainder_nm ≡ divided p q
      even t =
          let l : P % (2 * Q) < Q = lt_counts over divisor (subst T (sym t) tt) in
          both (2 * pairs.count) (P / Q) pairs.remainder_nm (of (P % Q)) (ap (λ (n : ℕ). 2 * n) count_is ∙ sym (halves.even_div P Q l)) (over_is ∙ ap of (sym (halves.even_mod P Q l))) ∙ sym (by_counts p q P Q refl refl)

      pub odd : lt pairs.remainder_nm q ≡ false → waves (2 * pairs.count + 1) (pairs.remainder_nm ⊖ q) ≡ divided p q
      odd t =
          let k : Q ≤ P % (2 * Q) = not_lt_counts over divisor (subst (λ (b : Bool). T (not b)) (sym t) tt) in
          let l : P % (2 * Q) - Q < Q = rest (P % (2 * Q)) Q d.some (mod-lt P (subst (λ (n : ℕ). 0 < n) pair.is again.some)) in
          both (2 * pairs.count + 1) (P / Q) (pairs.remainder_nm ⊖ q) (of (P % Q)) (ap (λ (n : ℕ). 2 * n + 1) count_is ∙ sym (halves.odd_div P Q k l)) (sub_counts over divisor k ∙ ap of (sym (halves.odd_mod P Q k l))) ∙ sym (by_counts p q P Q refl refl)
        where
          rest : (r q : ℕ) → 0 < q → r < 2 * q → r - q < q
          rest r q h k = omega arith
